-- What a try of any call but an open breaks, unless the call changes oplocks otherwise (`changes_own`): the oplocks of sets that
-- it may break, and of these all, where it ends with a status that comes only behind its breaks, or is held and doesn't rename.
-- The definitions of each request are followed once for both; what breaks nothing leaves oplocks as they are.
use Rattle.std.proofs.Common.{◌≡◌, ℕ, Bool, true, false, not, List, [], ◌∷◌, length, refl, sym, ap, ◌∙◌, inl, inr, Option, Some, None}
use Rattle.std.specs.Option.{option_map_or}
use Rattle.std.specs.Prelude.{⊤, ◌==◌, is_some, All, option_and_then, if◌then◌else◌}
use Rattle.std.proofs.lemmas.Bool.{cases_Bool, eqb-true}
use Rattle.std.proofs.lemmas.List.Elements.{All-nil, All-cons}
use Rattle.fsa_types.specs.Paths.{components}
use Rattle.fsa_types.specs.Rows.{row_of}
use Rattle.fsa_types.specs.declared.oplock.Class.{Class}
use Rattle.fsa_types.specs.declared.oplock.Class.TheVariants.{NameChange, ReadOpen, Change}
use Rattle.fsa_types.specs.declared.oplock.HandleSet.{HandleSet}
use Rattle.fsa_types.specs.declared.oplock.HandleSet.TheVariants as set
use Rattle.fsa_types.specs.declared.reply.Blocker.{Blocker}
use Rattle.fsa_types.specs.declared.reply.Interim.{Interim}
use Rattle.fsa_types.specs.declared.reply.Reply.{Reply}
use Rattle.fsa_types.specs.declared.request.Call.{Call}
use Rattle.fsa_types.specs.declared.request.Request.{Request}
use Rattle.fsa_types.specs.declared.request.Request.TheVariants as request
use Rattle.fsa_types.specs.declared.request.What.{What}
use Rattle.fsa_types.specs.declared.request.What.TheVariants.{Ask, Tick, WaitFor, Leave}
use Rattle.fsa_types.specs.declared.status.Status.{Status}
use Rattle.fsa_types.specs.declared.status.Status.TheVariants.{Success, InvalidHandle}
use Rattle.fsa_model.specs.Breaks.{with_breaks}
use Rattle.fsa_model.specs.Close.{named_stream}
use Rattle.fsa_model.specs.Coherence.{acting_handle, acting_key, handle_asked, key_brought}
use Rattle.fsa_model.specs.Frame.{asks_create}
use Rattle.fsa_model.specs.Link.{link_at, link_by, link_file, link_into, link_over, link_over_broken, link_over_closed, link_over_other, link_walked, try_link}
use Rattle.fsa_model.specs.Locking.{lock_at, lock_by, lock_free, lock_range, lock_stream, try_lock, try_unlock, unlock_at, unlock_by, unlock_range}
use Rattle.fsa_model.specs.Lookups.{child_of, handle_of, is_directory, linked_file}
use Rattle.fsa_model.specs.Open.{stopped}
use Rattle.fsa_model.specs.Outcome.{Outcome, Done, Stay, Hold, refused}
use Rattle.fsa_model.specs.Read.{read_at, read_by, read_bytes, read_range, read_stream, read_unlocked, try_read}
use Rattle.fsa_model.specs.Rename.{naming_by, rename_at, rename_below_closed, rename_by, rename_directory, rename_done, rename_free, rename_into, rename_link, rename_named, rename_over, rename_over_broken, rename_over_closed, rename_walked, replaced_link, try_rename}
use Rattle.fsa_model.specs.Replacement.{Naming, new_name, replace_fault}
use Rattle.fsa_model.specs.SetDisposition.{delete_by, delete_marked, marked_handles, set_disposition_at, set_disposition_by, try_set_disposition}
use Rattle.fsa_model.specs.SetEnd.{set_end_at, set_end_by, set_end_grown, set_end_stream, set_end_to, try_set_end}
use Rattle.fsa_model.specs.Try.{try_request, try_what}
use Rattle.fsa_model.specs.Turn.{volume_after}
use Rattle.fsa_model.specs.Volume.{Handle, Volume}
use Rattle.fsa_model.specs.Waits.{waits_for, held_by}
use Rattle.fsa_model.specs.Walk.{Walked, Reached, Barred, Diverted, last_name, point_of, walk}
use Rattle.fsa_model.specs.Write.{try_write, write_at, write_at_place, write_by, write_bytes, write_grown, write_range, write_stream, write_unlocked}
use Rattle.fsa_model.proofs.BreakLaws.{with_breaks-rest}
use Rattle.fsa_model.proofs.FaultStatuses.{BarsWithout, replace-fails, stop-fails, walk-fails}
use Rattle.fsa_model.proofs.RowLaws.{option_cases}
use Rattle.history_laws.specs.OplockChanges.{IsLinkAt, MayBreak, Opens, OnStream, Marks, Renames, RenamesAbove, RenamesOver, LinksOver, WherePast, breaks_on_stream, changes_own, ends_only_behind_breaks, handle_numbered, renames, stream_numbered}
use Rattle.history_laws.specs.WaitEnds.{is_success}
use Rattle.history_laws.proofs.ByBreaks.{ByAtMost, TriesByClass, by-same, none-breaks}
use Rattle.history_laws.proofs.SetsBroken.{BreaksSetsBy, IsOneOf, with_sets_broken}
use Rattle.history_laws.proofs.TriesByBreaks.{delete_reparse, end_set, flush, get_reparse, linked, locked, mark, notify, query_dir, query_info, query_quota, renamed, set_basic, set_quota, set_reparse, set_security, wait, written}

-- ---- statuses of ends

-- of a rename, a link and a mark SUCCESS alone comes only behind their breaks
pub rename-success : (number : ℕ) (path : List ℕ) (replace : Bool) (status : Status) → ends_only_behind_breaks (Ask (request.Rename number path replace)) status ≡ true → is_success status ≡ true
rename-success number path replace Success past = refl
rename-success number path replace _ past = cc

link-success : (number : ℕ) (path : List ℕ) (replace : Bool) (status : Status) → ends_only_behind_breaks (Ask (request.Link number path replace)) status ≡ true → is_success status ≡ true
link-success number path replace Success past = refl
link-success number path replace _ past = cc

mark-success : (number : ℕ) (delete : Bool) (status : Status) → ends_only_behind_breaks (Ask (request.SetDisposition number delete)) status ≡ true → is_success status ≡ true
mark-success number delete Success past = refl
mark-success number delete _ past = cc

-- ---- tries that break some sets

-- where the try has ended with such a status, or is held and that counts
abbrev AtEnd : (Status → Bool) → Bool → Type 0 → Outcome → Type 0
AtEnd past held Such (Done v reply) = past reply.status ≡ true → Such
AtEnd past held Such (Hold v blockers interim) = held ≡ true → Such
AtEnd past held Such (Stay v interim) = ⊤

-- from this volume on the try breaks sets of this kind alone, one after the other; at such an end they are as many as they need
-- to be
record Breaks (past : Status → Bool) (held : Bool) (class : Class) (acting : Option ℕ) (key : ℕ) (May : HandleSet → Type 0) (Enough : List HandleSet → Type 0) (v : Volume) (outcome : Outcome) : Type 0 where
  sets : List HandleSet
  may : All May sets
  oplocks : (volume_after outcome).oplocks ≡ (with_sets_broken class acting key sets v).oplocks
  enough : AtEnd past held (Enough sets) outcome

module _ {past : Status → Bool} {held : Bool} {class : Class} {acting : Option ℕ} {key : ℕ} {May : HandleSet → Type 0} {Enough : List HandleSet → Type 0} where
  breaks-done : {v w : Volume} {reply : Reply} → ByAtMost None v w → Enough [] → Breaks past held class acting key May Enough v (Done w reply)
  breaks-done stays enough = record { sets = []; may = All-nil _; oplocks = none-breaks stays; enough = λ done. enough }

  -- it is refused before the breaks, or ends otherwise without having come past them
  breaks-undone : {v : Volume} {reply : Reply} → past reply.status ≡ false → Breaks past held class acting key May Enough v (Done v reply)
  breaks-undone fails = record { sets = []; may = All-nil _; oplocks = refl; enough = λ done. (let impossible = rw fails at done in cc) }

  breaks-held : {v : Volume} {blockers : List Blocker} {interim : Interim} → Enough [] → Breaks past held class acting key May Enough v (Hold v blockers interim)
  breaks-held enough = record { sets = []; may = All-nil _; oplocks = refl; enough = λ so. enough }

  breaks-if : {v : Volume} (test : Bool) (one other : Outcome) → (test ≡ true → Breaks past held class acting key May Enough v one) → (test ≡ false → Breaks past held class acting key May Enough v other)
      → Breaks past held class acting key May Enough v (if test then one else other)
  breaks-if true one other holds fails = holds refl
  breaks-if false one other holds fails = fails refl

  breaks-option : {X : Type 0} {v : Volume} (found : Option X) (some : X → Outcome) (none : Outcome) → ((x : X) → found ≡ Some x → Breaks past held class acting key May Enough v (some x))
      → (found ≡ None → Breaks past held class acting key May Enough v none) → Breaks past held class acting key May Enough v (option_map_or some found none)
  breaks-option None some none with_some with_none = with_none refl
  breaks-option (Some x) some none with_some with_none = with_some x refl

  -- refused, or on
  breaks-unless : {v : Volume} (test : Bool) (status : Status) (other : Outcome) → past status ≡ false → Breaks past held class acting key May Enough v other
      → Breaks past held class acting key May Enough v (if test then refused v status else other)
  breaks-unless {v} test status other fails goes = breaks-if test (refused v status) other (λ holds. breaks-undone fails) (λ no. goes)

  -- held by breaks, or on after them
  breaks-first : (v : Volume) (on : HandleSet) (outcome : Outcome) → May on → (held ≡ true → Enough (on ∷ []))
      → Breaks past held class acting key May (λ sets. Enough (on ∷ sets)) (with_breaks v on class acting key) outcome
      → Breaks past held class acting key May Enough v (if waits_for v on class acting key then held_by v on class acting key else outcome)
  breaks-first v on outcome may enough goes = breaks-if (waits_for v on class acting key) (held_by v on class acting key) outcome
      (λ waits. record { sets = on ∷ []; may = All-cons May on [] may (All-nil _); oplocks = refl; enough = enough })
      (λ free. record { sets = on ∷ goes.sets; may = All-cons May on goes.sets may goes.may; oplocks = goes.oplocks; enough = goes.enough })

  -- by those of one set
  breaks-set : (v : Volume) (on : HandleSet) (outcome : Outcome) → May on → Enough (on ∷ [])
      → Breaks past held class acting key May (λ sets. Enough (on ∷ sets)) (with_breaks v on class acting key) outcome
      → Breaks past held class acting key May Enough v (if waits_for v on class acting key then held_by v on class acting key else outcome)
  breaks-set v on outcome may enough goes = breaks-first v on outcome may (λ so. enough) goes

ruleset going = (breaks-set, breaks-if, breaks-option, breaks-undone, breaks-done, by-same, refl)

-- the sets of which the call may break oplocks are all among these, and it breaks them by this class
abbrev AreAll : Volume → Call → Class → List HandleSet → Type 0
AreAll v call class sets = (other : Class) (on : HandleSet) → MayBreak v call other on → (other ≡ class) × IsOneOf on sets

-- a try of the call, which asks for this, breaks by one class sets that it may break alone, and all of them where it comes past
-- its breaks
pub record BreaksJust (v : Volume) (call : Call) (what : What) (outcome : Outcome) : Type 0 where
  pub class : Class
  pub sets : List HandleSet
  pub may : All (λ on. MayBreak v call class on) sets
  pub oplocks : (volume_after outcome).oplocks ≡ (with_sets_broken class (acting_handle v call.client call.what) (acting_key v call.client call.what) sets v).oplocks
  pub all : WherePast what (λ next. AreAll v call class sets) outcome

sets-just : {v : Volume} {call : Call} {what : What} {outcome : Outcome} → BreaksJust v call what outcome → BreaksSetsBy v call outcome
sets-just just = record { class = just.class; sets = just.sets; may = just.may; oplocks = just.oplocks }

-- what breaks nothing
sets-none : {v : Volume} {call : Call} {outcome : Outcome} → TriesByClass None v outcome → BreaksSetsBy v call outcome
sets-none goes = record { class = Change; sets = []; may = All-nil _; oplocks = none-breaks goes.so }

-- such ends are among those that count
at-end : {past : Status → Bool} {held : Bool} (what : What) (Such : Type 0) (outcome : Outcome) → ((status : Status) → ends_only_behind_breaks what status ≡ true → past status ≡ true)
    → (renames what ≡ false → held ≡ true) → AtEnd past held Such outcome → WherePast what (λ next. Such) outcome
at-end what Such (Done w reply) ends counts enough = λ so. enough (ends reply.status so)
at-end what Such (Hold w blockers interim) ends counts enough = λ so. enough (counts so)
at-end what Such (Stay w interim) ends counts enough = tt

-- by the handle of this number
of-handle : {past : Status → Bool} {held : Bool} {class : Class} {v : Volume} {call : Call} {what : What} {number : ℕ} (out : ℕ → Handle → Outcome) → call.what ≡ what
    → handle_asked what ≡ Some number → key_brought what ≡ None → ends_only_behind_breaks what InvalidHandle ≡ false
    → ((status : Status) → ends_only_behind_breaks what status ≡ true → past status ≡ true) → (renames what ≡ false → held ≡ true)
    → ((id : ℕ) (handle : Handle) → handle_of v call.client number ≡ Some id → row_of v.handles id ≡ Some handle
    → Breaks past held class (Some id) handle.key (MayBreak v call class) (AreAll v call class) v (out id handle))
    → BreaksJust v call what (option_map_or (λ id. option_map_or (λ handle. out id handle) (row_of v.handles id) (refused v InvalidHandle)) (handle_of v call.client number) (refused v InvalidHandle))
of-handle {past} {held} {class} {v} {call} {what} {number} out is asked brought early ends counts goes = elim (option_cases (handle_of v call.client number)) [
  | inl closed ↦ rw closed (record { class = class; sets = []; may = All-nil _; oplocks = refl; all = λ done. (let impossible = rw early at done in cc) })
  | inr id ↦ rw id.1 (elim (option_cases (row_of v.handles id.0)) [
    | inl gone ↦ rw gone (record { class = class; sets = []; may = All-nil _; oplocks = refl; all = λ done. (let impossible = rw early at done in cc) })
    | inr handle ↦ rw handle.1 (
        let so = goes id.0 handle.0 id.1 handle.1 in
        record { class = class; sets = so.sets; may = so.may; oplocks = rw (is, asked, brought, id.1, handle.1) so.oplocks; all = at-end what _ (out id.0 handle.0) ends counts so.enough })
  ])
]

-- ---- reads, writes, new lengths and locks

-- such a call may break oplocks on the stream alone
stream-all : (v : Volume) (call : Call) (kind : Class) (number stream : ℕ) → breaks_on_stream call.what ≡ Some (number, kind) → stream_numbered v call.client number ≡ Some stream
    → AreAll v call kind (set.Stream stream ∷ [])
stream-all v call kind number stream is under other on (Opens path wanted share disposition options attributes key asks named classed breaks) = (let impossible = rw asks at is in cc)
stream-all v call kind number stream is under other on (OnStream asked its so there set_so) =
    let number_so : asked ≡ number = ap (λ (found : Option (ℕ × Class)). option_map_or (λ one. one.0) found 0) (sym so ∙ is) in
    let kind_so : other ≡ kind = ap (λ (found : Option (ℕ × Class)). option_map_or (λ one. one.1) found Change) (sym so ∙ is) in
    let one : Some its ≡ Some stream = sym there ∙ rw number_so under in (kind_so, inl (let stream_so : its ≡ stream = cc in rw (← stream_so) set_so))
stream-all v call kind number stream is under other on (Marks asked handle asks row classed set_so) = (let impossible = rw asks at is in cc)
stream-all v call kind number stream is under other on (Renames asked path replace handle asks row classed set_so) = (let impossible = rw asks at is in cc)
stream-all v call kind number stream is under other on (RenamesAbove asked path replace handle asks row classed directory set_so) = (let impossible = rw asks at is in cc)
stream-all v call kind number stream is under other on (RenamesOver asked id to leave over its asks named living there apart free classed set_so) = (let impossible = rw asks at is in cc)
stream-all v call kind number stream is under other on (LinksOver asked id to leave over its asks named living there apart free classed set_so) = (let impossible = rw asks at is in cc)

-- of no bytes it may break none
abbrev is_of_bytes : What → Bool
is_of_bytes (Ask (request.Read number at count)) = true
is_of_bytes (Ask (request.Write number at bytes)) = true
is_of_bytes _ = false

bytes-none : (v : Volume) (call : Call) (kind : Class) → is_of_bytes call.what ≡ true → breaks_on_stream call.what ≡ None → AreAll v call kind []
bytes-none v call kind is none other on (Opens path wanted share disposition options attributes key asks named classed breaks) = (let impossible = rw asks at is in cc)
bytes-none v call kind is none other on (OnStream asked its so there set_so) = (let impossible = sym so ∙ none in cc)
bytes-none v call kind is none other on (Marks asked handle asks row classed set_so) = (let impossible = rw asks at is in cc)
bytes-none v call kind is none other on (Renames asked path replace handle asks row classed set_so) = (let impossible = rw asks at is in cc)
bytes-none v call kind is none other on (RenamesAbove asked path replace handle asks row classed directory set_so) = (let impossible = rw asks at is in cc)
bytes-none v call kind is none other on (RenamesOver asked id to leave over its asks named living there apart free classed set_so) = (let impossible = rw asks at is in cc)
bytes-none v call kind is none other on (LinksOver asked id to leave over its asks named living there apart free classed set_so) = (let impossible = rw asks at is in cc)

read-stream : {May : HandleSet → Type 0} {Enough : List HandleSet → Type 0} (v : Volume) (number id : ℕ) (handle : Handle) (stream at count : ℕ) → ((count == 0) ≡ false → May (set.Stream stream))
    → ((count == 0) ≡ true → Enough []) → ((count == 0) ≡ false → Enough (set.Stream stream ∷ []))
    → Breaks (ends_only_behind_breaks (Ask (request.Read number at count))) true ReadOpen (Some id) handle.key May Enough v (read_stream v id handle stream at count)
unfolding read_stream read_range read_unlocked read_bytes
read-stream v number id handle stream at count may nothing enough = elim (cases_Bool (count == 0)) [
  | inl none ↦ rw none (let so = nothing none in search (breaks-if, breaks-undone, breaks-done, by-same, so) depth 60 fits 4000)
  | inr some ↦ rw some (let so = may some in let all = enough some in search (going, so, all) depth 60 fits 4000)
]

pub read : (v : Volume) (call : Call) (number at count : ℕ) → call.what ≡ Ask (request.Read number at count)
    → BreaksJust v call (Ask (request.Read number at count)) (try_read v call.client number at count)
unfolding try_read read_at read_by
read v call number at count is = of-handle {held = true} {class = ReadOpen} _ is refl refl refl (λ status so. so) (λ so. refl) (λ id handle opened row.
    breaks-option handle.stream (λ stream. read_stream v id handle stream at count) _ (λ stream has.
    read-stream v number id handle stream at count (λ some. OnStream number stream (rw (is, some) refl) (rw (opened, row, has) refl) refl)
    (λ none. bytes-none v call ReadOpen (rw is refl) (rw (is, none) refl)) (λ some. stream-all v call ReadOpen number stream (rw (is, some) refl) (rw (opened, row, has) refl)))
    (λ without. breaks-undone refl))

write-stream : {May : HandleSet → Type 0} {Enough : List HandleSet → Type 0} (v : Volume) (number id : ℕ) (handle : Handle) (stream : ℕ) (at : Option ℕ) (bytes : List ℕ)
    → ((length bytes == 0) ≡ false → May (set.Stream stream)) → ((length bytes == 0) ≡ true → Enough []) → ((length bytes == 0) ≡ false → Enough (set.Stream stream ∷ []))
    → Breaks (ends_only_behind_breaks (Ask (request.Write number at bytes))) true Change (Some id) handle.key May Enough v (write_stream v id handle stream at bytes)
unfolding write_stream write_at_place write_range write_unlocked write_grown write_bytes
write-stream v number id handle stream at bytes may nothing enough = elim (cases_Bool (length bytes == 0)) [
  | inl none ↦ rw none (let so = nothing none in search (breaks-if, breaks-undone, breaks-done, by-same, so) depth 60 fits 4000)
  | inr some ↦ rw some (let so = may some in let all = enough some in search (going, written, so, all) depth 60 fits 4000)
]

pub write : (v : Volume) (call : Call) (number : ℕ) (at : Option ℕ) (bytes : List ℕ) → call.what ≡ Ask (request.Write number at bytes)
    → BreaksJust v call (Ask (request.Write number at bytes)) (try_write v call.client number at bytes)
unfolding try_write write_at write_by
write v call number at bytes is = of-handle {held = true} {class = Change} _ is refl refl refl (λ status so. so) (λ so. refl) (λ id handle opened row.
    breaks-option handle.stream (λ stream. write_stream v id handle stream at bytes) _ (λ stream has.
    write-stream v number id handle stream at bytes (λ some. OnStream number stream (rw (is, some) refl) (rw (opened, row, has) refl) refl)
    (λ none. bytes-none v call Change (rw is refl) (rw (is, none) refl)) (λ some. stream-all v call Change number stream (rw (is, some) refl) (rw (opened, row, has) refl)))
    (λ without. breaks-undone refl))

set_end-stream : {May : HandleSet → Type 0} {Enough : List HandleSet → Type 0} (v : Volume) (number id : ℕ) (handle : Handle) (stream end : ℕ) → May (set.Stream stream) → Enough (set.Stream stream ∷ [])
    → Breaks (ends_only_behind_breaks (Ask (request.SetEnd number end))) true Change (Some id) handle.key May Enough v (set_end_stream v id handle stream end)
unfolding set_end_stream set_end_to set_end_grown
set_end-stream v number id handle stream end may enough = search (going, end_set, may, enough) depth 60 fits 4000

pub set_end : (v : Volume) (call : Call) (number end : ℕ) → call.what ≡ Ask (request.SetEnd number end)
    → BreaksJust v call (Ask (request.SetEnd number end)) (try_set_end v call.client number end)
unfolding try_set_end set_end_at set_end_by
set_end v call number end is = of-handle {held = true} {class = Change} _ is refl refl refl (λ status so. so) (λ so. refl) (λ id handle opened row.
    breaks-option handle.stream (λ stream. set_end_stream v id handle stream end) _ (λ stream has.
    set_end-stream v number id handle stream end (OnStream number stream (rw is refl) (rw (opened, row, has) refl) refl) (stream-all v call Change number stream (rw is refl) (rw (opened, row, has) refl)))
    (λ without. breaks-undone refl))

lock-stream : {May : HandleSet → Type 0} {Enough : List HandleSet → Type 0} (v : Volume) (number id : ℕ) (handle : Handle) (stream at count : ℕ) (exclusive wait : Bool) → May (set.Stream stream)
    → Enough (set.Stream stream ∷ []) → Breaks (ends_only_behind_breaks (Ask (request.Lock number at count exclusive wait))) true Change (Some id) handle.key May Enough v (lock_stream v id handle stream at count exclusive wait)
unfolding lock_stream lock_range lock_free
lock-stream v number id handle stream at count exclusive wait may enough = search (going, breaks-held, locked, may, enough) depth 60 fits 4000

pub lock : (v : Volume) (call : Call) (number at count : ℕ) (exclusive wait : Bool) → call.what ≡ Ask (request.Lock number at count exclusive wait)
    → BreaksJust v call (Ask (request.Lock number at count exclusive wait)) (try_lock v call.client number at count exclusive wait)
unfolding try_lock lock_at lock_by
lock v call number at count exclusive wait is = of-handle {held = true} {class = Change} _ is refl refl refl (λ status so. so) (λ so. refl) (λ id handle opened row.
    breaks-option handle.stream (λ stream. lock_stream v id handle stream at count exclusive wait) _ (λ stream has.
    lock-stream v number id handle stream at count exclusive wait (OnStream number stream (rw is refl) (rw (opened, row, has) refl) refl)
    (stream-all v call Change number stream (rw is refl) (rw (opened, row, has) refl))) (λ without. breaks-undone refl))

-- ---- marks for deletion

-- a mark may break oplocks of what is marked alone, and one that is cleared none
marks-all : (v : Volume) (call : Call) (number : ℕ) (handle : Handle) → call.what ≡ Ask (request.SetDisposition number true) → handle_numbered v call.client number ≡ Some handle
    → AreAll v call NameChange (marked_handles v handle ∷ [])
marks-all v call number handle is opened other on (Opens path wanted share disposition options attributes key asks named classed breaks) = cc
marks-all v call number handle is opened other on (OnStream asked its so there set_so) = (let impossible = rw is at so in cc)
marks-all v call number handle is opened other on (Marks asked its asks row classed set_so) =
    let number_so : asked ≡ number = cc in let one : Some its ≡ Some handle = sym row ∙ rw number_so opened in (classed, inl (let handle_so : its ≡ handle = cc in rw (← handle_so) set_so))
marks-all v call number handle is opened other on (Renames asked path replace its asks row classed set_so) = cc
marks-all v call number handle is opened other on (RenamesAbove asked path replace its asks row classed directory set_so) = cc
marks-all v call number handle is opened other on (RenamesOver asked id to leave over its asks named living there apart free classed set_so) = cc
marks-all v call number handle is opened other on (LinksOver asked id to leave over its asks named living there apart free classed set_so) = cc

marks-none : (v : Volume) (call : Call) (number : ℕ) → call.what ≡ Ask (request.SetDisposition number false) → AreAll v call NameChange []
marks-none v call number is other on (Opens path wanted share disposition options attributes key asks named classed breaks) = cc
marks-none v call number is other on (OnStream asked its so there set_so) = (let impossible = rw is at so in cc)
marks-none v call number is other on (Marks asked its asks row classed set_so) = cc
marks-none v call number is other on (Renames asked path replace its asks row classed set_so) = cc
marks-none v call number is other on (RenamesAbove asked path replace its asks row classed directory set_so) = cc
marks-none v call number is other on (RenamesOver asked id to leave over its asks named living there apart free classed set_so) = cc
marks-none v call number is other on (LinksOver asked id to leave over its asks named living there apart free classed set_so) = cc

delete-by : {May : HandleSet → Type 0} {Enough : List HandleSet → Type 0} (v : Volume) (id : ℕ) (handle : Handle) → May (marked_handles v handle) → Enough (marked_handles v handle ∷ [])
    → Breaks is_success true NameChange (Some id) handle.key May Enough v (delete_by v id handle)
unfolding delete_by delete_marked
delete-by v id handle may enough = search (going, mark, may, enough) depth 60 fits 4000

set_disposition-by : {May : HandleSet → Type 0} {Enough : List HandleSet → Type 0} (v : Volume) (id : ℕ) (handle : Handle) (delete : Bool) → (delete ≡ true → May (marked_handles v handle))
    → (delete ≡ true → Enough (marked_handles v handle ∷ [])) → (delete ≡ false → Enough []) → Breaks is_success true NameChange (Some id) handle.key May Enough v (set_disposition_by v id handle delete)
unfolding set_disposition_by
set_disposition-by v id handle true may enough nothing = breaks-unless _ _ _ refl (delete-by v id handle (may refl) (enough refl))
set_disposition-by v id handle false may enough nothing = breaks-unless _ _ _ refl (breaks-done (mark v handle false) (nothing refl))

pub set_disposition : (v : Volume) (call : Call) (number : ℕ) (delete : Bool) → call.what ≡ Ask (request.SetDisposition number delete)
    → BreaksJust v call (Ask (request.SetDisposition number delete)) (try_set_disposition v call.client number delete)
unfolding try_set_disposition set_disposition_at
set_disposition v call number delete is = of-handle {past = is_success} {held = true} {class = NameChange} _ is refl refl refl (mark-success number delete) (λ so. refl) (λ id handle opened row.
    set_disposition-by v id handle delete (λ deletes. Marks number handle (rw deletes at is) (rw opened row) refl refl)
    (λ deletes. marks-all v call number handle (rw deletes at is) (rw opened row)) (λ clears. marks-none v call number (rw clears at is)))

-- ---- new names

stops : {held : Bool} {class : Class} {acting : Option ℕ} {key : ℕ} {May : HandleSet → Type 0} {Enough : List HandleSet → Type 0} (v : Volume) (file : ℕ) (rest : List ℕ)
    → Breaks is_success held class acting key May Enough v (stopped v file rest)
unfolding stopped
stops v file rest = breaks-option (point_of v file) _ _ (λ point is. breaks-undone (stop-fails is_success point.0 refl refl)) (λ isnt. breaks-undone refl)

-- what stands there is replaced, or is not, for a fault
fault-undone : {held : Bool} {class : Class} {acting : Option ℕ} {key : ℕ} {May : HandleSet → Type 0} {Enough : List HandleSet → Type 0} (v : Volume) (naming : Naming) (link : ℕ) (other : Outcome)
    → (replace_fault v naming link ≡ None → Breaks is_success held class acting key May Enough v other)
    → Breaks is_success held class acting key May Enough v (option_map_or (λ status. refused v status) (replace_fault v naming link) other)
fault-undone v naming link other goes = breaks-option (replace_fault v naming link) _ other (λ status is. breaks-undone (replace-fails is_success v naming link status refl refl refl is)) goes

-- the walk reaches one directory
pub at_link : (v : Volume) (path : List ℕ) (dir link : ℕ) → walk v (components path) ≡ Reached dir → IsLinkAt v path link → child_of v dir (last_name (components path)) ≡ Some link
at_link v path dir link reached there = (let same : there.0 ≡ dir = (let one : Reached there.0 ≡ Reached dir = sym there.1 ∙ reached in cc) in rw same at there.2)

-- ---- further links

-- the link at the new name, where it is another file's
abbrev others_set : Volume → ℕ → Option ℕ → List HandleSet
others_set v file None = []
others_set v file (Some link) = if linked_file v link == file then [] else set.Link link ∷ []

-- a link may break oplocks of that alone
links-all : (v : Volume) (call : Call) (number dir : ℕ) (path : List ℕ) (replace : Bool) (handle : Handle) → call.what ≡ Ask (request.Link number path replace)
    → handle_numbered v call.client number ≡ Some handle → walk v (components path) ≡ Reached dir
    → AreAll v call NameChange (others_set v (linked_file v handle.link) (child_of v dir (last_name (components path))))
links-all v call number dir path replace handle is opened reached other on (Opens asked wanted share disposition options attributes key asks named classed breaks) = cc
links-all v call number dir path replace handle is opened reached other on (OnStream asked its so there set_so) = (let impossible = rw is at so in cc)
links-all v call number dir path replace handle is opened reached other on (Marks asked its asks row classed set_so) = cc
links-all v call number dir path replace handle is opened reached other on (Renames asked to leave its asks row classed set_so) = cc
links-all v call number dir path replace handle is opened reached other on (RenamesAbove asked to leave its asks row classed directory set_so) = cc
links-all v call number dir path replace handle is opened reached other on (RenamesOver asked id to leave over its asks named living there apart free classed set_so) = cc
links-all v call number dir path replace handle is opened reached other on (LinksOver asked id to leave over its asks named living there apart free classed set_so) =
    let number_so : asked ≡ number = cc in let path_so : to ≡ path = cc in let row : handle_numbered v call.client asked ≡ Some its = rw named living in
    let one : Some its ≡ Some handle = sym row ∙ rw number_so opened in let handle_so : its ≡ handle = cc in
    let differs : (linked_file v over == linked_file v handle.link) ≡ false = rw handle_so at apart in (classed, rw (at_link v path dir over reached (rw path_so at there), differs) (inl set_so))

link-over_closed : {May : HandleSet → Type 0} {Enough : List HandleSet → Type 0} (v : Volume) (naming : Naming) (dir link : ℕ) → May (set.Link link) → Enough (set.Link link ∷ [])
    → Breaks is_success true NameChange (Some naming.handle) naming.key May Enough v (link_over_broken v naming dir link)
unfolding link_over_broken link_over_closed
link-over_closed v naming dir link may enough = search (going, linked, may, enough) depth 60 fits 4000

link-over : {May : HandleSet → Type 0} {Enough : List HandleSet → Type 0} (v : Volume) (naming : Naming) (dir link : ℕ)
    → ((linked_file v link == naming.file) ≡ false → replace_fault v naming link ≡ None → May (set.Link link)) → Enough (others_set v naming.file (Some link))
    → Breaks is_success true NameChange (Some naming.handle) naming.key May Enough v (link_over v naming dir link)
unfolding link_over link_over_other
link-over v naming dir link may enough = elim (cases_Bool (linked_file v link == naming.file)) [
  | inl same ↦ rw same (let so = rw same at enough in search (breaks-if, breaks-undone, breaks-done, by-same, so))
  | inr differs ↦ rw differs (let so = rw differs at enough in fault-undone v naming link _ (λ free. link-over_closed v naming dir link (may differs free) so))
]

link-into : {May : HandleSet → Type 0} {Enough : List HandleSet → Type 0} (v : Volume) (naming : Naming) (dir : ℕ)
    → ((link : ℕ) → child_of v dir (new_name naming) ≡ Some link → (linked_file v link == naming.file) ≡ false → replace_fault v naming link ≡ None → May (set.Link link))
    → Enough (others_set v naming.file (child_of v dir (new_name naming))) → Breaks is_success true NameChange (Some naming.handle) naming.key May Enough v (link_into v naming dir)
unfolding link_into
link-into v naming dir may enough = breaks-unless _ _ _ refl
    (breaks-option (child_of v dir (new_name naming)) _ _ (λ link there. link-over v naming dir link (may link there) (rw there at enough)) (λ none. breaks-done (linked v naming dir None) (rw none at enough)))

link-walked : {May : HandleSet → Type 0} {Enough : List HandleSet → Type 0} (v : Volume) (naming : Naming) (walked : Walked) → BarsWithout is_success walked
    → ((dir link : ℕ) → walked ≡ Reached dir → child_of v dir (new_name naming) ≡ Some link → (linked_file v link == naming.file) ≡ false → replace_fault v naming link ≡ None → May (set.Link link))
    → ((dir : ℕ) → walked ≡ Reached dir → Enough (others_set v naming.file (child_of v dir (new_name naming)))) → Breaks is_success true NameChange (Some naming.handle) naming.key May Enough v (link_walked v naming walked)
unfolding link_walked
link-walked v naming (Reached dir) undone may enough = link-into v naming dir (λ link. may dir link refl) (enough dir refl)
link-walked v naming (Barred status) undone may enough = breaks-undone undone
link-walked v naming (Diverted file next) undone may enough = stops v file _

link-file : {May : HandleSet → Type 0} {Enough : List HandleSet → Type 0} (v : Volume) (naming : Naming)
    → ((dir link : ℕ) → walk v (components naming.path) ≡ Reached dir → child_of v dir (new_name naming) ≡ Some link → (linked_file v link == naming.file) ≡ false
    → replace_fault v naming link ≡ None → May (set.Link link))
    → ((dir : ℕ) → walk v (components naming.path) ≡ Reached dir → Enough (others_set v naming.file (child_of v dir (new_name naming))))
    → Breaks is_success true NameChange (Some naming.handle) naming.key May Enough v (link_file v naming)
unfolding link_file
link-file v naming may enough = (let undone = walk-fails is_success refl refl v (components naming.path) 1 0 in search (going, link-walked, undone, may, enough) depth 60 fits 4000)

link-by : {May : HandleSet → Type 0} {Enough : List HandleSet → Type 0} (v : Volume) (id : ℕ) (handle : Handle) (path : List ℕ) (replace : Bool)
    → ((dir link : ℕ) → walk v (components path) ≡ Reached dir → child_of v dir (last_name (components path)) ≡ Some link → (linked_file v link == linked_file v handle.link) ≡ false
    → replace_fault v (naming_by v id handle path replace) link ≡ None → May (set.Link link))
    → ((dir : ℕ) → walk v (components path) ≡ Reached dir → Enough (others_set v (linked_file v handle.link) (child_of v dir (last_name (components path)))))
    → Breaks is_success true NameChange (Some id) handle.key May Enough v (link_by v id handle path replace)
unfolding link_by
link-by v id handle path replace may enough =
    breaks-unless (not (is_some handle.stream)) _ _ refl (breaks-unless (is_some (named_stream v handle)) _ _ refl (link-file v (naming_by v id handle path replace) may enough))

pub link : (v : Volume) (call : Call) (number : ℕ) (path : List ℕ) (replace : Bool) → call.what ≡ Ask (request.Link number path replace)
    → BreaksJust v call (Ask (request.Link number path replace)) (try_link v call.client number path replace)
unfolding try_link link_at
link v call number path replace is = of-handle {past = is_success} {held = true} {class = NameChange} _ is refl refl refl (link-success number path replace) (λ so. refl) (λ id handle opened row.
    link-by v id handle path replace (λ dir over reached there apart free. LinksOver number id path replace over handle is opened row (dir, reached, there) apart free refl refl)
    (λ dir reached. links-all v call number dir path replace handle is (rw opened row) reached))

-- ---- renames

-- the link at the new name, where it is another one, and then its own link; a directory's handles below before that
abbrev named_sets : ℕ → Option ℕ → List HandleSet
named_sets own None = set.Link own ∷ []
named_sets own (Some link) = set.Link link ∷ set.Link own ∷ []

abbrev moved_sets : Volume → ℕ → ℕ → Option ℕ → List HandleSet
moved_sets v own file found = if is_directory v.files file then set.Below file ∷ named_sets own found else named_sets own found

-- what is found, but for the link itself
abbrev but_own : ℕ → Option ℕ → Option ℕ
but_own own found = option_and_then (λ link. if link == own then None else Some link) found

is_own-named : (own : ℕ) (found : Option ℕ) → IsOneOf (set.Link own) (named_sets own found)
is_own-named own None = inl refl
is_own-named own (Some over) = inr (inl refl)

is_over-named : (own link : ℕ) → IsOneOf (set.Link link) (named_sets own (but_own own (Some link)))
is_over-named own link = elim (cases_Bool (link == own)) [
  | inl same ↦ rw same (inl (ap (λ l. set.Link l) (eqb-true link own same)))
  | inr differs ↦ rw differs (inl refl)
]

is_named-moved : (v : Volume) (on : HandleSet) (own file : ℕ) (found : Option ℕ) → IsOneOf on (named_sets own found) → IsOneOf on (moved_sets v own file found)
is_named-moved v on own file found is = elim (cases_Bool (is_directory v.files file)) [ inl directory ↦ rw directory (inr is) | inr isnt ↦ rw isnt is ]

-- a rename may break oplocks of those alone
renames-all : (v : Volume) (call : Call) (number dir : ℕ) (path : List ℕ) (replace : Bool) (handle : Handle) → call.what ≡ Ask (request.Rename number path replace)
    → handle_numbered v call.client number ≡ Some handle → walk v (components path) ≡ Reached dir
    → AreAll v call NameChange (moved_sets v handle.link (linked_file v handle.link) (but_own handle.link (child_of v dir (last_name (components path)))))
renames-all v call number dir path replace handle is opened reached other on (Opens asked wanted share disposition options attributes key asks named classed breaks) = cc
renames-all v call number dir path replace handle is opened reached other on (OnStream asked its so there set_so) = (let impossible = rw is at so in cc)
renames-all v call number dir path replace handle is opened reached other on (Marks asked its asks row classed set_so) = cc
renames-all v call number dir path replace handle is opened reached other on (Renames asked to leave its asks row classed set_so) =
    let number_so : asked ≡ number = cc in let one : Some its ≡ Some handle = sym row ∙ rw number_so opened in let handle_so : its ≡ handle = cc in
    (classed, rw (set_so, handle_so) (is_named-moved v _ handle.link _ _ (is_own-named handle.link _)))
renames-all v call number dir path replace handle is opened reached other on (RenamesAbove asked to leave its asks row classed directory set_so) =
    let number_so : asked ≡ number = cc in let one : Some its ≡ Some handle = sym row ∙ rw number_so opened in let handle_so : its ≡ handle = cc in
    let here : is_directory v.files (linked_file v handle.link) ≡ true = rw handle_so at directory in (classed, rw (set_so, handle_so, here) (inl refl))
renames-all v call number dir path replace handle is opened reached other on (RenamesOver asked id to leave over its asks named living there apart free classed set_so) =
    let path_so : to ≡ path = cc in
    (classed, rw (set_so, at_link v path dir over reached (rw path_so at there)) (is_named-moved v _ handle.link _ _ (is_over-named handle.link over)))
renames-all v call number dir path replace handle is opened reached other on (LinksOver asked id to leave over its asks named living there apart free classed set_so) = cc

-- what is found, but for the link itself, is found, and is another
other-found : (found : Option ℕ) (own link : ℕ) → but_own own found ≡ Some link → (found ≡ Some link) × ((link == own) ≡ false)
other-found None own link is = cc
other-found (Some l) own link is = elim (cases_Bool (l == own)) [
  | inl same ↦ (let impossible = rw same at is in cc)
  | inr differs ↦ (let found : Some l ≡ Some link = rw differs at is in let one : l ≡ link = cc in (found, rw (← one) differs))
]

-- breaks leave what has the new name, and whether it can be replaced
child-breaks : (v : Volume) (on : HandleSet) (class : Class) (acting : Option ℕ) (key dir : ℕ) (name : List ℕ) → child_of (with_breaks v on class acting key) dir name ≡ child_of v dir name
child-breaks v on class acting key dir name = ap (λ (w : Volume). child_of w dir name) (with_breaks-rest v on class acting key)

fault-breaks : (v : Volume) (on : HandleSet) (class : Class) (acting : Option ℕ) (key : ℕ) (naming : Naming) (link : ℕ) → replace_fault (with_breaks v on class acting key) naming link ≡ replace_fault v naming link
fault-breaks v on class acting key naming link = ap (λ (w : Volume). replace_fault w naming link) (with_breaks-rest v on class acting key)

rename-free : {May : HandleSet → Type 0} {Enough : List HandleSet → Type 0} (v : Volume) (naming : Naming) (dir : ℕ) (over : Option ℕ) → May (set.Link naming.link) → Enough (set.Link naming.link ∷ [])
    → Breaks is_success false NameChange (Some naming.handle) naming.key May Enough v (rename_free v naming dir over)
unfolding rename_free rename_done
rename-free v naming dir over own enough =
    breaks-first v (set.Link naming.link) _ own (λ so. enough) (search (breaks-if, breaks-done, by-same, renamed, enough) depth 60 fits 4000)

rename-over_broken : {May : HandleSet → Type 0} {Enough : List HandleSet → Type 0} (v : Volume) (naming : Naming) (dir link : ℕ) → May (set.Link naming.link) → May (set.Link link)
    → Enough (set.Link link ∷ set.Link naming.link ∷ []) → Breaks is_success false NameChange (Some naming.handle) naming.key May Enough v (rename_over_broken v naming dir link)
unfolding rename_over_broken rename_over_closed
rename-over_broken v naming dir link own may enough = breaks-first v (set.Link link) _ may (λ so. cc) (breaks-unless _ _ _ refl (rename-free _ naming dir (Some link) own enough))

rename-over : {May : HandleSet → Type 0} {Enough : List HandleSet → Type 0} (v : Volume) (naming : Naming) (dir link : ℕ) → May (set.Link naming.link) → (replace_fault v naming link ≡ None → May (set.Link link))
    → Enough (set.Link link ∷ set.Link naming.link ∷ []) → Breaks is_success false NameChange (Some naming.handle) naming.key May Enough v (rename_over v naming dir link)
unfolding rename_over
rename-over v naming dir link own may enough = fault-undone v naming link _ (λ free. rename-over_broken v naming dir link own (may free) enough)

rename-named : {May : HandleSet → Type 0} {Enough : List HandleSet → Type 0} (v : Volume) (naming : Naming) (dir : ℕ) → May (set.Link naming.link)
    → ((link : ℕ) → child_of v dir (new_name naming) ≡ Some link → (link == naming.link) ≡ false → replace_fault v naming link ≡ None → May (set.Link link))
    → Enough (named_sets naming.link (replaced_link v naming dir)) → Breaks is_success false NameChange (Some naming.handle) naming.key May Enough v (rename_named v naming dir)
unfolding rename_named
rename-named v naming dir own may enough = breaks-unless _ _ _ refl (breaks-option (replaced_link v naming dir) _ _
    (λ link there. let other = other-found _ naming.link link there in rename-over v naming dir link own (may link other.0 other.1) (rw there at enough)) (λ none. rename-free v naming dir None own (rw none at enough)))

rename-below : {May : HandleSet → Type 0} {Enough : List HandleSet → Type 0} (v : Volume) (naming : Naming) (dir : ℕ) → May (set.Link naming.link) → May (set.Below naming.file)
    → ((link : ℕ) → child_of v dir (new_name naming) ≡ Some link → (link == naming.link) ≡ false → replace_fault v naming link ≡ None → May (set.Link link))
    → Enough (set.Below naming.file ∷ named_sets naming.link (replaced_link v naming dir)) → Breaks is_success false NameChange (Some naming.handle) naming.key May Enough v (rename_directory v naming dir)
unfolding rename_directory rename_below_closed
rename-below v naming dir own below may enough =
    let w : Volume = with_breaks v (set.Below naming.file) NameChange (Some naming.handle) naming.key in
    let same = child-breaks v (set.Below naming.file) NameChange (Some naming.handle) naming.key dir (new_name naming) in
    breaks-unless _ _ _ refl (breaks-first v (set.Below naming.file) _ below (λ so. cc) (breaks-unless _ _ _ refl (rename-named w naming dir own
    (λ link there apart free. may link (rw same at there) apart (sym (fault-breaks v (set.Below naming.file) NameChange (Some naming.handle) naming.key naming link) ∙ free)) (rw same enough))))

rename-into : {May : HandleSet → Type 0} {Enough : List HandleSet → Type 0} (v : Volume) (naming : Naming) (dir : ℕ) → May (set.Link naming.link)
    → (is_directory v.files naming.file ≡ true → May (set.Below naming.file))
    → ((link : ℕ) → child_of v dir (new_name naming) ≡ Some link → (link == naming.link) ≡ false → replace_fault v naming link ≡ None → May (set.Link link))
    → Enough (moved_sets v naming.link naming.file (replaced_link v naming dir)) → Breaks is_success false NameChange (Some naming.handle) naming.key May Enough v (rename_into v naming dir)
unfolding rename_into
rename-into v naming dir own below may enough =
    breaks-if (is_directory v.files naming.file) _ _ (λ is. rename-below v naming dir own (below is) may (rw is at enough)) (λ no. rename-named v naming dir own may (rw no at enough))

rename-walked : {May : HandleSet → Type 0} {Enough : List HandleSet → Type 0} (v : Volume) (naming : Naming) (walked : Walked) → BarsWithout is_success walked → May (set.Link naming.link)
    → (is_directory v.files naming.file ≡ true → May (set.Below naming.file))
    → ((dir link : ℕ) → walked ≡ Reached dir → child_of v dir (new_name naming) ≡ Some link → (link == naming.link) ≡ false → replace_fault v naming link ≡ None → May (set.Link link))
    → ((dir : ℕ) → walked ≡ Reached dir → Enough (moved_sets v naming.link naming.file (replaced_link v naming dir)))
    → Breaks is_success false NameChange (Some naming.handle) naming.key May Enough v (rename_walked v naming walked)
unfolding rename_walked
rename-walked v naming (Reached dir) undone own below may enough = rename-into v naming dir own below (λ link. may dir link refl) (enough dir refl)
rename-walked v naming (Barred status) undone own below may enough = breaks-undone undone
rename-walked v naming (Diverted file next) undone own below may enough = stops v file _

rename-link : {May : HandleSet → Type 0} {Enough : List HandleSet → Type 0} (v : Volume) (naming : Naming) (access : ℕ) → May (set.Link naming.link)
    → (is_directory v.files naming.file ≡ true → May (set.Below naming.file))
    → ((dir link : ℕ) → walk v (components naming.path) ≡ Reached dir → child_of v dir (new_name naming) ≡ Some link → (link == naming.link) ≡ false → replace_fault v naming link ≡ None → May (set.Link link))
    → ((dir : ℕ) → walk v (components naming.path) ≡ Reached dir → Enough (moved_sets v naming.link naming.file (replaced_link v naming dir)))
    → Breaks is_success false NameChange (Some naming.handle) naming.key May Enough v (rename_link v naming access)
unfolding rename_link
rename-link v naming access own below may enough = (let undone = walk-fails is_success refl refl v (components naming.path) 1 0 in search (going, rename-walked, undone, own, below, may, enough) depth 60 fits 4000)

rename-by : {May : HandleSet → Type 0} {Enough : List HandleSet → Type 0} (v : Volume) (id : ℕ) (handle : Handle) (path : List ℕ) (replace : Bool) → May (set.Link handle.link)
    → (is_directory v.files (linked_file v handle.link) ≡ true → May (set.Below (linked_file v handle.link)))
    → ((dir link : ℕ) → walk v (components path) ≡ Reached dir → child_of v dir (last_name (components path)) ≡ Some link → (link == handle.link) ≡ false
    → replace_fault v (naming_by v id handle path replace) link ≡ None → May (set.Link link))
    → ((dir : ℕ) → walk v (components path) ≡ Reached dir → Enough (moved_sets v handle.link (linked_file v handle.link) (but_own handle.link (child_of v dir (last_name (components path))))))
    → Breaks is_success false NameChange (Some id) handle.key May Enough v (rename_by v id handle path replace)
unfolding rename_by
rename-by v id handle path replace own below may enough = breaks-unless _ _ _ refl (rename-link v (naming_by v id handle path replace) handle.access own below may enough)

pub rename : (v : Volume) (call : Call) (number : ℕ) (path : List ℕ) (replace : Bool) → call.what ≡ Ask (request.Rename number path replace)
    → BreaksJust v call (Ask (request.Rename number path replace)) (try_rename v call.client number path replace)
unfolding try_rename rename_at
rename v call number path replace is = of-handle {past = is_success} {held = false} {class = NameChange} _ is refl refl refl (rename-success number path replace) (λ so. cc) (λ id handle opened row.
    rename-by v id handle path replace (Renames number path replace handle is (rw opened row) refl refl) (λ directory. RenamesAbove number path replace handle is (rw opened row) refl directory refl)
    (λ dir over reached there apart free. RenamesOver number id path replace over handle is opened row (dir, reached, there) apart free refl refl)
    (λ dir reached. renames-all v call number dir path replace handle is (rw opened row) reached))

-- ---- an unlock

-- a try that comes to this leaves oplocks as they are
record Stays (v : Volume) (outcome : Outcome) : Type 0 where
  so : (volume_after outcome).oplocks ≡ v.oplocks

stays-done : {v w : Volume} {reply : Reply} → w.oplocks ≡ v.oplocks → Stays v (Done w reply)
stays-done same = record { so = same }

stays-option : {X : Type 0} {v : Volume} (found : Option X) (some : X → Outcome) (none : Outcome) → ((x : X) → Stays v (some x)) → Stays v none → Stays v (option_map_or some found none)
stays-option None some none with_some with_none = with_none
stays-option (Some x) some none with_some with_none = with_some x

unlock : (v : Volume) (client handle at count : ℕ) → Stays v (try_unlock v client handle at count)
unfolding try_unlock unlock_at unlock_by unlock_range
unlock v client handle at count = search (stays-option, stays-done)

-- ---- any call that changes oplocks by breaks alone

request-breaks : (v : Volume) (call : Call) (turn : ℕ) (asked : Request) → call.what ≡ Ask asked → changes_own (Ask asked) ≡ false → asks_create (Ask asked) ≡ false
    → BreaksSetsBy v call (try_request v turn call.client call.number asked)
request-breaks v call turn (request.Read handle at count) is others opens = sets-just (read v call handle at count is)
request-breaks v call turn (request.Write handle at bytes) is others opens = sets-just (write v call handle at bytes is)
request-breaks v call turn (request.Flush handle) is others opens = sets-none (flush v call.client handle)
request-breaks v call turn (request.SetEnd handle end) is others opens = sets-just (set_end v call handle end is)
request-breaks v call turn (request.Lock handle at count exclusive wait) is others opens = sets-just (lock v call handle at count exclusive wait is)
request-breaks v call turn (request.Unlock handle at count) is others opens = record { class = Change; sets = []; may = All-nil _; oplocks = Stays.so (unlock v call.client handle at count) }
request-breaks v call turn (request.SetSecurity handle owner dacl) is others opens = sets-none (set_security v call.client handle owner dacl)
request-breaks v call turn (request.QueryDir handle kind expression restart room) is others opens = sets-none (query_dir v call.client handle kind expression restart room)
request-breaks v call turn (request.SetDisposition handle delete) is others opens = sets-just (set_disposition v call handle delete is)
request-breaks v call turn (request.Rename handle path replace) is others opens = sets-just (rename v call handle path replace is)
request-breaks v call turn (request.Link handle path replace) is others opens = sets-just (link v call handle path replace is)
request-breaks v call turn (request.QueryInfo handle kind room) is others opens = sets-none (query_info v call.client handle kind room)
request-breaks v call turn (request.SetBasic handle creation access write change attributes) is others opens = sets-none (set_basic v call.client handle _)
request-breaks v call turn (request.SetReparse handle bytes) is others opens = sets-none (set_reparse v call.client handle bytes)
request-breaks v call turn (request.GetReparse handle room) is others opens = sets-none (get_reparse v call.client handle room)
request-breaks v call turn (request.DeleteReparse handle tag) is others opens = sets-none (delete_reparse v call.client handle tag)
request-breaks v call turn (request.SetQuota sid bytes) is others opens = sets-none (set_quota v call.client sid bytes)
request-breaks v call turn (request.QueryQuota sid) is others opens = sets-none (query_quota v sid)
request-breaks v call turn (request.Notify handle asked whole room) is others opens = sets-none (notify v call.client handle asked whole room)
request-breaks v call turn _ is others opens = cc

pub rest-breaks : (v : Volume) (call : Call) (turn : ℕ) (what : What) → call.what ≡ what → changes_own what ≡ false → asks_create what ≡ false
    → BreaksSetsBy v call (try_what v turn call.client call.number what)
rest-breaks v call turn (Ask asked) is others opens = request-breaks v call turn asked is others opens
rest-breaks v call turn (Tick ticks) is others opens = record { class = Change; sets = []; may = All-nil _; oplocks = refl }
rest-breaks v call turn (WaitFor earlier) is others opens = sets-none (wait v call.client earlier)
rest-breaks v call turn Leave is others opens = cc
