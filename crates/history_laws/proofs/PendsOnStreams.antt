-- A try of a read, a write, a new length, a lock, a mark for deletion or a link that is pending then is held for a cause. Each has
-- one set whose oplocks it breaks, and is held by just the breaks of it that it has to wait for; a lock that waits for no break
-- may be held by just the locks in its way, which the breaks leave as they were. It has passed its checks, which ask for no oplock:
-- in the volume with none they go the same way. None stays pending otherwise, none goes on beside its breaks, and none renames.
use Rattle.std.proofs.Common.{◌≡◌, ℕ, Bool, true, false, List, length, refl, ap, inl, inr, Option, Some, None}
use Rattle.std.specs.Option.{option_map_or, unwrap_or}
use Rattle.std.specs.Prelude.{◌==◌, ◌+◌, ◌||◌, nat_lt, not, is_some, if◌then◌else◌}
use Rattle.std.proofs.lemmas.Bool.{cases_Bool}
use Rattle.fsa_types.specs.Access.{has_any}
use Rattle.fsa_types.specs.Masks.{DELETE, READ_DATA, WRITE_DATA}
use Rattle.fsa_types.specs.Paths.{components}
use Rattle.fsa_types.specs.Rows.{row_of}
use Rattle.fsa_types.specs.declared.oplock.Class.{Class}
use Rattle.fsa_types.specs.declared.oplock.Class.TheVariants.{NameChange, ReadOpen, Change}
use Rattle.fsa_types.specs.declared.oplock.HandleSet.{HandleSet}
use Rattle.fsa_types.specs.declared.oplock.HandleSet.TheVariants as set
use Rattle.fsa_types.specs.declared.request.Call.{Call}
use Rattle.fsa_types.specs.declared.request.Request.TheVariants as request
use Rattle.fsa_types.specs.declared.request.What.{What}
use Rattle.fsa_types.specs.declared.request.What.TheVariants.{Ask}
use Rattle.fsa_types.specs.declared.status.Status.{Status}
use Rattle.fsa_types.specs.declared.status.Status.TheVariants.{InvalidHandle, OplockBreakInProgress}
use Rattle.fsa_model.specs.Breaks.{with_breaks}
use Rattle.fsa_model.specs.Close.{is_link_of_parent, named_stream}
use Rattle.fsa_model.specs.Coherence.{acting_handle, acting_key, handle_asked, key_brought}
use Rattle.fsa_model.specs.Link.{has_all_links, link_at, link_by, link_file, link_into, link_over, link_over_broken, link_over_closed, link_over_other, link_walked, try_link}
use Rattle.fsa_model.specs.Locking.{lock_at, lock_blockers, lock_by, lock_free, lock_range, lock_stream, passes_top, try_lock}
use Rattle.fsa_model.specs.Lookups.{bytes_of, child_of, handle_of, is_link_marked, largest_end, linked_file}
use Rattle.fsa_model.specs.Open.{grants, is_readonly}
use Rattle.fsa_model.specs.Outcome.{Outcome, refused}
use Rattle.fsa_model.specs.Read.{read_at, read_by, read_bytes, read_range, read_stream, read_unlocked, try_read}
use Rattle.fsa_model.specs.Rename.{naming_by}
use Rattle.fsa_model.specs.Replacement.{Naming, is_no_name, new_name, replace_fault}
use Rattle.fsa_model.specs.SetDisposition.{delete_by, delete_marked, marked_handles, set_disposition_at, set_disposition_by, try_set_disposition}
use Rattle.fsa_model.specs.SetEnd.{set_end_at, set_end_by, set_end_grown, set_end_stream, set_end_to, try_set_end}
use Rattle.fsa_model.specs.Try.{try_what}
use Rattle.fsa_model.specs.Volume.{Handle, Volume}
use Rattle.fsa_model.specs.Waits.{waits_for, held_by}
use Rattle.fsa_model.specs.Walk.{Walked, Reached, Barred, Diverted, walk}
use Rattle.fsa_model.specs.Write.{can_write, try_write, write_at, write_at_place, write_by, write_bytes, write_grown, write_range, write_stream, write_unlocked}
use Rattle.fsa_model.proofs.BreakLaws.{with_breaks-rest}
use Rattle.history_laws.specs.OplockChanges.{MayBreak, OnStream, Marks, LinksOver, may_go_beside, renames}
use Rattle.history_laws.specs.WhyPending.{ByBreaks, ByLocks, PendsForCause}
use Rattle.history_laws.proofs.Pends.{Pends, pends-done, pends-if, pends-option, pends-stopped}
use Rattle.history_laws.proofs.WithoutOplocks.{Behind, Passes, behind, without_oplocks}

-- ---- held

-- the call acts by this handle, of this key; it goes on beside no break, and doesn't rename
record ActsBy (v : Volume) (call : Call) (id : ℕ) (handle : Handle) : Type 0 where
  by : acting_handle v call.client call.what ≡ Some id
  key : acting_key v call.client call.what ≡ handle.key
  beside : (class : Class) → may_go_beside call.what class OplockBreakInProgress ≡ false
  renames_none : renames call.what ≡ false

module _ {v : Volume} {call : Call} {turn : ℕ} where
  -- refused, or on
  pends-unless : (test : Bool) (status : Status) (other : Outcome) → (test ≡ false → Pends v call turn other) → Pends v call turn (if test then refused v status else other)
  pends-unless test status other goes = pends-if test (refused v status) other (λ fails. pends-done) goes

  -- held by the breaks of a set, or on after them
  pends-waits : (on : HandleSet) (class : Class) (id : ℕ) (handle : Handle) (outcome : Outcome) → ActsBy v call id handle → MayBreak v call class on → Passes v call
      → (waits_for v on class (Some id) handle.key ≡ false → Pends v call turn outcome)
      → Pends v call turn (if waits_for v on class (Some id) handle.key then held_by v on class (Some id) handle.key else outcome)
  pends-waits on class id handle outcome acts may passes goes = elim (cases_Bool (waits_for v on class (Some id) handle.key)) [
    | inl waits ↦ rw waits (record {
      so = ByBreaks class on may passes.so (acts.beside class) (λ so. (let impossible = rw acts.renames_none at so in cc))
          (rw (acts.key, acts.by) waits) (rw (acts.key, acts.by) refl) (rw (acts.key, acts.by) refl);
    })
    | inr free ↦ rw free (goes free)
  ]

ruleset going = (pends-if, pends-option, pends-done)

-- by the handle of this number
of-handle : {v : Volume} {call : Call} {turn number : ℕ} (what : What) (out : ℕ → Handle → Outcome) → call.what ≡ what → handle_asked what ≡ Some number → key_brought what ≡ None
    → ((class : Class) → may_go_beside what class OplockBreakInProgress ≡ false) → renames what ≡ false
    → ((id : ℕ) (handle : Handle) → handle_of v call.client number ≡ Some id → row_of v.handles id ≡ Some handle → ActsBy v call id handle → Pends v call turn (out id handle))
    → PendsForCause v call turn
    (option_map_or (λ id. option_map_or (λ handle. out id handle) (row_of v.handles id) (refused v InvalidHandle)) (handle_of v call.client number) (refused v InvalidHandle))
of-handle {v} {call} {turn} {number} what out is asked brought beside moves goes =
    Pends.so (pends-option (handle_of v call.client number) _ _ (λ id named. pends-option (row_of v.handles id) _ _
    (λ handle row. goes id handle named row (record { by = rw (is, asked) named; key = rw (is, asked, brought, named, row) refl; beside = rw is beside; renames_none = rw is moves }))
    (λ none. pends-done)) (λ none. pends-done))

-- ---- reads, writes and new lengths

-- what each comes to behind its checks: with no oplock, and with them
read-behind : {directory : Bool} (v : Volume) (id key stream number at count : ℕ) → Behind directory (Ask (request.Read number at count)) (read_range (without_oplocks v) id key stream at count)
unfolding read_range read_unlocked read_bytes
read-behind v id key stream number at count = search behind depth 20

read-range : (v : Volume) (call : Call) (turn id : ℕ) (handle : Handle) (stream at count : ℕ) → ActsBy v call id handle → MayBreak v call ReadOpen (set.Stream stream)
    → Passes v call → Pends v call turn (read_range v id handle.key stream at count)
unfolding read_range read_unlocked read_bytes
read-range v call turn id handle stream at count acts may passes = pends-waits (set.Stream stream) ReadOpen id handle _ acts may passes (λ free. search (pends-if, pends-done))

pub read-pends : (v : Volume) (call : Call) (turn number at count : ℕ) → call.what ≡ Ask (request.Read number at count) → PendsForCause v call turn (try_read v call.client number at count)
unfolding try_read read_at read_by read_stream
read-pends v call turn number at count is = of-handle (Ask (request.Read number at count)) _ is refl refl (λ class. refl) refl (λ id handle named row acts.
    pends-option handle.stream _ _ (λ stream has. pends-unless (not (has_any handle.access READ_DATA)) _ _ (λ reads.
    pends-unless (nat_lt largest_end (at + count)) _ _ (λ ends. pends-if (count == 0) _ _ (λ none. pends-done) (λ some.
    read-range v call turn id handle stream at count acts (OnStream number stream (rw (is, some) refl) (rw (named, row, has) refl) refl)
    (rw (is, named, row, has, reads, ends, some) (read-behind v id handle.key stream number at count)))))) (λ none. pends-done))

write-behind : {directory : Bool} (v : Volume) (id key link stream number : ℕ) (at : Option ℕ) (place : ℕ) (bytes : List ℕ)
    → Behind directory (Ask (request.Write number at bytes)) (write_range (without_oplocks v) id key link stream place bytes)
unfolding write_range write_unlocked write_grown write_bytes
write-behind v id key link stream number at place bytes = search behind depth 20

write-range : (v : Volume) (call : Call) (turn id : ℕ) (handle : Handle) (stream place : ℕ) (bytes : List ℕ) → ActsBy v call id handle → MayBreak v call Change (set.Stream stream)
    → Passes v call → Pends v call turn (write_range v id handle.key handle.link stream place bytes)
unfolding write_range write_unlocked write_grown write_bytes
write-range v call turn id handle stream place bytes acts may passes =
    pends-waits (set.Stream stream) Change id handle _ acts may passes (λ free. search going depth 20)

pub write-pends : (v : Volume) (call : Call) (turn number : ℕ) (at : Option ℕ) (bytes : List ℕ) → call.what ≡ Ask (request.Write number at bytes)
    → PendsForCause v call turn (try_write v call.client number at bytes)
unfolding try_write write_at write_by write_stream write_at_place
write-pends v call turn number at bytes is = of-handle (Ask (request.Write number at bytes)) _ is refl refl (λ class. refl) refl (λ id handle named row acts.
    pends-option handle.stream _ _ (λ stream has. let place = unwrap_or at (length (bytes_of v stream)) in
    pends-unless (not (can_write handle.access at)) _ _ (λ writes. pends-if (length bytes == 0) _ _ (λ none. pends-done) (λ some.
    pends-unless (nat_lt largest_end (place + length bytes)) _ _ (λ ends.
    write-range v call turn id handle stream place bytes acts (OnStream number stream (rw (is, some) refl) (rw (named, row, has) refl) refl)
    (rw (is, named, row, has, writes, some, ends) (write-behind v id handle.key handle.link stream number at place bytes)))))) (λ none. pends-done))

set_end-behind : {directory : Bool} (v : Volume) (id key link stream number end : ℕ) → Behind directory (Ask (request.SetEnd number end)) (set_end_to (without_oplocks v) id key link stream end)
unfolding set_end_to set_end_grown
set_end-behind v id key link stream number end = search behind depth 20

set_end-to : (v : Volume) (call : Call) (turn id : ℕ) (handle : Handle) (stream end : ℕ) → ActsBy v call id handle → MayBreak v call Change (set.Stream stream) → Passes v call
    → Pends v call turn (set_end_to v id handle.key handle.link stream end)
unfolding set_end_to set_end_grown
set_end-to v call turn id handle stream end acts may passes = pends-waits (set.Stream stream) Change id handle _ acts may passes (λ free. search going)

pub set_end-pends : (v : Volume) (call : Call) (turn number end : ℕ) → call.what ≡ Ask (request.SetEnd number end) → PendsForCause v call turn (try_set_end v call.client number end)
unfolding try_set_end set_end_at set_end_by set_end_stream
set_end-pends v call turn number end is = of-handle (Ask (request.SetEnd number end)) _ is refl refl (λ class. refl) refl (λ id handle named row acts.
    pends-option handle.stream _ _ (λ stream has. pends-unless (not (has_any handle.access WRITE_DATA)) _ _ (λ writes.
    pends-unless (nat_lt largest_end end) _ _ (λ ends.
    set_end-to v call turn id handle stream end acts (OnStream number stream (rw is refl) (rw (named, row, has) refl) refl)
    (rw (is, named, row, has, writes, ends) (set_end-behind v id handle.key handle.link stream number end))))) (λ none. pends-done))

-- ---- locks

-- breaks leave the locks that are in the way of one
blockers-breaks : (v : Volume) (on : HandleSet) (class : Class) (acting : Option ℕ) (key handle stream at count : ℕ) (exclusive : Bool)
    → lock_blockers (with_breaks v on class acting key) handle stream at count exclusive ≡ lock_blockers v handle stream at count exclusive
blockers-breaks v on class acting key handle stream at count exclusive = ap (λ (w : Volume). lock_blockers w handle stream at count exclusive) (with_breaks-rest v on class acting key)

-- behind its checks, with no oplock
lock-behind : {directory : Bool} (v : Volume) (id key stream number at count : ℕ) (exclusive wait : Bool)
    → Behind directory (Ask (request.Lock number at count exclusive wait)) (lock_range (without_oplocks v) id key stream at count exclusive wait)
unfolding lock_range lock_free
lock-behind v id key stream number at count exclusive wait = search behind depth 20

-- where it waits for no break, and for locks if it is to wait
lock-free : (v : Volume) (call : Call) (turn number id : ℕ) (handle : Handle) (stream at count : ℕ) (exclusive wait : Bool) → call.what ≡ Ask (request.Lock number at count exclusive wait)
    → Passes v call → handle_of v call.client number ≡ Some id → row_of v.handles id ≡ Some handle → handle.stream ≡ Some stream → waits_for v (set.Stream stream) Change (Some id) handle.key ≡ false
    → Pends v call turn (lock_free (with_breaks v (set.Stream stream) Change (Some id) handle.key) id stream at count exclusive wait)
unfolding lock_free
lock-free v call turn number id handle stream at count exclusive false is passes named row has free = search (pends-if, pends-done)
lock-free v call turn number id handle stream at count exclusive true is passes named row has free =
    let same = blockers-breaks v (set.Stream stream) Change (Some id) handle.key id stream at count exclusive in
    pends-if _ _ _ (λ none. pends-done)
    (λ some. record { so = ByLocks number at count id stream exclusive is passes.so named (rw row has) (rw row free) same some (rw row refl) })

lock-range : (v : Volume) (call : Call) (turn number id : ℕ) (handle : Handle) (stream at count : ℕ) (exclusive wait : Bool) → call.what ≡ Ask (request.Lock number at count exclusive wait)
    → handle_of v call.client number ≡ Some id → row_of v.handles id ≡ Some handle → handle.stream ≡ Some stream → ActsBy v call id handle → Passes v call
    → Pends v call turn (lock_range v id handle.key stream at count exclusive wait)
unfolding lock_range
lock-range v call turn number id handle stream at count exclusive wait is named row has acts passes =
    pends-waits (set.Stream stream) Change id handle _ acts (OnStream number stream (rw is refl) (rw (named, row, has) refl) refl) passes
    (lock-free v call turn number id handle stream at count exclusive wait is passes named row has)

pub lock-pends : (v : Volume) (call : Call) (turn number at count : ℕ) (exclusive wait : Bool) → call.what ≡ Ask (request.Lock number at count exclusive wait)
    → PendsForCause v call turn (try_lock v call.client number at count exclusive wait)
unfolding try_lock lock_at lock_by lock_stream
lock-pends v call turn number at count exclusive wait is = of-handle (Ask (request.Lock number at count exclusive wait)) _ is refl refl (λ class. refl) refl (λ id handle named row acts.
    pends-option handle.stream _ _ (λ stream has. pends-unless (not (has_any handle.access READ_DATA || has_any handle.access WRITE_DATA)) _ _ (λ locks.
    pends-unless (passes_top at count) _ _ (λ ends.
    lock-range v call turn number id handle stream at count exclusive wait is named row has acts
    (rw (is, named, row, has, locks, ends) (lock-behind v id handle.key stream number at count exclusive wait))))) (λ none. pends-done))

-- ---- marks for deletion

-- behind its checks, with no oplock, and with them
mark-behind : {directory : Bool} (v : Volume) (id : ℕ) (handle : Handle) (number : ℕ) → Behind directory (Ask (request.SetDisposition number true)) (delete_marked (without_oplocks v) id handle)
unfolding delete_marked
mark-behind v id handle number = search behind

mark-marked : (v : Volume) (call : Call) (turn id : ℕ) (handle : Handle) → ActsBy v call id handle → MayBreak v call NameChange (marked_handles v handle) → Passes v call
    → Pends v call turn (delete_marked v id handle)
unfolding delete_marked
mark-marked v call turn id handle acts may passes = pends-waits (marked_handles v handle) NameChange id handle _ acts may passes (λ free. pends-done)

-- one that is cleared waits for nothing
mark-by : (v : Volume) (call : Call) (turn number id : ℕ) (handle : Handle) (delete : Bool) → call.what ≡ Ask (request.SetDisposition number delete)
    → handle_of v call.client number ≡ Some id → row_of v.handles id ≡ Some handle → ActsBy v call id handle → Pends v call turn (set_disposition_by v id handle delete)
unfolding try_set_disposition set_disposition_at set_disposition_by delete_by
mark-by v call turn number id handle true is named row acts =
    pends-unless (not (has_any handle.access DELETE)) _ _ (λ deletes. pends-unless (handle.link == 0 || is_readonly v (linked_file v handle.link)) _ _ (λ may.
    pends-unless (is_link_of_parent v handle.link) _ _ (λ empty.
    mark-marked v call turn id handle acts (Marks number handle is (rw (named, row) refl) refl refl) (rw (is, named, row, deletes, may, empty) (mark-behind v id handle number)))))
mark-by v call turn number id handle false is named row acts = search (pends-if, pends-done)

pub mark-pends : (v : Volume) (call : Call) (turn number : ℕ) (delete : Bool) → call.what ≡ Ask (request.SetDisposition number delete)
    → PendsForCause v call turn (try_set_disposition v call.client number delete)
unfolding try_set_disposition set_disposition_at
mark-pends v call turn number delete is = of-handle (Ask (request.SetDisposition number delete)) _ is refl refl (λ class. refl) refl (λ id handle named row acts.
    mark-by v call turn number id handle delete is named row acts)

-- ---- links

-- where it replaces another file's link: with no oplock, and with them
link-behind : {directory : Bool} (v : Volume) (number : ℕ) (path : List ℕ) (replace : Bool) (naming : Naming) (dir link : ℕ)
    → Behind directory (Ask (request.Link number path replace)) (link_over_broken (without_oplocks v) naming dir link)
unfolding link_over_broken link_over_closed
link-behind v number path replace naming dir link = search behind depth 20

link-broken : (v : Volume) (call : Call) (turn id : ℕ) (handle : Handle) (path : List ℕ) (replace : Bool) (dir link : ℕ) → ActsBy v call id handle
    → MayBreak v call NameChange (set.Link link) → Passes v call → Pends v call turn (link_over_broken v (naming_by v id handle path replace) dir link)
unfolding link_over_broken link_over_closed
link-broken v call turn id handle path replace dir link acts may passes =
    pends-waits (set.Link link) NameChange id handle _ acts may passes (λ free. search (pends-if, pends-done))

-- it waits only where it replaces another file's link
link-into : (v : Volume) (call : Call) (turn number id : ℕ) (handle : Handle) (path : List ℕ) (replace : Bool) (dir : ℕ) → call.what ≡ Ask (request.Link number path replace)
    → ActsBy v call id handle → try_what (without_oplocks v) 0 call.client call.number call.what ≡ link_into (without_oplocks v) (naming_by v id handle path replace) dir
    → ((link : ℕ) → child_of v dir (new_name (naming_by v id handle path replace)) ≡ Some link → (linked_file v link == linked_file v handle.link) ≡ false
    → replace_fault v (naming_by v id handle path replace) link ≡ None → MayBreak v call NameChange (set.Link link))
    → Pends v call turn (link_into v (naming_by v id handle path replace) dir)
unfolding link_into link_over link_over_other
link-into v call turn number id handle path replace dir is acts same may =
    let naming = naming_by v id handle path replace in
    pends-unless (not (grants v dir handle.client WRITE_DATA)) _ _ (λ granted. pends-option (child_of v dir (new_name naming)) _ _ (λ link there.
    elim (cases_Bool (linked_file v link == linked_file v handle.link)) [
      | inl own ↦ rw own (search (pends-if, pends-done))
      | inr differs ↦ rw differs (pends-option (replace_fault v naming link) _ _ (λ status fails. pends-done) (λ free.
          link-broken v call turn id handle path replace dir link acts (may link there differs free)
          (rw (same, is, granted, there, differs, free) (link-behind v number path replace naming dir link))))
    ]) (λ none. pends-done))

link-walked : (v : Volume) (call : Call) (turn : ℕ) (naming : Naming) (walked : Walked) → ((dir : ℕ) → walked ≡ Reached dir → Pends v call turn (link_into v naming dir))
    → Pends v call turn (link_walked v naming walked)
unfolding link_walked
link-walked v call turn naming (Reached dir) goes = goes dir refl
link-walked v call turn naming (Barred status) goes = pends-done
link-walked v call turn naming (Diverted file next) goes = pends-stopped v file _

-- what it comes to in the directory that the path leads to
link-file : (v : Volume) (call : Call) (turn : ℕ) (naming : Naming)
    → ((dir : ℕ) → walk v (components naming.path) ≡ Reached dir → link_file (without_oplocks v) naming ≡ link_into (without_oplocks v) naming dir → Pends v call turn (link_into v naming dir))
    → Pends v call turn (link_file v naming)
unfolding link_file link_walked
link-file v call turn naming goes =
    pends-unless (is_link_marked v naming.link) _ _ (λ stays. pends-unless (has_all_links v naming.file) _ _ (λ room. pends-unless (is_no_name naming.path) _ _ (λ names.
    link-walked v call turn naming (walk v (components naming.path)) (λ dir reached. goes dir reached (rw (stays, room, names, reached) refl)))))

link-by : (v : Volume) (call : Call) (turn id : ℕ) (handle : Handle) (path : List ℕ) (replace : Bool)
    → ((dir : ℕ) → walk v (components path) ≡ Reached dir → link_by (without_oplocks v) id handle path replace ≡ link_into (without_oplocks v) (naming_by v id handle path replace) dir
    → Pends v call turn (link_into v (naming_by v id handle path replace) dir)) → Pends v call turn (link_by v id handle path replace)
unfolding link_by
link-by v call turn id handle path replace goes =
    pends-unless (not (is_some handle.stream)) _ _ (λ file. pends-unless (is_some (named_stream v handle)) _ _ (λ default.
    link-file v call turn (naming_by v id handle path replace) (λ dir reached same. goes dir reached (rw (file, default) same))))

pub link-pends : (v : Volume) (call : Call) (turn number : ℕ) (path : List ℕ) (replace : Bool) → call.what ≡ Ask (request.Link number path replace)
    → PendsForCause v call turn (try_link v call.client number path replace)
unfolding try_link link_at
link-pends v call turn number path replace is = of-handle (Ask (request.Link number path replace)) _ is refl refl (λ class. refl) refl (λ id handle named row acts.
    link-by v call turn id handle path replace (λ dir reached same. link-into v call turn number id handle path replace dir is acts (rw (is, named, row) same)
    (λ link there differs free. LinksOver number id path replace link handle is named row (dir, reached, there) differs free refl refl)))
