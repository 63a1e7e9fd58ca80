-- Where a read, a write, a new length, a lock, a mark for deletion, a rename or a link ends with a status that comes only behind
-- its breaks, it has had to wait for no break of a set that it may break. For a request with one set that is the test in its
-- definition. A rename has up to three sets: one that goes on past those below a directory and of the link that it replaces has
-- found no handle of them open, so it has broken nothing there, and tests the set of its own link in the volume that it began
-- with.
use Rattle.std.proofs.Common.{◌≡◌, ℕ, Bool, true, false, not, List, [], ◌∷◌, length, refl, ap, inl, inr, Option, Some, None}
use Rattle.std.specs.Option.{option_map_or}
use Rattle.std.specs.Prelude.{◌==◌, filter, fold, if◌then◌else◌}
use Rattle.std.proofs.lemmas.Bool.{cases_Bool, not-true}
use Rattle.fsa_types.specs.OplockLists.{effect_on}
use Rattle.fsa_types.specs.Paths.{components}
use Rattle.fsa_types.specs.Rows.{row_of}
use Rattle.fsa_types.specs.Sorting.{in_order}
use Rattle.fsa_types.specs.declared.oplock.Class.{Class}
use Rattle.fsa_types.specs.declared.oplock.Class.TheVariants.{NameChange, ReadOpen, Change}
use Rattle.fsa_types.specs.declared.oplock.HandleSet.{HandleSet}
use Rattle.fsa_types.specs.declared.oplock.HandleSet.TheVariants as set
use Rattle.fsa_types.specs.declared.reply.Blocker.{Blocker}
use Rattle.fsa_types.specs.declared.reply.Interim.{Interim}
use Rattle.fsa_types.specs.declared.reply.Reply.{Reply}
use Rattle.fsa_types.specs.declared.request.Call.{Call}
use Rattle.fsa_types.specs.declared.request.Request.TheVariants as request
use Rattle.fsa_types.specs.declared.request.What.{What}
use Rattle.fsa_types.specs.declared.request.What.TheVariants.{Ask}
use Rattle.fsa_types.specs.declared.status.Status.{Status}
use Rattle.fsa_types.specs.declared.status.Status.TheVariants.{AccessDenied, DeletePending, ObjectNameCollision}
use Rattle.fsa_model.specs.Breaks.{is_broken_before, is_chosen, with_breaks, with_effect}
use Rattle.fsa_model.specs.Coherence.{Where, acting_handle, acting_key}
use Rattle.fsa_model.specs.Frame.{asks_create}
use Rattle.fsa_model.specs.Link.{link_at, link_by, link_file, link_into, link_over, link_over_broken, link_over_other, link_walked, try_link}
use Rattle.fsa_model.specs.Locking.{lock_at, lock_by, lock_range, lock_stream, try_lock}
use Rattle.fsa_model.specs.Lookups.{handle_of, has_row, is_directory, is_on, linked_file}
use Rattle.fsa_model.specs.Open.{stopped}
use Rattle.fsa_model.specs.Outcome.{Outcome, Done, Stay, Hold, refused}
use Rattle.fsa_model.specs.Read.{read_at, read_by, read_range, read_stream, try_read}
use Rattle.fsa_model.specs.Rename.{naming_by, rename_at, rename_below_closed, rename_by, rename_directory, rename_free, rename_into, rename_link, rename_named, rename_over, rename_over_broken, rename_over_closed, rename_walked, replaced_link, try_rename}
use Rattle.fsa_model.specs.Replacement.{Naming, is_any_open, replace_fault, waits_to_name}
use Rattle.fsa_model.specs.SetDisposition.{delete_by, delete_marked, marked_handles, set_disposition_at, set_disposition_by, try_set_disposition}
use Rattle.fsa_model.specs.SetEnd.{set_end_at, set_end_by, set_end_stream, set_end_to, try_set_end}
use Rattle.fsa_model.specs.Try.{try_what}
use Rattle.fsa_model.specs.Volume.{Handle, Oplock, Volume}
use Rattle.fsa_model.specs.Waits.{waits_for, held_by}
use Rattle.fsa_model.specs.Walk.{Walked, Reached, Barred, Diverted, point_of, walk}
use Rattle.fsa_model.specs.Write.{try_write, write_at, write_at_place, write_by, write_range, write_stream}
use Rattle.fsa_model.proofs.CountLaws.{and_left}
use Rattle.fsa_model.proofs.BreakLaws.{with_breaks-rest}
use Rattle.fsa_model.proofs.FaultStatuses.{BarsWithout, Gives, giving, stop-fails, walk-fails}
use Rattle.fsa_model.proofs.RowLaws.{option_cases}
use Rattle.history_laws.specs.OplockChanges.{IsLinkAt, MayBreak, Opens, OnStream, Marks, Renames, RenamesAbove, RenamesOver, LinksOver, breaks_on_stream, ends_only_behind_breaks, ends_unawaited, may_go_beside, handle_numbered, stream_numbered}
use Rattle.history_laws.specs.WaitEnds.{is_success}
use Rattle.history_laws.proofs.SetsByCalls.{at_link, rename-success}

-- ---- ends

-- where a try of such a call ends with a status that comes only behind its breaks, this is so
record Past (what : What) (So : Type 0) (outcome : Outcome) : Type 0 where
  so : Where (λ reply. ends_only_behind_breaks what reply.status) (λ (next : Volume). So) outcome

module _ {what : What} {So : Type 0} where
  past-other : {w : Volume} {reply : Reply} → ends_only_behind_breaks what reply.status ≡ false → Past what So (Done w reply)
  past-other fails = record { so = λ past. (let impossible = rw fails at past in cc) }

  past-any : (outcome : Outcome) → So → Past what So outcome
  past-any (Done w reply) so = record { so = λ past. so }
  past-any (Stay w interim) so = record { so = tt }
  past-any (Hold w blockers interim) so = record { so = tt }

  past-held : {w : Volume} {blockers : List Blocker} {interim : Interim} → Past what So (Hold w blockers interim)
  past-held = record { so = tt }

  past-if : (test : Bool) (one other : Outcome) → Past what So one → Past what So other → Past what So (if test then one else other)
  past-if true one other holds fails = holds
  past-if false one other holds fails = fails

  past-option : {X : Type 0} (found : Option X) (some : X → Outcome) (none : Outcome) → ((x : X) → Past what So (some x)) → Past what So none → Past what So (option_map_or some found none)
  past-option None some none with_some with_none = with_none
  past-option (Some x) some none with_some with_none = with_some x

  -- what is refused for a fault, or goes on
  past-fault : (w : Volume) (fault : Option Status) (other : Outcome) → Gives (λ status. not (ends_only_behind_breaks what status)) fault → Past what So other
      → Past what So (option_map_or (λ status. refused w status) fault other)
  past-fault w None other gives goes = goes
  past-fault w (Some status) other gives goes = past-other (not-true _ gives.so)

-- held by breaks, or on after them: then there were none to wait for
past-waits : {what : What} (v : Volume) (on : HandleSet) (kind : Class) (acting : Option ℕ) (key : ℕ) (outcome : Outcome)
    → Past what (waits_for v on kind acting key ≡ false) (if waits_for v on kind acting key then held_by v on kind acting key else outcome)
past-waits v on kind acting key outcome = elim (cases_Bool (waits_for v on kind acting key)) [
  | inl waits ↦ rw waits past-held
  | inr free ↦ rw free (past-any outcome refl)
]

ruleset going = (past-waits, past-if, past-option, past-other, refl)

-- ---- by a handle

-- the handle of this number, and its row
record IsHandle (v : Volume) (client number : ℕ) (handle : Handle) : Type 0 where
  id : ℕ
  named : handle_of v client number ≡ Some id
  row : row_of v.handles id ≡ Some handle

is-handle : (v : Volume) (client number : ℕ) (handle : Handle) → handle_numbered v client number ≡ Some handle → IsHandle v client number handle
is-handle v client number handle is = elim (option_cases (handle_of v client number)) [
  | inl closed ↦ (let impossible = rw closed at is in cc)
  | inr id ↦ record { id = id.0; named = id.1; row = rw id.1 at is }
]

-- the handle of a stream
record IsHandleOn (v : Volume) (client number stream : ℕ) : Type 0 where
  handle : Handle
  named : IsHandle v client number handle
  on : handle.stream ≡ Some stream

is-handle_on : (v : Volume) (client number stream : ℕ) → stream_numbered v client number ≡ Some stream → IsHandleOn v client number stream
is-handle_on v client number stream is = elim (option_cases (handle_of v client number)) [
  | inl closed ↦ (let impossible = rw closed at is in cc)
  | inr id ↦ elim (option_cases (row_of v.handles id.0)) [
    | inl gone ↦ (let impossible = rw (id.1, gone) at is in cc)
    | inr handle ↦ record { handle = handle.0; named = record { id = id.0; named = id.1; row = handle.1 }; on = rw (id.1, handle.1) at is }
  ]
]

-- this set needs no waiting, by the handle of this number
abbrev IsFree : Volume → ℕ → What → Class → HandleSet → Type 0
IsFree v client what kind on = waits_for v on kind (acting_handle v client what) (acting_key v client what) ≡ false

-- ---- reads, writes, new lengths, locks and marks for deletion

-- behind the test nothing has to be followed: it was not held
read : (v : Volume) (client number at count stream : ℕ) → (count == 0) ≡ false → stream_numbered v client number ≡ Some stream
    → Past (Ask (request.Read number at count)) (IsFree v client (Ask (request.Read number at count)) ReadOpen (set.Stream stream)) (try_read v client number at count)
unfolding try_read read_at read_by read_stream read_range
read v client number at count stream some under =
    let its = is-handle_on v client number stream under in rw (its.named.named, its.named.row, its.on, some) (search going depth 60 fits 4000)

write : (v : Volume) (client number : ℕ) (at : Option ℕ) (bytes : List ℕ) (stream : ℕ) → (length bytes == 0) ≡ false → stream_numbered v client number ≡ Some stream
    → Past (Ask (request.Write number at bytes)) (IsFree v client (Ask (request.Write number at bytes)) Change (set.Stream stream)) (try_write v client number at bytes)
unfolding try_write write_at write_by write_stream write_at_place write_range
write v client number at bytes stream some under =
    let its = is-handle_on v client number stream under in rw (its.named.named, its.named.row, its.on, some) (search going depth 60 fits 4000)

set_end : (v : Volume) (client number end stream : ℕ) → stream_numbered v client number ≡ Some stream
    → Past (Ask (request.SetEnd number end)) (IsFree v client (Ask (request.SetEnd number end)) Change (set.Stream stream)) (try_set_end v client number end)
unfolding try_set_end set_end_at set_end_by set_end_stream set_end_to
set_end v client number end stream under = let its = is-handle_on v client number stream under in rw (its.named.named, its.named.row, its.on) (search going depth 60 fits 4000)

lock : (v : Volume) (client number at count : ℕ) (exclusive wait : Bool) (stream : ℕ) → stream_numbered v client number ≡ Some stream
    → Past (Ask (request.Lock number at count exclusive wait)) (IsFree v client (Ask (request.Lock number at count exclusive wait)) Change (set.Stream stream)) (try_lock v client number at count exclusive wait)
unfolding try_lock lock_at lock_by lock_stream lock_range
lock v client number at count exclusive wait stream under =
    let its = is-handle_on v client number stream under in rw (its.named.named, its.named.row, its.on) (search going depth 60 fits 4000)

delete : (v : Volume) (id number : ℕ) (handle : Handle) → Past (Ask (request.SetDisposition number true)) (waits_for v (marked_handles v handle) NameChange (Some id) handle.key ≡ false) (delete_by v id handle)
unfolding delete_by delete_marked
delete v id number handle = search going depth 60 fits 4000

set_disposition : (v : Volume) (client number : ℕ) (handle : Handle) → handle_numbered v client number ≡ Some handle
    → Past (Ask (request.SetDisposition number true)) (IsFree v client (Ask (request.SetDisposition number true)) NameChange (marked_handles v handle)) (try_set_disposition v client number true)
unfolding try_set_disposition set_disposition_at set_disposition_by
set_disposition v client number handle opened =
    let its = is-handle v client number handle opened in rw (its.named, its.row) (past-if _ _ _ (past-other refl) (delete v its.id number handle))

-- ---- links

-- where the link of another file can be replaced, the set is that link's
links-over : (v : Volume) (client number id : ℕ) (path : List ℕ) (replace : Bool) (over : ℕ) (handle : Handle) → handle_of v client number ≡ Some id → row_of v.handles id ≡ Some handle
    → IsLinkAt v path over → (linked_file v over == linked_file v handle.link) ≡ false → replace_fault v (naming_by v id handle path replace) over ≡ None
    → Past (Ask (request.Link number path replace)) (IsFree v client (Ask (request.Link number path replace)) NameChange (set.Link over)) (try_link v client number path replace)
unfolding try_link link_at link_by link_file link_walked link_into link_over link_over_other link_over_broken
links-over v client number id path replace over handle named row there apart free =
    rw (named, row, there.1, there.2, apart, free) (search going depth 60 fits 4000)

-- ---- what a rename goes past

-- where no handle of the set is open, no oplock is chosen, and the breaks leave the volume as it is
fails-row : (test : Handle → Bool) (rows : List (ℕ × Handle)) (id : ℕ) → has_row test rows ≡ false → option_map_or test (row_of rows id) false ≡ false
fails-row test [] id none = refl
fails-row test (row ∷ rows) id none = elim (cases_Bool (test row.1)) [
  | inl passes ↦ (let impossible = rw passes at none in cc)
  | inr fails ↦ elim (cases_Bool (row.0 == id)) [ inl here ↦ rw (here, fails) refl | inr other ↦ rw other (fails-row test rows id (rw fails at none)) ]
]

fails-filter : {X : Type 0} (test : X → Bool) (items : List X) → ((x : X) → test x ≡ false) → filter test items ≡ []
fails-filter test [] fails = refl
fails-filter test (x ∷ items) fails = rw (fails x) (fails-filter test items fails)

pub none-broken : (v : Volume) (on : HandleSet) (kind : Class) (acting : Option ℕ) (key : ℕ) → is_any_open v on ≡ false → with_breaks v on kind acting key ≡ v
none-broken v on kind acting key none =
    ap (λ (oplocks : List Oplock). fold (λ w oplock. with_effect w oplock (effect_on kind oplock)) v (in_order (is_broken_before v) oplocks))
    (fails-filter (is_chosen v on acting key) v.oplocks (λ oplock. rw (fails-row (is_on v on) v.handles oplock.handle none) refl))

pub open-after_breaks : (v : Volume) (on : HandleSet) (kind : Class) (acting : Option ℕ) (key : ℕ) → is_any_open (with_breaks v on kind acting key) on ≡ is_any_open v on
open-after_breaks v on kind acting key = ap (λ (w : Volume). is_any_open w on) (with_breaks-rest v on kind acting key)

-- so it goes on in the volume that it began with, or is refused
past-closed : {what : What} {So : Type 0} (v : Volume) (on : HandleSet) (kind : Class) (acting : Option ℕ) (key : ℕ) (status : Status) (next : Volume → Outcome)
    → ends_only_behind_breaks what status ≡ false → Past what So (next v)
    → Past what So (if is_any_open (with_breaks v on kind acting key) on then refused (with_breaks v on kind acting key) status else next (with_breaks v on kind acting key))
past-closed v on kind acting key status next fails goes = elim (cases_Bool (is_any_open v on)) [
  | inl some ↦ rw (open-after_breaks v on kind acting key, some) (past-other fails)
  | inr none ↦ rw (none-broken v on kind acting key none, none) goes
]

-- ---- why a rename is refused

-- never with SUCCESS: for what bars the walk, or for a reparse point
module _ (number : ℕ) (path : List ℕ) (replace : Bool) where
  past-undone : {So : Type 0} {w : Volume} {reply : Reply} → is_success reply.status ≡ false → Past (Ask (request.Rename number path replace)) So (Done w reply)
  past-undone {reply} undone = record { so = λ past. (let done = rename-success number path replace reply.status past in let impossible = rw undone at done in cc) }

  stops : {So : Type 0} (v : Volume) (file : ℕ) (rest : List ℕ) → Past (Ask (request.Rename number path replace)) So (stopped v file rest)
  unfolding stopped
  stops v file rest = past-option (point_of v file) _ _ (λ point. past-undone (stop-fails is_success point.0 refl refl)) (past-other refl)

  -- so it comes to the directory of the new name
  rename-walked : {So : Type 0} (v : Volume) (naming : Naming) (walked : Walked) → BarsWithout is_success walked
      → ((dir : ℕ) → walked ≡ Reached dir → Past (Ask (request.Rename number path replace)) So (rename_into v naming dir))
      → Past (Ask (request.Rename number path replace)) So (rename_walked v naming walked)
  unfolding rename_walked
  rename-walked v naming (Reached dir) undone goes = goes dir refl
  rename-walked v naming (Barred status) undone goes = past-undone undone
  rename-walked v naming (Diverted file next) undone goes = stops v file _

  rename-link : {So : Type 0} (v : Volume) (naming : Naming) (access : ℕ)
      → ((dir : ℕ) → walk v (components naming.path) ≡ Reached dir → Past (Ask (request.Rename number path replace)) So (rename_into v naming dir))
      → Past (Ask (request.Rename number path replace)) So (rename_link v naming access)
  unfolding rename_link
  rename-link v naming access goes = (let undone = walk-fails is_success refl refl v (components naming.path) 1 0 in search (past-if, past-other, rename-walked, undone, goes) depth 60 fits 4000)

  rename-by : {So : Type 0} (v : Volume) (id : ℕ) (handle : Handle)
      → ((dir : ℕ) → walk v (components path) ≡ Reached dir → Past (Ask (request.Rename number path replace)) So (rename_into v (naming_by v id handle path replace) dir))
      → Past (Ask (request.Rename number path replace)) So (rename_by v id handle path replace)
  unfolding rename_by
  rename-by v id handle goes = past-if _ _ _ (past-other refl) (rename-link v (naming_by v id handle path replace) handle.access goes)

  -- ---- the set of its own link

  -- it comes to it in the volume that it began with, whatever is below or at the new name
  rename-free : (v : Volume) (naming : Naming) (dir : ℕ) (over : Option ℕ)
      → Past (Ask (request.Rename number path replace)) (waits_to_name v naming (set.Link naming.link) ≡ false) (rename_free v naming dir over)
  unfolding rename_free
  rename-free v naming dir over = past-waits v (set.Link naming.link) NameChange (Some naming.handle) naming.key _

  rename-over : (v : Volume) (naming : Naming) (dir link : ℕ)
      → Past (Ask (request.Rename number path replace)) (waits_to_name v naming (set.Link naming.link) ≡ false) (rename_over v naming dir link)
  unfolding rename_over rename_over_broken rename_over_closed
  rename-over v naming dir link = past-fault v _ _ (search giving depth 20) (past-if _ _ _ past-held
      (past-closed v (set.Link link) NameChange (Some naming.handle) naming.key AccessDenied (λ w. rename_free w naming dir (Some link)) refl (rename-free v naming dir (Some link))))

  rename-named : (v : Volume) (naming : Naming) (dir : ℕ)
      → Past (Ask (request.Rename number path replace)) (waits_to_name v naming (set.Link naming.link) ≡ false) (rename_named v naming dir)
  unfolding rename_named
  rename-named v naming dir = past-if _ _ _ (past-other refl) (past-option (replaced_link v naming dir) _ _ (λ link. rename-over v naming dir link) (rename-free v naming dir None))

  rename-into : (v : Volume) (naming : Naming) (dir : ℕ)
      → Past (Ask (request.Rename number path replace)) (waits_to_name v naming (set.Link naming.link) ≡ false) (rename_into v naming dir)
  unfolding rename_into rename_directory rename_below_closed
  rename-into v naming dir = past-if _ _ _ (past-if _ _ _ (past-other refl) (past-if _ _ _ past-held
      (past-closed v (set.Below naming.file) NameChange (Some naming.handle) naming.key AccessDenied (λ w. rename_named w naming dir) refl (rename-named v naming dir)))) (rename-named v naming dir)

  -- ---- the sets below a directory, and of the link that it replaces

  -- a directory's is tested before the name is looked up, and a file has none
  rename-above : (v : Volume) (naming : Naming) (dir : ℕ) → is_directory v.files naming.file ≡ true
      → Past (Ask (request.Rename number path replace)) (waits_to_name v naming (set.Below naming.file) ≡ false) (rename_into v naming dir)
  unfolding rename_into rename_directory
  rename-above v naming dir directory = rw directory (past-if _ _ _ (past-other refl) (past-waits v (set.Below naming.file) NameChange (Some naming.handle) naming.key _))

  rename-replaces : (v : Volume) (naming : Naming) (dir link : ℕ) → replace_fault v naming link ≡ None
      → Past (Ask (request.Rename number path replace)) (waits_to_name v naming (set.Link link) ≡ false) (rename_over v naming dir link)
  unfolding rename_over rename_over_broken
  rename-replaces v naming dir link free = rw free (past-waits v (set.Link link) NameChange (Some naming.handle) naming.key _)

  rename-onto : (v : Volume) (naming : Naming) (dir link : ℕ) → is_directory v.files naming.file ≡ false → replaced_link v naming dir ≡ Some link → replace_fault v naming link ≡ None
      → Past (Ask (request.Rename number path replace)) (waits_to_name v naming (set.Link link) ≡ false) (rename_into v naming dir)
  unfolding rename_into rename_named
  rename-onto v naming dir link isnt there free = rw (isnt, there) (past-if _ _ _ (past-other refl) (rename-replaces v naming dir link free))

-- a directory doesn't replace a link
moves-file : (marked keeps directory moved : Bool) (rest : Option Status)
    → (if marked then Some DeletePending else if keeps then Some ObjectNameCollision else if directory then Some AccessDenied else if moved then Some AccessDenied else rest) ≡ None → moved ≡ false
moves-file true keeps directory moved rest none = cc
moves-file false true directory moved rest none = cc
moves-file false false true moved rest none = cc
moves-file false false false true rest none = cc
moves-file false false false false rest none = refl

-- by the handle that it names, each of the three sets
renames-own : (v : Volume) (client number : ℕ) (path : List ℕ) (replace : Bool) (handle : Handle) → handle_numbered v client number ≡ Some handle
    → Past (Ask (request.Rename number path replace)) (IsFree v client (Ask (request.Rename number path replace)) NameChange (set.Link handle.link)) (try_rename v client number path replace)
unfolding try_rename rename_at
renames-own v client number path replace handle opened =
    let its = is-handle v client number handle opened in
    rw (its.named, its.row) (rename-by number path replace v its.id handle (λ dir reached. rename-into number path replace v (naming_by v its.id handle path replace) dir))

renames-above : (v : Volume) (client number : ℕ) (path : List ℕ) (replace : Bool) (handle : Handle) → handle_numbered v client number ≡ Some handle
    → is_directory v.files (linked_file v handle.link) ≡ true
    → Past (Ask (request.Rename number path replace)) (IsFree v client (Ask (request.Rename number path replace)) NameChange (set.Below (linked_file v handle.link))) (try_rename v client number path replace)
unfolding try_rename rename_at
renames-above v client number path replace handle opened directory =
    let its = is-handle v client number handle opened in
    rw (its.named, its.row) (rename-by number path replace v its.id handle (λ dir reached. rename-above number path replace v (naming_by v its.id handle path replace) dir directory))

renames-over : (v : Volume) (client number id : ℕ) (path : List ℕ) (replace : Bool) (over : ℕ) (handle : Handle) → handle_of v client number ≡ Some id → row_of v.handles id ≡ Some handle
    → IsLinkAt v path over → (over == handle.link) ≡ false → replace_fault v (naming_by v id handle path replace) over ≡ None
    → Past (Ask (request.Rename number path replace)) (IsFree v client (Ask (request.Rename number path replace)) NameChange (set.Link over)) (try_rename v client number path replace)
unfolding try_rename rename_at
renames-over v client number id path replace over handle named row there apart free =
    rw (named, row) (rename-by number path replace v id handle (λ dir reached. rename-onto number path replace v (naming_by v id handle path replace) dir over
    (moves-file _ _ _ _ _ free) (rw (at_link v path dir over reached there, apart) refl) free))

-- ---- any call but an open

-- the request names one handle, and breaks by one class
same-number : (one other : ℕ × Class) → Some one ≡ Some other → one.0 ≡ other.0
same-number one other so = ap (λ (found : Option (ℕ × Class)). option_map_or (λ (its : ℕ × Class). its.0) found one.0) so

same-class : (one other : ℕ × Class) → Some one ≡ Some other → one.1 ≡ other.1
same-class one other so = ap (λ (found : Option (ℕ × Class)). option_map_or (λ (its : ℕ × Class). its.1) found one.1) so

-- what breaks oplocks on the stream of its handle
stream-waits : (v : Volume) (turn client number : ℕ) (what : What) (kind : Class) (asked stream : ℕ) → breaks_on_stream what ≡ Some (asked, kind) → stream_numbered v client asked ≡ Some stream
    → Past what (IsFree v client what kind (set.Stream stream)) (try_what v turn client number what)
stream-waits v turn client number (Ask (request.Read handle at count)) kind asked stream is under = elim (cases_Bool (count == 0)) [
  | inl none ↦ (let impossible = rw none at is in cc)
  | inr some ↦ (let number_so : handle ≡ asked = same-number (handle, ReadOpen) (asked, kind) (rw some at is) in
      let kind_so : ReadOpen ≡ kind = same-class (handle, ReadOpen) (asked, kind) (rw some at is) in
      rw (← kind_so) (read v client handle at count stream some (rw (← number_so) at under)))
]
stream-waits v turn client number (Ask (request.Write handle at bytes)) kind asked stream is under = elim (cases_Bool (length bytes == 0)) [
  | inl none ↦ (let impossible = rw none at is in cc)
  | inr some ↦ (let number_so : handle ≡ asked = same-number (handle, Change) (asked, kind) (rw some at is) in
      let kind_so : Change ≡ kind = same-class (handle, Change) (asked, kind) (rw some at is) in
      rw (← kind_so) (write v client handle at bytes stream some (rw (← number_so) at under)))
]
stream-waits v turn client number (Ask (request.SetEnd handle end)) kind asked stream is under =
    let number_so : handle ≡ asked = same-number (handle, Change) (asked, kind) is in
    let kind_so : Change ≡ kind = same-class (handle, Change) (asked, kind) is in
    rw (← kind_so) (set_end v client handle end stream (rw (← number_so) at under))
stream-waits v turn client number (Ask (request.Lock handle at count exclusive wait)) kind asked stream is under =
    let number_so : handle ≡ asked = same-number (handle, Change) (asked, kind) is in
    let kind_so : Change ≡ kind = same-class (handle, Change) (asked, kind) is in
    rw (← kind_so) (lock v client handle at count exclusive wait stream (rw (← number_so) at under))
stream-waits v turn client number _ kind asked stream is under = cc

-- by what it may break
any-waits : (v : Volume) (call : Call) (turn : ℕ) → asks_create call.what ≡ false → (kind : Class) (on : HandleSet) → MayBreak v call kind on
    → Past call.what (IsFree v call.client call.what kind on) (try_what v turn call.client call.number call.what)
any-waits v call turn opens kind on (Opens path wanted share disposition options attributes key is named classed breaks) = (let impossible = rw is at opens in cc)
any-waits v call turn opens kind on (OnStream number stream is under set_so) = rw set_so (stream-waits v turn call.client call.number call.what kind number stream is under)
any-waits v call turn opens kind on (Marks number handle is row classed set_so) = rw (set_so, classed, is) (set_disposition v call.client number handle row)
any-waits v call turn opens kind on (Renames number path replace handle is row classed set_so) = rw (set_so, classed, is) (renames-own v call.client number path replace handle row)
any-waits v call turn opens kind on (RenamesAbove number path replace handle is row classed directory set_so) = rw (set_so, classed, is) (renames-above v call.client number path replace handle row directory)
any-waits v call turn opens kind on (RenamesOver number id path replace over handle is named row there apart free classed set_so) =
    rw (set_so, classed, is) (renames-over v call.client number id path replace over handle named row there apart free)
any-waits v call turn opens kind on (LinksOver number id path replace over handle is named row there apart free classed set_so) =
    rw (set_so, classed, is) (links-over v call.client number id path replace over handle named row there apart free)

-- so it does by fewer statuses
unawaited : (what : What) (kind : Class) (Such : Volume → Type 0) (outcome : Outcome) → Where (λ reply. ends_only_behind_breaks what reply.status) Such outcome
    → Where (λ reply. ends_unawaited what kind reply.status) Such outcome
unawaited what kind Such (Done w reply) so = λ ends. so (and_left (ends_only_behind_breaks what reply.status) (not (may_go_beside what kind reply.status)) ends)
unawaited what kind Such (Stay w interim) so = so
unawaited what kind Such (Hold w blockers interim) so = so

-- where such a call ends with a status that comes only behind its breaks, it needed to wait for none of those that it may begin
pub rest-waits : (v : Volume) (call : Call) (turn : ℕ) (what : What) → call.what ≡ what → asks_create what ≡ false
    → (class : Class) (on : HandleSet) → MayBreak v call class on
    → Where (λ reply. ends_unawaited what class reply.status)
    (λ (next : Volume). waits_for v on class (acting_handle v call.client call.what) (acting_key v call.client call.what) ≡ false) (try_what v turn call.client call.number what)
rest-waits v call turn what is opens kind on may = rw (← is) (unawaited call.what kind _ (try_what v turn call.client call.number call.what) (any-waits v call turn (rw is opens) kind on may).so)
