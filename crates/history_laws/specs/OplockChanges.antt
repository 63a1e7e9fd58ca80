-- Why a handle has the oplock that it has after a try of a call, and why one is gone: the call broke it, asked for it, took its
-- place, kept it, gave it up, cancelled the call that it was granted to, or closed its handle; or it is as it was. Which oplocks
-- a call may break, by which class, when it has broken none or all of them, and that where it ends with a status that comes only
-- behind these breaks it has to wait for none of them, but for an open that goes on beside them. After [MS-FSA] 'Algorithm to
-- Check for an Oplock Break', 'Server Requests an Oplock', 'Server Acknowledges an Oplock Break', 'Server Requests Canceling an
-- Operation' and 'Server Requests Closing an Open'.
use Rattle.std.specs.Option.{option_map_or}
use Rattle.std.specs.Prelude.{◌≡◌, ◌==◌, ◌&&◌, ◌||◌, not, ℕ, Bool, true, false, List, length, Option, Some, None, All, option_and_then, unwrap_or, fold, if◌then◌else◌}
use Rattle.fsa_types.specs.Access.{has_any, has_other, map_generic}
use Rattle.fsa_types.specs.Masks.{COMPLETE_IF_OPLOCKED}
use Rattle.fsa_types.specs.OplockGrants.{as_granted}
use Rattle.fsa_types.specs.OplockLists.{effect_on}
use Rattle.fsa_types.specs.Oplocks.{Effect, Ends, Begins, Lowers, has_read, in_both, is_within, keep}
use Rattle.fsa_types.specs.Paths.{components}
use Rattle.fsa_types.specs.Rows.{row_of}
use Rattle.fsa_types.specs.declared.oplock.Class.{Class}
use Rattle.fsa_types.specs.declared.oplock.Class.TheVariants.{Clash, NameChange, ReadOpen, Change}
use Rattle.fsa_types.specs.declared.oplock.HandleSet.{HandleSet}
use Rattle.fsa_types.specs.declared.oplock.HandleSet.TheVariants as set
use Rattle.fsa_types.specs.declared.request.Call.{Call}
use Rattle.fsa_types.specs.declared.request.Disposition.{Disposition}
use Rattle.fsa_types.specs.declared.request.Level.{Level}
use Rattle.fsa_types.specs.declared.request.Request.TheVariants as request
use Rattle.fsa_types.specs.declared.request.What.{What}
use Rattle.fsa_types.specs.declared.request.What.TheVariants.{Ask, Leave}
use Rattle.fsa_types.specs.declared.status.Status.{Status}
use Rattle.fsa_types.specs.declared.status.Status.TheVariants.{Success, AccessDenied, DeletePending, DiskFull, EndOfFile, FileLockConflict, LockNotGranted, ObjectNameCollision, OplockBreakInProgress, QuotaExceeded, SharingViolation}
use Rattle.fsa_model.specs.Breaks.{is_chosen, with_breaks}
use Rattle.fsa_model.specs.Coherence.{Where, acting_handle, acting_key, is_own, key_of, set_of_path, stream_under}
use Rattle.fsa_model.specs.Edits.{is_call}
use Rattle.fsa_model.specs.Grant.{is_not_granted, oplock_of, with_granted}
use Rattle.fsa_model.specs.History.{HistoryEntry}
use Rattle.fsa_model.specs.Lookups.{child_of, clashes_on, handle_of, is_directory, linked_file, number_of}
use Rattle.fsa_model.specs.Open.{attribute_rights, overwrites}
use Rattle.fsa_model.specs.Outcome.{Outcome, Done, Stay, Hold}
use Rattle.fsa_model.specs.Rename.{naming_by}
use Rattle.fsa_model.specs.Replacement.{replace_fault}
use Rattle.fsa_model.specs.SetDisposition.{marked_handles}
use Rattle.fsa_model.specs.Setup.{Setup}
use Rattle.fsa_model.specs.Tries.{Tried, tries_of}
use Rattle.fsa_model.specs.Try.{try}
use Rattle.fsa_model.specs.Turn.{volume_after}
use Rattle.fsa_model.specs.Volume.{Handle, Oplock, Volume}
use Rattle.fsa_model.specs.Waits.{waits_for}
use Rattle.fsa_model.specs.Walk.{Reached, last_name, walk}
use Rattle.history_laws.specs.Releasing.{is_open_of}

-- ---- which oplocks a call may break, and by which class

-- the handle to which the client gave this number, and its stream
abbrev pub handle_numbered : Volume → ℕ → ℕ → Option Handle
handle_numbered v client number = option_and_then (λ handle. row_of v.handles handle) (handle_of v client number)

abbrev pub stream_numbered : Volume → ℕ → ℕ → Option ℕ
stream_numbered v client number = stream_under v (handle_of v client number)

-- an open that clashes with a handle breaks by class Clash; one that overwrites by class Change; another by class ReadOpen
abbrev pub class_of_open : Bool → Disposition → Class
class_of_open clashes disposition = if clashes then Clash else if overwrites disposition then Change else ReadOpen

-- an open breaks oplocks where it clashes with a handle, overwrites, or wants more than the rights to attributes
abbrev pub breaks_by_open : Bool → Disposition → ℕ → Bool
breaks_by_open clashes disposition access = clashes || overwrites disposition || has_other access attribute_rights

-- a read or a write of some bytes, a new length and a lock break oplocks on the stream of the handle that they name: its number,
-- and the class
abbrev pub breaks_on_stream : What → Option (ℕ × Class)
breaks_on_stream (Ask (request.Read number at count)) = if count == 0 then None else Some (number, ReadOpen)
breaks_on_stream (Ask (request.Write number at bytes)) = if length bytes == 0 then None else Some (number, Change)
breaks_on_stream (Ask (request.SetEnd number end)) = Some (number, Change)
breaks_on_stream (Ask (request.Lock number at count exclusive wait)) = Some (number, Change)
breaks_on_stream _ = None

-- the path leads to this link
abbrev pub IsLinkAt : Volume → List ℕ → ℕ → Type 0
IsLinkAt v path link = (dir : ℕ) × (walk v (components path) ≡ Reached dir) × (child_of v dir (last_name (components path)) ≡ Some link)

-- the call may break oplocks of these handles by this class
pub data MayBreak (v : Volume) (call : Call) (class : Class) (on : HandleSet) : Type 0 where
  -- it opens the directory or the stream that its path names
  Opens : (path : List ℕ) (wanted share : ℕ) (disposition : Disposition) (options attributes key : ℕ) → call.what ≡ Ask (request.Create path wanted share disposition options attributes key)
      → set_of_path v path ≡ Some on → class ≡ class_of_open (clashes_on v on (map_generic wanted) share) disposition
      → breaks_by_open (clashes_on v on (map_generic wanted) share) disposition (map_generic wanted) ≡ true → MayBreak v call class on
  -- it reads, writes, sets the length of, or locks, the stream of its handle
  OnStream : (number stream : ℕ) → breaks_on_stream call.what ≡ Some (number, class) → stream_numbered v call.client number ≡ Some stream → on ≡ set.Stream stream
      → MayBreak v call class on
  -- it marks for deletion the named stream, or else the link, of its handle
  Marks : (number : ℕ) (handle : Handle) → call.what ≡ Ask (request.SetDisposition number true) → handle_numbered v call.client number ≡ Some handle
      → class ≡ NameChange → on ≡ marked_handles v handle → MayBreak v call class on
  -- it renames the link of its handle; where that is a directory's, no handle below it may stay open; and another link that has
  -- the new name is replaced, if it can be
  Renames : (number : ℕ) (path : List ℕ) (replace : Bool) (handle : Handle) → call.what ≡ Ask (request.Rename number path replace) → handle_numbered v call.client number ≡ Some handle
      → class ≡ NameChange → on ≡ set.Link handle.link → MayBreak v call class on
  RenamesAbove : (number : ℕ) (path : List ℕ) (replace : Bool) (handle : Handle) → call.what ≡ Ask (request.Rename number path replace) → handle_numbered v call.client number ≡ Some handle
      → class ≡ NameChange → is_directory v.files (linked_file v handle.link) ≡ true → on ≡ set.Below (linked_file v handle.link) → MayBreak v call class on
  RenamesOver : (number id : ℕ) (path : List ℕ) (replace : Bool) (link : ℕ) (handle : Handle) → call.what ≡ Ask (request.Rename number path replace) → handle_of v call.client number ≡ Some id
      → row_of v.handles id ≡ Some handle → IsLinkAt v path link → (link == handle.link) ≡ false → replace_fault v (naming_by v id handle path replace) link ≡ None
      → class ≡ NameChange → on ≡ set.Link link → MayBreak v call class on
  -- it puts a link in the place of another file's
  LinksOver : (number id : ℕ) (path : List ℕ) (replace : Bool) (link : ℕ) (handle : Handle) → call.what ≡ Ask (request.Link number path replace) → handle_of v call.client number ≡ Some id
      → row_of v.handles id ≡ Some handle → IsLinkAt v path link → (linked_file v link == linked_file v handle.link) ≡ false → replace_fault v (naming_by v id handle path replace) link ≡ None
      → class ≡ NameChange → on ≡ set.Link link → MayBreak v call class on

-- the call may break this oplock by this class: its handle is of such a set, isn't the one by which the call acts, and has
-- another key, or the key 0
pub record IsBroken (v : Volume) (call : Call) (class : Class) (oplock : Oplock) : Type 0 where
  pub on : HandleSet
  pub may : MayBreak v call class on
  pub chosen : is_chosen v on (acting_handle v call.client call.what) (acting_key v call.client call.what) oplock ≡ true

-- the oplocks of these sets broken by this class, one set after the other, by a call that acts by this handle, where it has
-- one, and with this key
abbrev pub with_sets_broken : Class → Option ℕ → ℕ → List HandleSet → Volume → Volume
with_sets_broken class acting key sets v = fold (λ w on. with_breaks w on class acting key) v sets

-- the oplocks of the next volume are those that such breaks leave, of sets of which the call may break oplocks by this class
pub record BreaksSets (v : Volume) (call : Call) (next : Volume) : Type 0 where
  pub class : Class
  pub sets : List HandleSet
  pub may : All (λ on. MayBreak v call class on) sets
  pub oplocks : next.oplocks ≡ (with_sets_broken class (acting_handle v call.client call.what) (acting_key v call.client call.what) sets v).oplocks

-- a request for an oplock, an acknowledgement, a cancellation, a close and a leaving change oplocks otherwise
abbrev pub changes_own : What → Bool
changes_own (Ask (request.Oplock number level)) = true
changes_own (Ask (request.Ack number level)) = true
changes_own (Ask (request.Cancel number)) = true
changes_own (Ask (request.Close number)) = true
changes_own Leave = true
changes_own _ = false

-- ---- what it must not break yet, and what it has to break

-- the statuses with which a call may end once it has come to its breaks; where a rename is of a directory, the new name is
-- looked up behind the breaks of what is below
abbrev pub may_end_behind_breaks : Bool → What → Status → Bool
may_end_behind_breaks directory (Ask (request.Create path wanted share disposition options attributes key)) Success = true
may_end_behind_breaks directory (Ask (request.Create path wanted share disposition options attributes key)) OplockBreakInProgress = true
may_end_behind_breaks directory (Ask (request.Create path wanted share disposition options attributes key)) SharingViolation = true
may_end_behind_breaks directory (Ask (request.Read number at count)) Success = true
may_end_behind_breaks directory (Ask (request.Read number at count)) FileLockConflict = true
may_end_behind_breaks directory (Ask (request.Read number at count)) EndOfFile = true
may_end_behind_breaks directory (Ask (request.Write number at bytes)) Success = true
may_end_behind_breaks directory (Ask (request.Write number at bytes)) FileLockConflict = true
may_end_behind_breaks directory (Ask (request.Write number at bytes)) QuotaExceeded = true
may_end_behind_breaks directory (Ask (request.Write number at bytes)) DiskFull = true
may_end_behind_breaks directory (Ask (request.SetEnd number end)) Success = true
may_end_behind_breaks directory (Ask (request.SetEnd number end)) QuotaExceeded = true
may_end_behind_breaks directory (Ask (request.SetEnd number end)) DiskFull = true
may_end_behind_breaks directory (Ask (request.Lock number at count exclusive wait)) Success = true
may_end_behind_breaks directory (Ask (request.Lock number at count exclusive wait)) LockNotGranted = true
may_end_behind_breaks directory (Ask (request.SetDisposition number delete)) Success = true
may_end_behind_breaks directory (Ask (request.Rename number path replace)) Success = true
may_end_behind_breaks directory (Ask (request.Rename number path replace)) AccessDenied = true
may_end_behind_breaks directory (Ask (request.Rename number path replace)) DeletePending = directory
may_end_behind_breaks directory (Ask (request.Rename number path replace)) ObjectNameCollision = directory
may_end_behind_breaks directory (Ask (request.Link number path replace)) Success = true
may_end_behind_breaks directory (Ask (request.Link number path replace)) AccessDenied = true
may_end_behind_breaks directory _ _ = false

-- the handle that the call names is that of a directory, the root left out, which can't be renamed
abbrev pub acts_on_directory : Volume → Call → Bool
acts_on_directory v call =
    option_map_or (λ handle. is_directory v.files (linked_file v handle.link)) (option_and_then (λ handle. row_of v.handles handle) (acting_handle v call.client call.what)) false

-- where the call has ended with another status, oplocks are as they were
abbrev pub BreaksNoneBefore : Volume → Call → Outcome → Type 0
BreaksNoneBefore v call outcome = Where (λ reply. not (may_end_behind_breaks (acts_on_directory v call) call.what reply.status)) (λ (next : Volume). next.oplocks ≡ v.oplocks) outcome

-- those of them with which it ends only then: all, but for a rename's and a link's refusals
abbrev pub ends_only_behind_breaks : What → Status → Bool
ends_only_behind_breaks (Ask (request.Rename number path replace)) Success = true
ends_only_behind_breaks (Ask (request.Rename number path replace)) _ = false
ends_only_behind_breaks (Ask (request.Link number path replace)) Success = true
ends_only_behind_breaks (Ask (request.Link number path replace)) _ = false
ends_only_behind_breaks what status = may_end_behind_breaks false what status

-- a rename, which may be held by the breaks of one set before it comes to those of another
abbrev pub renames : What → Bool
renames (Ask (request.Rename number path replace)) = true
renames _ = false

-- where the call has ended with such a status, or is held and doesn't rename, the volume that it left is such
abbrev pub WherePast : What → (Volume → Type 0) → Outcome → Type 0
WherePast what Such (Done v reply) = ends_only_behind_breaks what reply.status ≡ true → Such v
WherePast what Such (Hold v blockers interim) = renames what ≡ false → Such v
WherePast what Such (Stay v interim) = Unit {0}

-- the oplock's level, or that to which a break of it is in progress, is within what the class leaves
abbrev pub is_within_class : Class → Oplock → Bool
is_within_class class oplock = is_within (unwrap_or oplock.target oplock.level) (keep class)

-- then each oplock on a set of which the call may break oplocks by a class, but those of the handle by which it acts and of its
-- key, is within what the class leaves: by its target while a break is in progress, and else by its level
abbrev pub BreaksAll : Volume → Call → Outcome → Type 0
BreaksAll v call outcome =
    (class : Class) (on : HandleSet) → MayBreak v call class on
    → WherePast call.what (λ (next : Volume). (handle : ℕ) (oplock : Oplock) → oplock_of next handle ≡ Some oplock
    → is_chosen v on (acting_handle v call.client call.what) (acting_key v call.client call.what) oplock ≡ true → is_within_class class oplock ≡ true) outcome

-- an open with COMPLETE_IF_OPLOCKED goes on beside breaks of class ReadOpen that it would wait for, and says so by its status
abbrev pub may_go_beside : What → Class → Status → Bool
may_go_beside (Ask (request.Create path wanted share disposition options attributes key)) ReadOpen OplockBreakInProgress = has_any options COMPLETE_IF_OPLOCKED
may_go_beside _ _ _ = false

-- the statuses with which a call ends only where the rule has it wait for no break by this class
abbrev pub ends_unawaited : What → Class → Status → Bool
ends_unawaited what class status = ends_only_behind_breaks what status && not (may_go_beside what class status)

-- where the call has ended with such a status, the rule has it wait for no break of a set of which it may break oplocks
abbrev pub EndsUnawaited : Volume → Call → Outcome → Type 0
EndsUnawaited v call outcome =
    (class : Class) (on : HandleSet) → MayBreak v call class on
    → Where (λ reply. ends_unawaited call.what class reply.status)
    (λ (next : Volume). waits_for v on class (acting_handle v call.client call.what) (acting_key v call.client call.what) ≡ false) outcome

-- ---- why a handle has its oplock

-- an oplock after such an effect: its level stays. Where a break began, no call is pending for the oplock, and the break's number
-- is left open here; where a break goes on only its target changes; other effects leave no such oplock
abbrev pub IsLeftBy : Effect → Oplock → Oplock → Type 0
IsLeftBy (Begins level) was now = now ≡ record was { target = Some level; number = now.number; call = None }
IsLeftBy (Lowers level) was now = now ≡ record was { target = Some level }
IsLeftBy _ was now = ⊥

-- after a try of the call, which is or would be pending under this turn, and which left this volume
pub data WhyNow (v : Volume) (call : Call) (turn : ℕ) (next : Volume) (handle : ℕ) (now : Oplock) : Type 0 where
  -- it had it before
  Same : oplock_of v handle ≡ Some now → WhyNow v call turn next handle now
  -- it had one that the call broke, and this is left of it
  Broken : (was : Oplock) (class : Class) → oplock_of v handle ≡ Some was → IsBroken v call class was → IsLeftBy (effect_on class was) was now → WhyNow v call turn next handle now
  -- the call asks for it by this handle, of a stream on which it can be granted; and the oplocks are what the grant leaves
  Granted : (number stream : ℕ) (level : Level) → call.what ≡ Ask (request.Oplock number level) → handle_of v call.client number ≡ Some handle → stream_under v (Some handle) ≡ Some stream
      → is_not_granted v handle (key_of v handle) stream level ≡ false → next.oplocks ≡ (with_granted v handle (key_of v handle) stream level turn).oplocks
      → now ≡ as_granted handle (key_of v handle) level turn → WhyNow v call turn next handle now
  -- the call acknowledges by this handle a break that was in progress; what is in both the break's target and the level
  -- acknowledged stays, and this call is its call
  Kept : (number : ℕ) (level target : Level) (was : Oplock) → call.what ≡ Ask (request.Ack number level) → handle_of v call.client number ≡ Some handle
      → oplock_of v handle ≡ Some was → was.target ≡ Some target → has_read (in_both level target) ≡ true
      → now ≡ record was { level = in_both level target; target = None; number = 0; call = Some turn } → WhyNow v call turn next handle now

-- ---- why it is gone

pub data WhyGone (v : Volume) (call : Call) (turn : ℕ) (next : Volume) (handle : ℕ) (was : Oplock) : Type 0 where
  -- the call broke it, and nothing is left of it
  Ended : (class : Class) → IsBroken v call class was → effect_on class was ≡ Ends → WhyGone v call turn next handle was
  -- the call acknowledges by this handle a break that was in progress, and nothing is in both its target and the level
  -- acknowledged
  GivenUp : (number : ℕ) (level target : Level) → call.what ≡ Ask (request.Ack number level) → handle_of v call.client number ≡ Some handle
      → was.target ≡ Some target → has_read (in_both level target) ≡ false → WhyGone v call turn next handle was
  -- the call is granted as much or more on another handle, of the same key and stream, and no break was in progress
  Switched : (number granted stream : ℕ) (level : Level) → call.what ≡ Ask (request.Oplock number level) → handle_of v call.client number ≡ Some granted
      → oplock_of next granted ≡ Some (as_granted granted (key_of v granted) level turn) → is_own v handle (Some granted) (key_of v granted) ≡ true
      → stream_under v (Some granted) ≡ Some stream → stream_under v (Some handle) ≡ Some stream → was.target ≡ None → is_within was.level level ≡ true
      → WhyGone v call turn next handle was
  -- the call cancels the pending call that it was granted to
  Cancelled : (number under : ℕ) → call.what ≡ Ask (request.Cancel number) → number_of (is_call call.client number) v.pending ≡ Some under
      → was.call ≡ Some under → WhyGone v call turn next handle was
  -- the call closes the handle, or its client, whose handle it is, leaves
  Closed : (number : ℕ) → call.what ≡ Ask (request.Close number) → handle_of v call.client number ≡ Some handle → WhyGone v call turn next handle was
  Left : call.what ≡ Leave → is_open_of v call.client handle ≡ true → WhyGone v call turn next handle was

-- ---- in each try

-- a try of the call, which is or would be pending under this turn, and which came to this: each oplock that a handle has then,
-- and each that it no longer has, has such a cause. A call that breaks some oplock of a set breaks them all, but those of its
-- own handle and key; none, where it ends with a status that comes only before its breaks; and all that it may, where it ends
-- with one that comes only behind them, or is held and doesn't rename. And where it has ended so, it had to wait for none, but
-- for an open that goes on beside its breaks
pub record ChangesForCause (v : Volume) (call : Call) (turn : ℕ) (outcome : Outcome) : Type 0 where
  pub now : (handle : ℕ) (oplock : Oplock) → oplock_of (volume_after outcome) handle ≡ Some oplock → WhyNow v call turn (volume_after outcome) handle oplock
  pub gone : (handle : ℕ) (was : Oplock) → oplock_of v handle ≡ Some was → oplock_of (volume_after outcome) handle ≡ None → WhyGone v call turn (volume_after outcome) handle was
  pub breaks : changes_own call.what ≡ false → BreaksSets v call (volume_after outcome)
  pub before : changes_own call.what ≡ false → BreaksNoneBefore v call outcome
  pub all : BreaksAll v call outcome
  pub unawaited : EndsUnawaited v call outcome

-- so it is in each try of a history
abbrev pub OplocksChangeForCause : Setup → List HistoryEntry → Type 0
OplocksChangeForCause setup history = All (λ (t : Tried). ChangesForCause t.before t.call t.turn (try t.before t.call t.turn)) (tries_of setup history)
