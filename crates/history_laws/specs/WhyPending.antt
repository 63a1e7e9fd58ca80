-- Why a call is pending after a try of it. It has come to its breaks, as far as statuses tell, and is held by just the breaks of
-- one set of handles for which its rule has it wait, or by just the locks that are in its way; or it stays pending as the call of
-- an oplock, whose level it shows, as a Notify, to whose handle's watch nothing is due, or as a wait, whose call is pending.
-- After [MS-FSA] 'Algorithm to Check for an Oplock Break', 'Server Requests a Byte-Range Lock', 'Server Requests an Oplock',
-- 'Server Acknowledges an Oplock Break' and 'Server Requests Change Notifications for a Directory'.
use Rattle.std.specs.Option.{option_map_or}
use Rattle.std.specs.Prelude.{◌≡◌, ◌==◌, ◌&&◌, not, ℕ, Bool, true, false, List, [], map, length, All, Some, None, is_some, option_and_then}
use Rattle.fsa_types.specs.OplockGrants.{as_granted}
use Rattle.fsa_types.specs.Oplocks.{has_read, in_both}
use Rattle.fsa_types.specs.Rows.{row_of}
use Rattle.fsa_types.specs.declared.oplock.Class.{Class}
use Rattle.fsa_types.specs.declared.oplock.Class.TheVariants.{Change}
use Rattle.fsa_types.specs.declared.oplock.HandleSet.{HandleSet}
use Rattle.fsa_types.specs.declared.oplock.HandleSet.TheVariants as set
use Rattle.fsa_types.specs.declared.reply.Blocker.{Blocker}
use Rattle.fsa_types.specs.declared.reply.Blocker.TheVariants.{Break}
use Rattle.fsa_types.specs.declared.reply.Interim.{Interim}
use Rattle.fsa_types.specs.declared.reply.Interim.TheVariants as interim
use Rattle.fsa_types.specs.declared.request.Call.{Call}
use Rattle.fsa_types.specs.declared.request.Level.{Level}
use Rattle.fsa_types.specs.declared.request.Request.TheVariants as request
use Rattle.fsa_types.specs.declared.request.What.{What}
use Rattle.fsa_types.specs.declared.request.What.TheVariants.{Ask, WaitFor}
use Rattle.fsa_types.specs.declared.status.Status.TheVariants.{OplockBreakInProgress}
use Rattle.fsa_model.specs.Breaks.{awaited, with_breaks}
use Rattle.fsa_model.specs.Coherence.{acting_handle, acting_key, key_of, stream_under}
use Rattle.fsa_model.specs.Grant.{is_not_granted, oplock_of, with_granted, with_level_kept}
use Rattle.fsa_model.specs.History.{HistoryEntry}
use Rattle.fsa_model.specs.Locking.{lock_blockers}
use Rattle.fsa_model.specs.Lookups.{handle_of}
use Rattle.fsa_model.specs.Outcome.{Outcome, Done, Stay, Hold}
use Rattle.fsa_model.specs.Replacement.{is_any_open}
use Rattle.fsa_model.specs.Reports.{PassesChecks}
use Rattle.fsa_model.specs.Setup.{Setup}
use Rattle.fsa_model.specs.Tries.{Tried, tries_of}
use Rattle.fsa_model.specs.Try.{try, try_what}
use Rattle.fsa_model.specs.Volume.{Handle, Oplock, Volume}
use Rattle.fsa_model.specs.Waiting.{has_ended, is_pending}
use Rattle.fsa_model.specs.Waits.{waits_for}
use Rattle.fsa_model.specs.Watching.{is_something_due, watch_of, with_watch_begun}
use Rattle.history_laws.specs.OplockChanges.{MayBreak, acts_on_directory, may_end_behind_breaks, may_go_beside, renames}

-- ---- held

-- such an outcome may come behind the checks that stand before a call's breaks: an end with a status that may come there, or a wait
-- for locks
abbrev pub IsBehindChecks : Bool → What → Outcome → Type 0
IsBehindChecks directory what (Done next reply) = may_end_behind_breaks directory what reply.status ≡ true
IsBehindChecks directory what (Stay next shown) = ⊥
IsBehindChecks directory what (Hold next blockers interim.LockWait) = Unit {0}
IsBehindChecks directory what (Hold next blockers _) = ⊥

-- the call comes to its breaks, as far as statuses tell: were there no oplock it would come to such an outcome. The statuses of
-- other checks come only before breaks, so it has passed these; but ACCESS_DENIED of a rename or a link, and DELETE_PENDING and
-- OBJECT_NAME_COLLISION of a directory's rename, come before and behind
abbrev pub PassesToBreaks : Volume → Call → Type 0
PassesToBreaks v call = IsBehindChecks (acts_on_directory v call) call.what (try_what (record v { oplocks = [] }) 0 call.client call.number call.what)

-- the link of the handle that the call names; 0 where no open handle is named. The root's is 0 too, and can't be renamed
abbrev pub acting_link : Volume → Call → ℕ
acting_link v call = option_map_or (λ handle. handle.link) (option_and_then (λ handle. row_of v.handles handle) (acting_handle v call.client call.what)) 0

-- of a rename's sets those below a directory come first, then the handles of the link that it replaces, and then those of its
-- own link
abbrev pub comes_first : ℕ → HandleSet → HandleSet → Bool
comes_first own (set.Below file) (set.Link link) = true
comes_first own (set.Link first) (set.Link link) = not (first == own) && link == own
comes_first own _ _ = false

-- where the call renames, no handle is open of its sets that come before this one
abbrev pub IsFirst : Volume → Call → Class → HandleSet → Type 0
IsFirst v call class on =
    renames call.what ≡ true → (first : HandleSet) → MayBreak v call class first → comes_first (acting_link v call) first on ≡ true → is_any_open v first ≡ false

-- after a try of the call, which left this volume, and is held by these blockers
pub data WhyHeld (v : Volume) (call : Call) (next : Volume) (blockers : List Blocker) : Interim → Type 0 where
  -- it comes to its breaks; it has broken the oplocks of one set, but those of its own handle and key, and nothing else has changed
  -- but the calls that this tells; and it waits for just the breaks of that set for which the rule has it wait, one or more. It
  -- isn't an open that goes on beside them, and where it renames no handle is open of its sets that come before this one
  ByBreaks : (class : Class) (on : HandleSet) → MayBreak v call class on → PassesToBreaks v call → may_go_beside call.what class OplockBreakInProgress ≡ false → IsFirst v call class on
      → waits_for v on class (acting_handle v call.client call.what) (acting_key v call.client call.what) ≡ true
      → blockers ≡ map Break (awaited v on class (acting_handle v call.client call.what) (acting_key v call.client call.what))
      → next ≡ with_breaks v on class (acting_handle v call.client call.what) (acting_key v call.client call.what) → WhyHeld v call next blockers interim.Held
  -- it is a lock that is to wait, and comes to its breaks; it has broken what oplocks of others there are on its stream, has to wait
  -- for none of these breaks, and waits for just the locks that conflict with it, one or more
  ByLocks : (number at count handle stream : ℕ) (exclusive : Bool) → call.what ≡ Ask (request.Lock number at count exclusive true) → PassesToBreaks v call
      → handle_of v call.client number ≡ Some handle → stream_under v (Some handle) ≡ Some stream → waits_for v (set.Stream stream) Change (Some handle) (key_of v handle) ≡ false
      → blockers ≡ lock_blockers v handle stream at count exclusive → (length blockers == 0) ≡ false
      → next ≡ with_breaks v (set.Stream stream) Change (Some handle) (key_of v handle) → WhyHeld v call next blockers interim.LockWait

-- ---- pending, and not held

-- after a try of the call, which is or would be pending under this turn, which left this volume, and by which it stays pending
pub data WhyStays (v : Volume) (call : Call) (turn : ℕ) (next : Volume) : Interim → Type 0 where
  -- it asks for an oplock of this level, which can be granted and is, and nothing else has changed but what that switches; so its
  -- handle has it
  Granted : (number handle stream : ℕ) (level : Level) → call.what ≡ Ask (request.Oplock number level) → handle_of v call.client number ≡ Some handle
      → stream_under v (Some handle) ≡ Some stream → is_not_granted v handle (key_of v handle) stream level ≡ false → next ≡ with_granted v handle (key_of v handle) stream level turn
      → oplock_of next handle ≡ Some (as_granted handle (key_of v handle) level turn) → WhyStays v call turn next (interim.Granted level)
  -- it acknowledges a break that was in progress; something is in both the break's target and the level acknowledged, and just that
  -- stays of its handle's oplock; nothing else has changed
  Kept : (number handle : ℕ) (level target : Level) (was : Oplock) → call.what ≡ Ask (request.Ack number level) → handle_of v call.client number ≡ Some handle
      → oplock_of v handle ≡ Some was → was.target ≡ Some target → has_read (in_both level target) ≡ true
      → next ≡ with_level_kept v handle (in_both level target) turn → oplock_of next handle ≡ Some (record was { level = in_both level target; target = None; number = 0; call = Some turn }) → WhyStays v call turn next (interim.Granted (in_both level target))
  -- it is a Notify that passes its checks; nothing is due to its handle's watch, which begins now where there was none, and nothing
  -- else has changed
  Watches : (number filter room handle : ℕ) (tree : Bool) (row : Handle) → call.what ≡ Ask (request.Notify number filter tree room) → handle_of v call.client number ≡ Some handle
      → row_of v.handles handle ≡ Some row → PassesChecks v row filter → next ≡ with_watch_begun v handle filter tree → is_some (watch_of next handle) ≡ true → is_something_due next handle ≡ false → WhyStays v call turn next interim.Watch
  -- it waits for a call of its client that is pending and hasn't ended
  Waits : (number : ℕ) → call.what ≡ WaitFor number → is_pending v call.client number ≡ true → has_ended v call.client number ≡ false → next ≡ v
      → WhyStays v call turn next interim.Waiting

-- ---- in each try

-- a try of the call, which is or would be pending under this turn, and which came to this: where it is pending then, it is so for
-- such a cause
abbrev pub PendsForCause : Volume → Call → ℕ → Outcome → Type 0
PendsForCause v call turn (Done next reply) = Unit {0}
PendsForCause v call turn (Hold next blockers shown) = WhyHeld v call next blockers shown
PendsForCause v call turn (Stay next shown) = WhyStays v call turn next shown

-- so it is in each try of a history
abbrev pub CallsPendForCause : Setup → List HistoryEntry → Type 0
CallsPendForCause setup history = All (λ (t : Tried). PendsForCause t.before t.call t.turn (try t.before t.call t.turn)) (tries_of setup history)
