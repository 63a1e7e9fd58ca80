-- Whose calls end a break or a lock, and so release held calls.
use Rattle.std.specs.List.{list_any}
use Rattle.std.specs.Option.{option_map_or}
use Rattle.std.specs.Prelude.{◌≡◌, ◌≤◌, ◌==◌, ◌&&◌, not, ℕ, Bool, true, false, List, [], ◌∷◌, ◌++◌, Some, is_some}
use Rattle.fsa_types.specs.Rows.{row_of}
use Rattle.fsa_types.specs.declared.reply.Blocker.{Blocker}
use Rattle.fsa_types.specs.declared.reply.Blocker.TheVariants.{Break, Lock as LockOf}
use Rattle.fsa_types.specs.declared.request.Call.{Call}
use Rattle.fsa_types.specs.declared.request.CallId.{CallId}
use Rattle.fsa_types.specs.declared.request.Request.TheVariants.{Ack, Close, Unlock}
use Rattle.fsa_types.specs.declared.request.What.{What}
use Rattle.fsa_types.specs.declared.request.What.TheVariants.{Ask, Leave}
use Rattle.fsa_model.specs.Edits.{is_lock_on}
use Rattle.fsa_model.specs.Engine.{own_tried}
use Rattle.fsa_model.specs.History.{HistoryEntry, Run, run}
use Rattle.fsa_model.specs.Lookups.{handle_of, has_left, number_of}
use Rattle.fsa_model.specs.Once.{how_many}
use Rattle.fsa_model.specs.Reports.{settling_after}
use Rattle.fsa_model.specs.Settling.{is_given}
use Rattle.fsa_model.specs.Setup.{Setup}
use Rattle.fsa_model.specs.Turn.{settlement}
use Rattle.fsa_model.specs.Volume.{Pending, Volume}
use Rattle.fsa_model.specs.Waiting.{blocker_lives, is_breaking}

-- ---- who holds a break or a lock

-- a handle that passes holds it: it is the break in progress of that handle's oplock, or one of its locks
abbrev pub is_held_by : (ℕ → Bool) → Volume → Blocker → Bool
is_held_by test v (Break number) = list_any (λ oplock. is_breaking number oplock && test oplock.handle) v.oplocks
is_held_by test v (LockOf number) = list_any (λ entry. entry.0 == number && test entry.1.handle) v.locks

-- the handle `id` holds it
abbrev pub holds : Volume → ℕ → Blocker → Bool
holds v id b = is_held_by (λ handle. handle == id) v b

-- ---- what a call ends

-- by this number the client's calls name the open handle `id`
abbrev pub names_open : Volume → ℕ → ℕ → ℕ → Bool
names_open v client handle id = option_map_or (λ found. found == id) (handle_of v client handle) false

-- `id` is an open handle of the client's
abbrev pub is_open_of : Volume → ℕ → ℕ → Bool
is_open_of v client id = list_any (λ entry. entry.0 == id && entry.1.client == client) v.handles

-- of the locks of the open handle on exactly this range the lock of this number is the first; a handle of a directory has
-- none
abbrev pub is_first_lock : Volume → ℕ → ℕ → ℕ → ℕ → Bool
is_first_lock v id at count number =
    option_map_or (λ row. is_some row.stream) (row_of v.handles id) false
    && option_map_or (λ first. first == number) (number_of (is_lock_on id at count) v.locks) false

-- what the client asks ends the break or the lock, which the handle `id` holds: by that handle it acknowledges the break, or
-- unlocks exactly the lock's range (of several locks of the handle on that range the one granted first goes); or it closes
-- that handle, or leaves, and the handle is its own
abbrev pub ends_held : Volume → ℕ → What → ℕ → Blocker → Bool
ends_held v client (Ask (Ack handle level)) id (Break number) = names_open v client handle id
ends_held v client (Ask (Unlock handle at count)) id (LockOf number) = names_open v client handle id && is_first_lock v id at count number
ends_held v client (Ask (Close handle)) id b = names_open v client handle id
ends_held v client Leave id b = is_open_of v client id
ends_held v client _ id b = false

-- so does the call, unless its client has left
abbrev pub ends : Volume → Call → ℕ → Blocker → Bool
ends v call id b = not (has_left v call.client) && ends_held v call.client call.what id b

-- some handle holds it, and the call ends it
abbrev pub is_ended_by : Volume → Call → Blocker → Bool
is_ended_by v call b = is_held_by (λ id. ends v call id b) v b

-- the pending call waits for such a one
abbrev pub waits_for_ended : Volume → Call → Pending → Bool
waits_for_ended v call pending = list_any (is_ended_by v call) pending.blockers

-- ---- in each turn

-- what a turn does to breaks and locks. A number that was given stays so, and at the turn's beginning, and after each step of
-- its settlement, each break and lock that lives has one. Of those that were numbered before the turn each handle holds,
-- after the try of the turn's call and still at the turn's end, exactly those that it held before and that the call doesn't
-- end; of those numbered by any step of the settlement, at the turn's end exactly those that it holds at that step. Each held
-- call that is taken up had waited for one that the call ended
pub record EndsWhatItHolds (v : Volume) (call : Call) (starved : List CallId) : Type 0 where
  pub stays_given : (b : Blocker) → is_given v b ≡ true → is_given (settlement v call starved).volume b ≡ true
  pub numbered : (b : Blocker) → blocker_lives v b ≡ true → is_given v b ≡ true
  pub numbered_on : (steps : ℕ) (b : Blocker) → blocker_lives (settling_after v call starved steps).volume b ≡ true → is_given (settling_after v call starved steps).volume b ≡ true
  pub tried : (id : ℕ) (b : Blocker) → is_given v b ≡ true → holds (own_tried v call) id b ≡ (holds v id b && not (ends v call id b))
  pub settled : (id : ℕ) (b : Blocker) → is_given v b ≡ true → holds (settlement v call starved).volume id b ≡ (holds v id b && not (ends v call id b))
  pub goes_on : (steps id : ℕ) (b : Blocker) → is_given (settling_after v call starved steps).volume b ≡ true
      → holds (settlement v call starved).volume id b ≡ holds (settling_after v call starved steps).volume id b
  pub taken : (turn : ℕ) → 1 ≤ how_many (λ taken. taken == turn) (settlement v call starved).taken
      → list_any (λ entry. entry.0 == turn && waits_for_ended v call entry.1) v.pending ≡ true

-- so it is in each turn of a history
abbrev pub HoldersRelease : Setup → List HistoryEntry → Type 0
HoldersRelease setup history = (front later : List HistoryEntry) (entry : HistoryEntry) (r : Run) → history ≡ front ++ entry ∷ later → run setup front ≡ Some r
    → EndsWhatItHolds r.volume entry.call entry.starved

-- ---- by the kind of the call

-- the kinds of calls that can end a break or a lock: an acknowledgement, an unlock, a close, and a leaving, which closes its
-- client's handles
abbrev pub may_release : What → Bool
may_release (Ask (Ack handle level)) = true
may_release (Ask (Unlock handle at count)) = true
may_release (Ask (Close handle)) = true
may_release Leave = true
may_release _ = false

-- in the call's turn no break and no lock ends, and no held call is taken up
pub record ReleasesNone (v : Volume) (call : Call) (starved : List CallId) : Type 0 where
  pub live_on : (b : Blocker) → blocker_lives v b ≡ true → blocker_lives (settlement v call starved).volume b ≡ true
  pub none_taken : (settlement v call starved).taken ≡ []

-- so it is in each turn of a call of another kind
abbrev pub OthersReleaseNone : Setup → List HistoryEntry → Type 0
OthersReleaseNone setup history = (front later : List HistoryEntry) (entry : HistoryEntry) (r : Run) → history ≡ front ++ entry ∷ later → run setup front ≡ Some r
    → may_release entry.call.what ≡ false → ReleasesNone r.volume entry.call entry.starved
