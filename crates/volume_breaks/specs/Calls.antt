-- The pending calls as they are kept, with the queue of those that are held.
use Rattle.std.specs.Prelude.{◌≡◌, ℕ, Bool, false, List, ◌==◌, ◌&&◌, ◌≤◌, nat_lt, not, AllPairs}
use Rattle.std.specs.List.{list_any}
use Rattle.fsa_types.specs.Pending.{is_held}
use Rattle.fsa_types.specs.declared.reply.Blocker.{Blocker}
use Rattle.fsa_types.specs.declared.reply.Blocker.TheVariants as blocker
use Rattle.fsa_model.specs.Edits.{is_call}
use Rattle.fsa_model.specs.Volume.{Lock, Oplock, Pending}
use Rattle.fsa_model.specs.Waiting.{is_breaking, is_wait}
use Rattle.pending_queue.specs.PendingQueue.{held_among}

-- the pending calls; those of them that are held, each with its blockers that live; how many more calls
-- can be put in, and how many more blockers in all, without taking memory
pub record Calls : Type 0 where
  pub items : List (ℕ × Pending)
  pub held : List (ℕ × List Blocker)
  pub room : ℕ
  pub blockers : ℕ

-- no two calls have one client and number, or one turn
pub record AreCalls (pending : List (ℕ × Pending)) : Type 0 where
  pub differ : AllPairs (λ a b. is_call b.1.call.client b.1.call.number a.1 ≡ false) pending
  pub turns_differ : AllPairs (λ a b. (a.0 == b.0) ≡ false) pending

-- this call's turn is the least above another
abbrev pub is_next_turn : List (ℕ × Pending) → ℕ → ℕ × Pending → Bool
is_next_turn pending after entry = nat_lt after entry.0 && not (list_any (λ other. nat_lt after other.0 && nat_lt other.0 entry.0) pending)

-- some call waits for another
abbrev pub has_wait : List (ℕ × Pending) → Bool
has_wait pending = list_any (λ entry. is_wait entry.1.call.what) pending

-- the list has places for the calls to come, and the queue for as many, and for their blockers
pub record HasPlaces (room places calls blockers waited : ℕ) : Type 0 where
  pub rows_fit : room ≤ places
  pub calls_fit : room ≤ calls
  pub blockers_fit : blockers ≤ waited

-- the call that is pending under this turn is held
abbrev pub is_held_under : List (ℕ × Pending) → ℕ → Bool
is_held_under pending turn = list_any (λ entry. entry.0 == turn && is_held entry.1) pending

-- the calls that are held are those of the pending calls, each with its blockers that live by this test
abbrev pub AreHeld : (Blocker → Bool) → Calls → Type 0
AreHeld alive calls = calls.held ≡ held_among alive calls.items

-- whatever lives: where the held calls were those of the pending calls, they are so
abbrev pub StayHeld : Calls → Calls → Type 0
StayHeld old new = (alive : Blocker → Bool) → AreHeld alive old → AreHeld alive new

-- whatever lives: of the blockers of the held calls those live no more that are gone by this test
abbrev pub LoseBlockers : (Blocker → Bool) → Calls → Calls → Type 0
LoseBlockers gone old new = (alive : Blocker → Bool) → AreHeld alive old → AreHeld (λ blocker. alive blocker && not (gone blocker)) new

-- a lock that this handle holds, of these
abbrev pub is_lock_of : List (ℕ × Lock) → ℕ → Blocker → Bool
is_lock_of locks handle (blocker.Lock number) = list_any (λ entry. entry.1.handle == handle && entry.0 == number) locks
is_lock_of locks handle _ = false

-- a break in progress on this handle, of these
abbrev pub is_break_of : List Oplock → ℕ → Blocker → Bool
is_break_of oplocks handle (blocker.Break number) = list_any (λ oplock. oplock.handle == handle && is_breaking number oplock) oplocks
is_break_of oplocks handle _ = false
