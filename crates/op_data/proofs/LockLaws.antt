-- A range is locked where some range that is held conflicts, and a lock waits for all that do.
use Rattle.std.proofs.Common.{◌≡◌, ℕ, Bool, true, false, List, [], ◌∷◌, refl, ap, inl, inr, Some}
use Rattle.std.specs.Prelude.{is_some, map, filter, if◌then◌else◌}
use Rattle.std.proofs.lemmas.Bool.{cases_Bool}
use Rattle.fsa_types.specs.declared.reply.Blocker.TheVariants.{Lock as LockOf}
use Rattle.fsa_types.specs.declared.oplock.Class.TheVariants.{Change}
use Rattle.fsa_types.specs.declared.oplock.HandleSet.TheVariants.{Stream}
use Rattle.fsa_model.specs.Breaks.{with_breaks}
use Rattle.fsa_model.specs.Locked.{locks_on, read_is_locked, write_is_locked}
use Rattle.fsa_model.specs.Lookups.{has_row}
use Rattle.fsa_model.specs.Outcome.{Outcome}
use Rattle.fsa_model.specs.Volume.{Lock, Volume}
use Rattle.fsa_model.specs.Waits.{waits_for}
use Rattle.op_data.specs.Calls.{HasAnswer}
use Rattle.fsa_model.specs.Locking.{conflicts_with, lock_blockers, lock_free, lock_range}
use Rattle.range_locks.specs.RangeTable.{range_blockers, conflicts, first_id}
use Rattle.range_locks.specs.declared.range.Range.{Range}
use Rattle.range_locks.specs.declared.range.Want.TheVariants.{Read, Write, Shared, Exclusive}
use Rattle.volume_state.specs.Locks.{ranges_on}
use Rattle.volume_state.specs.Tried.{Gives}
use Rattle.volume_state.specs.declared.tried.Tried.{Tried}
use Rattle.volume_state.specs.declared.tried.Tried.TheVariants as tried
use Rattle.volume_tables.specs.HandleTable.{range_of_lock}

-- a first range is found where some lock passes the same test
pub first-found : (passes : Range → Bool) (test : Lock → Bool) (locks : List (ℕ × Lock)) → ((entry : ℕ × Lock) → passes (range_of_lock entry) ≡ test entry.1)
    → is_some (first_id passes (map range_of_lock locks)) ≡ has_row test locks
first-found passes test [] same = refl
first-found passes test (entry ∷ locks) same = elim (cases_Bool (test entry.1)) [
  | inl here ↦ rw (same entry, here) refl
  | inr other ↦ rw (same entry, other) (first-found passes test locks same)
]

pub read_locked : (v : Volume) (handle stream at count : ℕ) → is_some (first_id (conflicts Read handle at count) (ranges_on v stream)) ≡ read_is_locked v handle stream at count
read_locked v handle stream at count = first-found (conflicts Read handle at count) _ (locks_on v stream) (λ _. refl)

pub write_locked : (v : Volume) (handle stream at count : ℕ) → is_some (first_id (conflicts Write handle at count) (ranges_on v stream)) ≡ write_is_locked v handle stream at count
write_locked v handle stream at count = first-found (conflicts Write handle at count) _ (locks_on v stream) (λ _. refl)

-- the ranges that pass a test are the locks that pass the same
pub blockers-found : (passes : Range → Bool) (test : Lock → Bool) (locks : List (ℕ × Lock)) → ((entry : ℕ × Lock) → passes (range_of_lock entry) ≡ test entry.1)
    → range_blockers passes (map range_of_lock locks) ≡ map (λ entry. LockOf entry.0) (filter (λ entry. test entry.1) locks)
blockers-found passes test [] same = refl
blockers-found passes test (entry ∷ locks) same = elim (cases_Bool (test entry.1)) [
  | inl here ↦ rw (same entry, here) (ap (λ more. LockOf entry.0 ∷ more) (blockers-found passes test locks same))
  | inr other ↦ rw (same entry, other) (blockers-found passes test locks same)
]

pub lock_found : (v : Volume) (handle stream at count : ℕ) (exclusive : Bool)
    → range_blockers (conflicts (if exclusive then Exclusive else Shared) handle at count) (ranges_on v stream) ≡ lock_blockers v handle stream at count exclusive
lock_found v handle stream at count true = blockers-found (conflicts Exclusive handle at count) (conflicts_with handle at count true) (locks_on v stream) (λ _. refl)
lock_found v handle stream at count false = blockers-found (conflicts Shared handle at count) (conflicts_with handle at count false) (locks_on v stream) (λ _. refl)

-- where nothing is waited for, a lock gives what it gives once the breaks have begun
gives-from : (outcome : Outcome) (old mid new : Volume) (answer : Tried) → HasAnswer answer → Gives outcome mid new answer → Gives outcome old new answer
gives-from outcome old mid new (tried.Done reply) has gives = gives
gives-from outcome old mid new (tried.Stay interim) has gives = gives
gives-from outcome old mid new (tried.Hold blockers interim) has gives = gives
gives-from outcome old mid new tried.NoMemory has gives = absurd has

pub lock_unheld : (v broken new : Volume) (handle key stream at count : ℕ) (exclusive wait : Bool) (answer : Tried)
    → waits_for v (Stream stream) Change (Some handle) key ≡ false
    → broken ≡ with_breaks v (Stream stream) Change (Some handle) key
    → HasAnswer answer
    → Gives (lock_free broken handle stream at count exclusive wait) broken new answer
    → Gives (lock_range v handle key stream at count exclusive wait) v new answer
unfolding lock_range
lock_unheld v broken new handle key stream at count exclusive wait answer unheld is_broken has gives =
    rw (unheld, ← is_broken) (gives-from (lock_free broken handle stream at count exclusive wait) v broken new answer has gives)
