-- The oplocks of one stream or directory, beside what breaks and grants put by.
use Rattle.std.specs.Prelude.{◌≡◌, ℕ, Bool, true, false, List, ◌==◌, Option, All, AllPairs, IsTrue, filter}
use Rattle.std.specs.List.{list_any}
use Rattle.fsa_types.specs.OplockGrants.{after_grant, is_refused_among, switched_among}
use Rattle.fsa_types.specs.Oplocks.{Oplock}
use Rattle.fsa_types.specs.Sorting.{in_order}
use Rattle.fsa_types.specs.declared.request.Level.{Level}
use Rattle.oplock_state.specs.declared.stream_oplocks.Grant.{Grant}
use Rattle.oplock_state.specs.declared.stream_oplocks.Grant.TheVariants as grant
use Rattle.volume_breaks.specs.Marks.{is_oplock_marked, is_opened_before}
use Rattle.volume_breaks.specs.declared.telling.Told.{Told}

-- the oplocks, in the order in which they were granted; the number of the last break that began; how many more
-- oplocks can be put in without taking memory; the handles that are marked for the next break; the oplocks that
-- the last break or grant chose, as they were; whom the last break told, and for which breaks it waits
pub record State : Type 0 where
  pub rows : List Oplock
  pub last : ℕ
  pub room : ℕ
  pub marked : List ℕ
  pub chosen : List Oplock
  pub told : List Told
  pub waited : List ℕ

-- there is an oplock of this handle
abbrev pub has_oplock : ℕ → List Oplock → Bool
has_oplock handle rows = list_any (λ oplock. oplock.handle == handle) rows

-- the oplocks that the next break breaks, in order
abbrev pub broken_next : State → Option ℕ → ℕ → List Oplock
broken_next state acting key = in_order is_opened_before (filter (is_oplock_marked state.marked acting key) state.rows)

-- marked handles differ, and each has an oplock
pub record AreMarked (marked : List ℕ) (rows : List Oplock) : Type 0 where
  pub differ : AllPairs (λ a b. (a == b) ≡ false) marked
  pub each : All (λ handle. IsTrue (has_oplock handle rows)) marked

-- an oplock was granted exactly where it isn't refused, and else nothing has changed
abbrev pub Grants : State → ℕ → ℕ → Level → ℕ → Bool → Bool → State → Grant → Type 0
Grants old handle key level turn others locked new grant.Granted =
    (is_refused_among (λ _. true) handle key level others locked old.rows ≡ false)
    × (new.rows ≡ after_grant (λ _. true) handle key level turn old.rows)
    × (new.chosen ≡ switched_among (λ _. true) handle key old.rows)
Grants old handle key level turn others locked new grant.Refused =
    (is_refused_among (λ _. true) handle key level others locked old.rows ≡ true) × (new ≡ old)
