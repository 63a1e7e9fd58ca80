-- What the body of the case table keeps beside its pairs, so that a unit is upcased in one step.
use Rattle.std.specs.Prelude.{ℕ, Bool, false, ◌≡◌, ◌<◌, List, length, slice_index, slice_index_or}
use Rattle.fsa_types.specs.CaseTable.{up}

-- these units are all units upcased, each at the place of the unit
pub record AreUpcased (table : List (ℕ × ℕ)) (units : List ℕ) : Type 0 where
  pub all : length units ≡ 65536
  pub each : (unit : ℕ) → unit < 65536 → slice_index units unit ≡ up table unit

-- these marks stand at the units that pass the test
pub record AreMarks (test : ℕ → Bool) (marks : List Bool) : Type 0 where
  pub all : length marks ≡ 65536
  pub each : (unit : ℕ) → unit < 65536 → slice_index_or marks unit false ≡ test unit
