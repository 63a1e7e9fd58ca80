-- What the reader keeps of the pairs of a case table, so that each is tested in constant time.
use Rattle.std.specs.Prelude.{ℕ, Bool, ◌≡◌, List, None}
use Rattle.fsa_types.specs.CaseTable.{is_source, is_target, first_fault}
use Rattle.fsa_types.specs.CaseTableBody.{AreMarks}

-- the sources and the targets are marked, and no pair is at fault
pub record AreSound (pairs : List (ℕ × ℕ)) (source_marks target_marks : List Bool) : Type 0 where
  pub sources : AreMarks (is_source pairs) source_marks
  pub targets : AreMarks (is_target pairs) target_marks
  pub sound : first_fault pairs ≡ None
