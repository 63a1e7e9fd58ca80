-- Which calls are pending, and what a wait for a call knows of it.
use Rattle.std.proofs.Common.{◌≡◌, ℕ, Bool, List, [], ◌∷◌, refl, inl, inr}
use Rattle.std.specs.Prelude.{is_some}
use Rattle.std.proofs.lemmas.Bool.{cases_Bool}
use Rattle.fsa_model.specs.Lookups.{has_row, number_of}

-- a number is found exactly where some row passes
pub number_of-has : {R : Type 0} (test : R → Bool) (rows : List (ℕ × R)) → is_some (number_of test rows) ≡ has_row test rows
number_of-has test [] = refl
number_of-has test (row ∷ rows) = elim (cases_Bool (test row.1)) [
  | inl passes ↦ rw passes refl
  | inr fails ↦ rw fails (number_of-has test rows)
]
