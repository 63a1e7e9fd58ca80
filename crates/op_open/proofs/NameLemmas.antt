-- Names that aren't empty.
use Rattle.std.proofs.Common.{◌≡◌, ℕ, true, false, List, [], ◌∷◌, length, refl}
use Rattle.std.specs.Prelude.{◌==◌}
use Rattle.fsa_types.specs.CaseTable.{same_name}

-- the empty name is no other
pub same_name-empty : (table : List (ℕ × ℕ)) (name : List ℕ) → (length name == 0) ≡ false → same_name table [] name ≡ false
same_name-empty table [] other = (let impossible : true ≡ false = other in cc)
same_name-empty table (unit ∷ units) other = refl
