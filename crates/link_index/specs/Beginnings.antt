-- Names of links that begin with given units.
use Rattle.std.specs.Prelude.{ℕ, Bool, List, length, nat_eq, take}
use Rattle.std.specs.List.{starts_with}
use Rattle.std.specs.declared.cmp.Ordering.{Ordering}
use Rattle.fsa_types.specs.CaseTable.{cmp_name, upcased}
use Rattle.fsa_model.specs.Volume.{Link}

-- a name begins with these units, compared by the case table
abbrev pub begins_with : List (ℕ × ℕ) → List ℕ → List ℕ → Bool
begins_with table units name = starts_with nat_eq (upcased table name) (upcased table units)

-- how units compare with as many of the first units of a name
abbrev pub cmp_beginning : List (ℕ × ℕ) → List ℕ → List ℕ → Ordering
cmp_beginning table units name = cmp_name table units (take (length units) name)

-- what a link is ordered by in its directory
abbrev pub name_key : List (ℕ × ℕ) → ℕ × Link → List ℕ
name_key table entry = upcased table entry.1.name
