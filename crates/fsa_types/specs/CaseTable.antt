-- The case table: what each unit is upcased to, and names compared by their upcased units, after
-- [MS-FSA] 'Algorithm for Determining if a FileName Is in an Expression'.
use Rattle.std.specs.Prelude.{ℕ, Bool, ◌≡◌, List, [], ◌∷◌, Option, Some, map, find, take, ◌==◌, ◌||◌, nat_eq}
use Rattle.std.specs.List.{list_any, enumerate_from}
use Rattle.std.specs.Option.{option_map, option_map_or}
use Rattle.std.specs.Ordering.{nat_cmp}
use Rattle.std.specs.Cmp.Lexicographic.{pointwise, slice_cmp}
use Rattle.std.specs.declared.cmp.Ordering.{Ordering}
use Rattle.fsa_types.specs.declared.case.TableFault.{TableFault}
use Rattle.fsa_types.specs.declared.case.TableFault.TheVariants.{Pair, NoMemory}

-- a unit, upcased: the target of the pair whose source it is, or else the unit itself
abbrev pub up : List (ℕ × ℕ) → ℕ → ℕ
up table unit = option_map_or (λ pair. pair.1) (find (λ pair. pair.0 == unit) table) unit

abbrev pub upcased : List (ℕ × ℕ) → List ℕ → List ℕ
upcased table units = map (up table) units

-- two names are the same where their upcased units are equal
abbrev pub same_name : List (ℕ × ℕ) → List ℕ → List ℕ → Bool
same_name table left right = pointwise nat_eq (upcased table left) (upcased table right)

-- the order of names is that of their upcased units, a proper prefix first
abbrev pub cmp_name : List (ℕ × ℕ) → List ℕ → List ℕ → Ordering
cmp_name table left right = slice_cmp nat_cmp (upcased table left) (upcased table right)

-- the default table: `a` to `z` on `A` to `Z`
abbrev pub ascii_pairs : List (ℕ × ℕ)
ascii_pairs =
    (97, 65) ∷ (98, 66) ∷ (99, 67) ∷ (100, 68) ∷ (101, 69) ∷ (102, 70) ∷
    (103, 71) ∷ (104, 72) ∷ (105, 73) ∷ (106, 74) ∷ (107, 75) ∷ (108, 76) ∷
    (109, 77) ∷ (110, 78) ∷ (111, 79) ∷ (112, 80) ∷ (113, 81) ∷ (114, 82) ∷
    (115, 83) ∷ (116, 84) ∷ (117, 85) ∷ (118, 86) ∷ (119, 87) ∷ (120, 88) ∷
    (121, 89) ∷ (122, 90) ∷
    []

-- whether these pairs have this unit as a source, as a target
abbrev pub is_source : List (ℕ × ℕ) → ℕ → Bool
is_source pairs unit = list_any (λ pair. pair.0 == unit) pairs

abbrev pub is_target : List (ℕ × ℕ) → ℕ → Bool
is_target pairs unit = list_any (λ pair. pair.1 == unit) pairs

-- a pair is at fault after the pairs before it: its source was a source or target before, or its
-- target is its source or was a source before
abbrev pub is_at_fault : List (ℕ × ℕ) → ℕ × ℕ → Bool
is_at_fault before pair =
    is_source before pair.0 || is_target before pair.0 || (pair.1 == pair.0) || is_source before pair.1

-- the place of the first pair at fault
abbrev pub first_fault : List (ℕ × ℕ) → Option ℕ
first_fault pairs =
    option_map (λ entry. entry.0) (find (λ entry. is_at_fault (take entry.0 pairs) entry.1) (enumerate_from 0 pairs))

-- why no table was made of these pairs: the first pair at fault, or want of memory
abbrev pub IsFaultOf : List (ℕ × ℕ) → TableFault → Type 0
IsFaultOf pairs (Pair place) = first_fault pairs ≡ Some place
IsFaultOf pairs NoMemory = Unit {0}
