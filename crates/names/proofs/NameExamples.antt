-- Worked examples of case tables, and of names that compare by them, each shown by computation.
use Rattle.std.proofs.Common.{◌≡◌, [], ◌∷◌, true, false, Some, None, refl}
use Rattle.std.specs.Prelude.{codes}
use Rattle.std.specs.declared.cmp.Ordering.TheVariants.{Less, Equal, Greater}
use Rattle.fsa_types.specs.CaseTable.{up, same_name, cmp_name, ascii_pairs, first_fault}

small_letter : up ascii_pairs 122 ≡ 90
small_letter = refl

capital : up ascii_pairs 90 ≡ 90
capital = refl

other_unit : up ascii_pairs 228 ≡ 228
other_unit = refl

source_of_nothing : up ((97, 65) ∷ (98, 66) ∷ []) 99 ≡ 99
source_of_nothing = refl

-- `\A.txt` and then `\a.TXT` is a collision, and by an empty table they are two names
name_collision_by_case : same_name ascii_pairs (codes "A.txt") (codes "a.TXT") ≡ true
name_collision_by_case = refl

case_matters_with_an_empty_table : same_name [] (codes "A.txt") (codes "a.TXT") ≡ false
case_matters_with_an_empty_table = refl

same : same_name ascii_pairs (codes "File.txt") (codes "FILE.TXT") ≡ true
same = refl

not_same : same_name [] (codes "File.txt") (codes "FILE.TXT") ≡ false
not_same = refl

longer : same_name ascii_pairs (codes "a") (codes "AB") ≡ false
longer = refl

shorter : same_name ascii_pairs (codes "ab") (codes "A") ≡ false
shorter = refl

equal : cmp_name ascii_pairs (codes "a") (codes "A") ≡ Equal
equal = refl

prefix_first : cmp_name ascii_pairs (codes "AB") (codes "abc") ≡ Less
prefix_first = refl

longer_last : cmp_name ascii_pairs (codes "abc") (codes "AB") ≡ Greater
longer_last = refl

nothing_first : cmp_name ascii_pairs [] (codes "a") ≡ Less
nothing_first = refl

-- the first units that differ decide, before the lengths
first_difference : cmp_name ascii_pairs (codes "abcd") (codes "AC") ≡ Less
first_difference = refl

-- the first unit of a surrogate pair is a number like any other
surrogate_pair : cmp_name ascii_pairs (55357 ∷ 56832 ∷ []) (65533 ∷ []) ≡ Less
surrogate_pair = refl

-- the underscore stands after the capitals, and so after the small letters too
by_upcased_units : cmp_name ascii_pairs (codes "_") (codes "a") ≡ Greater
by_upcased_units = refl

by_raw_units : cmp_name [] (codes "_") (codes "a") ≡ Less
by_raw_units = refl

sound : first_fault ascii_pairs ≡ None
sound = refl

no_pairs : first_fault [] ≡ None
no_pairs = refl

source_twice : first_fault ((97, 65) ∷ (97, 66) ∷ []) ≡ Some 1
source_twice = refl

source_was_target : first_fault ((97, 65) ∷ (98, 66) ∷ (65, 67) ∷ []) ≡ Some 2
source_was_target = refl

itself : first_fault ((97, 97) ∷ []) ≡ Some 0
itself = refl

target_was_source : first_fault ((97, 65) ∷ (98, 97) ∷ []) ≡ Some 1
target_was_source = refl

target_twice : first_fault ((97, 65) ∷ (98, 65) ∷ []) ≡ None
target_twice = refl

first_of_two_faults : first_fault ((97, 65) ∷ (98, 98) ∷ (97, 66) ∷ []) ≡ Some 1
first_of_two_faults = refl

-- a pair is held against those before it alone, so the later of two is at fault
later_of_two : first_fault ((98, 65) ∷ (65, 67) ∷ []) ≡ Some 1
later_of_two = refl
