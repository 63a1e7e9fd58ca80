-- A binary search over rising numbers finds the row of a number, where there is one.
use Rattle.std.proofs.Common.{◌≡◌, ℕ, zero, suc, ◌<◌, true, false, List, [], ◌∷◌, length, get_or, refl, ap, sym, arith, inl, inr, Some, None, Ok, Err, Result, eq-eqb}
use Rattle.std.specs.List.{All, HoldsAt, position, position_or_len}
use Rattle.std.specs.List.Sorted.{IsBinarySearchResult, IsNonDecreasingBy, IsPartitionPoint, IsSearchInRange}
use Rattle.std.specs.Ordering.{nat_cmp, ordering_index}
use Rattle.std.specs.declared.cmp.Ordering.TheVariants.{Less, Equal, Greater}
use Rattle.std.specs.Prelude.{◌==◌}
use Rattle.std.specs.Result.{result_ok}
use Rattle.std.proofs.lemmas.Bool.{ne_eqb, cases_lt, le-ltb, lt-ltb}
use Rattle.std.proofs.lemmas.Bool.Decides.{nat_tests}
use Rattle.std.proofs.lemmas.Cmp.{ranked}
use Rattle.fsa_types.proofs.RowLemmas.{AreRising, AreRising-first, AreRising-rest}

-- the first place of a number is the place where it is
first_place : {T : Type 0} (xs : List (ℕ × T)) (i : ℕ) (d : ℕ × T) (id : ℕ) → AreRising xs → i < length xs → (get_or xs i d).0 ≡ id → position_or_len (λ e. e.0 == id) xs ≡ i
first_place [] i d id rising within here = absurd (omega arith)
first_place (x ∷ xs) zero d id rising within here = let same : (x.0 == id) ≡ true = eq-eqb x.0 id here in rw same refl
first_place (x ∷ xs) (suc i) d id rising within here =
    let below : x.0 < (get_or xs i d).0 = AreRising-first x xs rising i d (omega arith) in
    let other : (x.0 == id) ≡ false = ne_eqb x.0 id (λ e. absurd (omega arith)) in
    let rest : position_or_len (λ e. e.0 == id) xs ≡ i = first_place xs i d id (AreRising-rest x xs rising) (omega arith) here in
    rw (other, rest) (omega arith)

pub position-here : {T : Type 0} (xs : List (ℕ × T)) (i : ℕ) (d : ℕ × T) (id : ℕ) → AreRising xs → i < length xs → (get_or xs i d).0 ≡ id → position (λ e. e.0 == id) xs ≡ Some i
position-here xs i d id rising within here =
    let place = first_place xs i d id rising within here in
    let less = lt-ltb i (length xs) within in
    rw (place, less) refl

-- where each row has another number, there is no place
no_place : {T : Type 0} (xs : List (ℕ × T)) (id : ℕ) → All (λ e. (e.0 == id) ≡ false) xs → position_or_len (λ e. e.0 == id) xs ≡ length xs
no_place [] id fails = refl
no_place (x ∷ xs) id fails =
    let other : (x.0 == id) ≡ false = fails 0 x (omega arith) in
    let rest : position_or_len (λ e. e.0 == id) xs ≡ length xs = no_place xs id (λ k d within. fails (suc k) d (omega arith)) in
    rw (other, rest) (omega arith)

-- a row of a list that has a place
some_row : {T : Type 0} (xs : List (ℕ × T)) (i : ℕ) → i < length xs → ℕ × T
some_row [] i within = absurd (omega arith)
some_row (x ∷ xs) i within = x

module _ {T : Type 0} (xs : List (ℕ × T)) (id : ℕ) (rising : AreRising xs) where
  -- the comparisons with a number rise along the rows
  comparisons_rise : IsNonDecreasingBy (λ e. ordering_index (nat_cmp e.0 id)) xs
  comparisons_rise i j d le within = grind (arith, nat_tests, rising i j d, λ (same : i ≡ j). ap (λ k. (get_or xs k d).0) same)

  no_position : All (λ e. (e.0 == id) ≡ false) xs → position (λ e. e.0 == id) xs ≡ None
  no_position fails = rw (no_place xs id fails, le-ltb (length xs) (length xs) (omega arith)) refl

  other_number : (i : ℕ) → IsPartitionPoint (λ e. nat_cmp e.0 id ≡ Less) (λ e. nat_cmp e.0 id ≡ Greater) xs i → All (λ e. (e.0 == id) ≡ false) xs
  other_number i parted k d within = elim (cases_lt k i) [
    | inl before ↦ (let less : (get_or xs k d).0 < id = ranked _ id _ (sym (parted.0 k d (omega arith) before)) in ne_eqb _ id (λ e. absurd (omega arith)))
    | inr after ↦ (let more : id < (get_or xs k d).0 = ranked _ id _ (sym (parted.1 k d after within)) in ne_eqb _ id (λ e. absurd (omega arith)))
  ]

  found_at : (i : ℕ) (some : ℕ × T) → i < length xs → HoldsAt (λ e. nat_cmp e.0 id ≡ Equal) xs i → position (λ e. e.0 == id) xs ≡ Some i
  found_at i some within equal = position-here xs i some id rising within (ranked _ id _ (sym (equal some)))

  pub position-searched : (r : Result ℕ ℕ) → IsSearchInRange r (length xs) → IsBinarySearchResult (λ e. nat_cmp e.0 id) xs r → result_ok r ≡ position (λ e. e.0 == id) xs
  position-searched (Ok i) within equal = sym (found_at i (some_row xs i within) within equal)
  position-searched (Err i) within parted = sym (no_position (other_number i (parted comparisons_rise)))
