-- The numbers of each key don't fall: so one is found by halves, and they stay so where one comes or goes.
use Rattle.std.proofs.Common.{◌≡◌, ℕ, zero, suc, ◌<◌, ◌≤◌, ◌-◌, ◌++◌, true, false, Bool, List, [], ◌∷◌, length, get_or, refl, sym, ◌∙◌, arith, inl, inr, ◌⊎◌, Option, Some, None, eq-eqb}
use Rattle.std.specs.Prelude.{filter, not, position, remove, ◌==◌}
use Rattle.std.specs.List.{All, position_or_len}
use Rattle.std.specs.List.Sorted.{IsNonDecreasingBy, IsPartitionPoint}
use Rattle.std.proofs.lemmas.List.{append-nil}
use Rattle.std.proofs.lemmas.List.Elements.{filter-append}
use Rattle.std.proofs.lemmas.List.Kept.{IsNonDecreasingBy-filter}
use Rattle.std.proofs.lemmas.List.Quantifiers.{position-Some}
use Rattle.std.proofs.lemmas.List.Sums.{position_or_len_is}
use Rattle.std.proofs.lemmas.List.Sorted.{IsNonDecreasingBy-drop, IsNonDecreasingBy-push}
use Rattle.std.proofs.lemmas.Bool.{and_from, and_right, cases_Bool, cases_lt, eqb-true, lt-ltb, ne_eqb}
use Rattle.fsa_types.specs.Ranges.{without_first}
use Rattle.key_index.specs.Index.{AreNumbersRising, IsSameByKey, entries_under, has_key, is_entry}
use Rattle.key_index.proofs.KeyLemmas.{position-none, remove-position, without_first-none}
use Rattle.key_index.proofs.RowLaws.{filter-swap, key_of, without_first-kept, without_first-other}

-- ---- a number among those of its key

module _ (part : List (ℕ × ℕ)) (key number i : ℕ) (keys : All (λ e. e.0 ≡ key) part) (point : IsPartitionPoint (λ e. e.1 < number) (λ e. number ≤ e.1) part i) where
  other : (e : ℕ × ℕ) → ((same : e.1 ≡ number) → ⊥) → is_entry key number e ≡ false
  other e differ = and_right (e.0 == key) (e.1 == number) (ne_eqb e.1 number differ)

  pub number-here : i < length part → ((d : ℕ × ℕ) → (get_or part i d).1 ≡ number) → Some i ≡ position (is_entry key number) part
  number-here within here =
      let place : position_or_len (is_entry key number) part ≡ i = position_or_len_is (is_entry key number) part i (0, 0) (omega arith)
      (λ k below. other (get_or part k (0, 0)) (λ same. absurd (omega (arith, same, point.0 k (0, 0) (omega arith) below))))
      (λ inside. and_from ((get_or part i (0, 0)).0 == key) ((get_or part i (0, 0)).1 == number) (eq-eqb _ _ (keys i (0, 0) within)) (eq-eqb _ _ (here (0, 0)))) in
      let less = lt-ltb i (length part) within in
      rw (place, less) refl

  pub number-missing : IsNonDecreasingBy (λ e. e.1) part → (i < length part → (d : ℕ × ℕ) → (get_or part i d).1 ≡ number → ⊥) → None ≡ position (is_entry key number) part
  number-missing rising missing = sym (position-none (is_entry key number) part (λ k d within. other (get_or part k d) (λ same. elim (cases_lt k i) [
    | inl below ↦ absurd (omega (arith, same, point.0 k d (omega arith) below))
    | inr from ↦ (let least : number ≤ (get_or part i d).1 = point.1 i d (omega arith) (omega arith) in
        let most : (get_or part i d).1 ≤ (get_or part k d).1 = rising i k d from within in
        missing (omega arith) d (omega arith))
  ])))

-- ---- the entries of a key have that key

all-cons : {X : Type 0} (P : X → Type 0) (x : X) (xs : List X) → P x → All P xs → All P (x ∷ xs)
all-cons P x xs here rest zero d within = here
all-cons P x xs here rest (suc k) d within = rest k d (omega arith)

pub keys-same : (xs : List (ℕ × ℕ)) (key : ℕ) → All (λ e. e.0 ≡ key) (entries_under xs key)
keys-same [] key = λ k d within. absurd (omega arith)
keys-same (x ∷ xs) key = elim (cases_Bool (x.0 == key)) [
  | inl here ↦ rw here (all-cons (λ (e : ℕ × ℕ). e.0 ≡ key) x (entries_under xs key) (eqb-true x.0 key here) (keys-same xs key))
  | inr apart ↦ rw apart (keys-same xs key)
]

-- ---- one more, and one less

pub numbers-added : (old new : List (ℕ × ℕ)) (key number : ℕ) → IsSameByKey new (old ++ (key, number) ∷ []) → AreNumbersRising old
    → ((d : ℕ × ℕ) → 0 < length (entries_under old key) → (get_or (entries_under old key) (length (entries_under old key) - 1) d).1 ≤ number) → AreNumbersRising new
numbers-added old new key number same rising behind k =
    let e : ℕ × ℕ = (key, number) in
    let split : entries_under new k ≡ entries_under old k ++ filter (has_key k) (e ∷ []) = same k ∙ filter-append (has_key k) old (e ∷ []) in
    elim (cases_Bool (key == k)) [
      | inl here ↦ (let is : key ≡ k = eqb-true key k here in rw (split, here) (IsNonDecreasingBy-push (λ (x : ℕ × ℕ). x.1) (entries_under old k) e (rising k) (rw is at behind)))
      | inr apart ↦ rw (split, apart, append-nil (entries_under old k)) (rising k)
    ]

all-removed : {X : Type 0} (P : X → Type 0) (xs : List X) (i : ℕ) → i < length xs → All P xs → All P (remove xs i)
all-removed P [] i within all = absurd (omega arith)
all-removed P (x ∷ xs) zero within all = λ k d w. all (suc k) d (omega arith)
all-removed P (x ∷ xs) (suc i) within all = all-cons P x (remove xs i) (all 0 x (omega arith)) (all-removed P xs i (omega arith) (λ k d w. all (suc k) d (omega arith)))

rise-cons : {X : Type 0} (n : X → ℕ) (x : X) (xs : List X) → All (λ y. n x ≤ n y) xs → IsNonDecreasingBy n xs → IsNonDecreasingBy n (x ∷ xs)
rise-cons n x xs least rising zero zero d le within = omega arith
rise-cons n x xs least rising zero (suc j) d le within = least j d (omega arith)
rise-cons n x xs least rising (suc i) zero d le within = absurd (omega arith)
rise-cons n x xs least rising (suc i) (suc j) d le within = rising i j d (omega arith) (omega arith)

pub rising-removed : {X : Type 0} (n : X → ℕ) (xs : List X) (i : ℕ) → i < length xs → IsNonDecreasingBy n xs → IsNonDecreasingBy n (remove xs i)
rising-removed n [] i within rising = absurd (omega arith)
rising-removed n (x ∷ xs) zero within rising = IsNonDecreasingBy-drop n 1 (x ∷ xs) rising
rising-removed n (x ∷ xs) (suc i) within rising =
    rise-cons n x (remove xs i) (all-removed (λ y. n x ≤ n y) xs i (omega arith) (λ k d w. rising 0 (suc k) d (omega arith) (omega arith)))
    (rising-removed n xs i (omega arith) (λ j k d le w. rising (suc j) (suc k) d (omega arith) (omega arith)))

option_cases : {X : Type 0} (o : Option X) → (o ≡ None) ⊎ ((x : X) × (o ≡ Some x))
option_cases None = inl refl
option_cases (Some x) = inr (x, refl)

without-rising : (p : ℕ × ℕ → Bool) (xs : List (ℕ × ℕ)) → IsNonDecreasingBy (λ e. e.1) xs → IsNonDecreasingBy (λ e. e.1) (without_first p xs)
without-rising p xs rising = elim (option_cases (position p xs)) [
  | inl none ↦ rw (without_first-none p xs none) rising
  | inr some ↦ rw (← remove-position p xs some.0 (0, 0) some.1) (rising-removed (λ (x : ℕ × ℕ). x.1) xs some.0 (position-Some p xs some.0 (0, 0) some.1).0 rising)
]

pub numbers-removed : (xs : List (ℕ × ℕ)) (key number : ℕ) → AreNumbersRising xs → AreNumbersRising (without_first (is_entry key number) xs)
numbers-removed xs key number rising k = elim (cases_Bool (key == k)) [
  | inl here ↦ (
      let also : (e : ℕ × ℕ) → is_entry key number e ≡ true → has_key k e ≡ true = λ e is. eq-eqb e.0 k (key_of key number e is ∙ eqb-true key k here) in
      rw (without_first-kept (is_entry key number) (has_key k) also xs) (without-rising (is_entry key number) (entries_under xs k) (rising k)))
  | inr apart ↦ (
      let never : (e : ℕ × ℕ) → is_entry key number e ≡ true → has_key k e ≡ false
      = λ e is. ne_eqb e.0 k (λ equal. let same : (key == k) ≡ true = eq-eqb key k (sym (key_of key number e is) ∙ equal) in cc) in
      rw (without_first-other (is_entry key number) (has_key k) never xs) (rising k))
]

pub numbers-cleared : (xs : List (ℕ × ℕ)) (key : ℕ) → AreNumbersRising xs → AreNumbersRising (filter (λ e. not (has_key key e)) xs)
numbers-cleared xs key rising k =
    rw (filter-swap (has_key k) (λ e. not (has_key key e)) xs) (IsNonDecreasingBy-filter (λ (e : ℕ × ℕ). e.1) (λ e. not (has_key key e)) (entries_under xs k) (rising k))
