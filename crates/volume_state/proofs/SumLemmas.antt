-- Sums over rows: where one of them is changed, taken out or put in, and over those that pass a test.
use Rattle.std.proofs.Common.{◌≡◌, ℕ, Bool, true, false, ◌+◌, ◌*◌, ◌==◌, List, [], ◌∷◌, refl, ap, sym, ◌∙◌, arith, inl, inr, Some}
use Rattle.std.specs.List.{All, filter, sum_by}
use Rattle.std.specs.Prelude.{if◌then◌else◌}
use Rattle.std.proofs.lemmas.Bool.{cases_Bool, eqb-true}
use Rattle.std.proofs.lemmas.List.Elements.{All-head, All-tail}
use Rattle.std.proofs.lemmas.List.Sums.{sum_by-cons}
use Rattle.fsa_types.specs.Rows.{row_of, with_row_changed, without_row}
use Rattle.fsa_types.proofs.RowLemmas.{AreRising, AreRising-first, AreRising-rest, with_row_changed-above, without_row-above}

-- ---- terms

module _ {X : Type 0} (p : X → Bool) (f : X → ℕ) where
  sum-one : (b : Bool) (x : X) (xs : List X) → sum_by f (if b then x ∷ xs else xs) ≡ (if b then f x else 0) + sum_by f xs
  sum-one true x xs = sum_by-cons f x xs
  sum-one false x xs = omega arith

  -- of those that pass
  pub sum-filtered : (xs : List X) → sum_by f (filter p xs) ≡ sum_by (λ x. if p x then f x else 0) xs
  sum-filtered [] = refl
  sum-filtered (x ∷ xs) =
      sum-one (p x) x (filter p xs) ∙ ap (λ n. (if p x then f x else 0) + n) (sum-filtered xs) ∙ sym (sum_by-cons (λ x. if p x then f x else 0) x xs)

-- equal terms have equal sums
pub sum-same : {X : Type 0} (f g : X → ℕ) (xs : List X) → All (λ x. f x ≡ g x) xs → sum_by f xs ≡ sum_by g xs
sum-same f g [] same = refl
sum-same f g (x ∷ xs) same =
    sum_by-cons f x xs
    ∙ ap (λ n. n + sum_by f xs) (All-head (λ y. f y ≡ g y) x xs same)
    ∙ ap (λ n. g x + n) (sum-same f g xs (All-tail (λ y. f y ≡ g y) x xs same))
    ∙ sym (sum_by-cons g x xs)

-- a factor of all terms
pub sum-scaled : {X : Type 0} (n : ℕ) (f : X → ℕ) (xs : List X) → sum_by (λ x. n * f x) xs ≡ n * sum_by f xs
sum-scaled n f [] = sum-scaled_none n
  where
    sum-scaled_none : (n : ℕ) → 0 ≡ n * 0
    sum-scaled_none n = omega arith
sum-scaled n f (x ∷ xs) =
    sum_by-cons (λ x. n * f x) x xs ∙ ap (λ m. n * f x + m) (sum-scaled n f xs) ∙ scaled-parts (f x) (sum_by f xs) ∙ ap (λ m. n * m) (sym (sum_by-cons f x xs))
  where
    scaled-parts : (a b : ℕ) → n * a + n * b ≡ n * (a + b)
    scaled-parts a b = omega arith

pub sum-zero : {X : Type 0} (xs : List X) → sum_by (λ x. 0) xs ≡ 0
sum-zero [] = refl
sum-zero (x ∷ xs) = sum_by-cons (λ x. 0) x xs ∙ ap (λ n. 0 + n) (sum-zero xs)

-- ---- one row

module _ {R : Type 0} (w : ℕ × R → ℕ) where
  -- the row that is found is the first one
  same-entry : (x : ℕ × R) (id : ℕ) (row : R) → x.0 ≡ id → Some x.1 ≡ Some row → (id, row) ≡ x
  same-entry x id row number found = (let is : x.1 ≡ row = cc in λ i. (sym number i, sym is i))

  pub sum-changed : (change : R → R) (rows : List (ℕ × R)) (id : ℕ) (row : R) → AreRising rows → row_of rows id ≡ Some row
      → sum_by w (with_row_changed change rows id) + w (id, row) ≡ sum_by w rows + w (id, change row)
  sum-changed change [] id row rising found = cc
  sum-changed change (x ∷ xs) id row rising found = elim (cases_Bool (x.0 == id)) [
    | inl here ↦ (let number = eqb-true x.0 id here in
        let is : (id, row) ≡ x = same-entry x id row number (rw here at found) in
        let rest : with_row_changed change xs id ≡ xs = with_row_changed-above change xs id (λ k d within. let above = AreRising-first x xs rising k d within in omega arith) in
        let old : w (id, row) ≡ w x = ap w is in
        let new : w (id, change row) ≡ w (x.0, change x.1) = ap (λ (e : ℕ × R). w (e.0, change e.1)) is in
        let cons = sum_by-cons w (x.0, change x.1) xs in
        let before = sum_by-cons w x xs in
        rw (here, rest) (ap (λ n. n + w (id, row)) cons ∙ together (w (x.0, change x.1)) (sum_by w xs) (w (id, row)) (w x) (w (id, change row)) old new ∙ ap (λ n. n + w (id, change row)) (sym before)))
    | inr other ↦ (let rest = sum-changed change xs id row (AreRising-rest x xs rising) (rw other at found) in
        let cons = sum_by-cons w x (with_row_changed change xs id) in
        let before = sum_by-cons w x xs in
        rw other (ap (λ n. n + w (id, row)) cons ∙ behind (w x) (sum_by w (with_row_changed change xs id)) (w (id, row)) (sum_by w xs) (w (id, change row)) rest ∙ ap (λ n. n + w (id, change row)) (sym before)))
  ]
    where
      together : (a s b c d : ℕ) → b ≡ c → d ≡ a → a + s + b ≡ c + s + d
      together a s b c d old new = omega arith

      behind : (a s b t d : ℕ) → s + b ≡ t + d → a + s + b ≡ a + t + d
      behind a s b t d rest = omega arith

  pub sum-without : (rows : List (ℕ × R)) (id : ℕ) (row : R) → AreRising rows → row_of rows id ≡ Some row → sum_by w (without_row rows id) + w (id, row) ≡ sum_by w rows
  sum-without [] id row rising found = cc
  sum-without (x ∷ xs) id row rising found = elim (cases_Bool (x.0 == id)) [
    | inl here ↦ (let number = eqb-true x.0 id here in
        let is : (id, row) ≡ x = same-entry x id row number (rw here at found) in
        let rest : without_row xs id ≡ xs = without_row-above xs id (λ k d within. let above = AreRising-first x xs rising k d within in omega arith) in
        rw (here, rest) (ap (λ n. sum_by w xs + n) (ap w is) ∙ turned (sum_by w xs) (w x) ∙ sym (sum_by-cons w x xs)))
    | inr other ↦ (let rest = sum-without xs id row (AreRising-rest x xs rising) (rw other at found) in
        rw other (ap (λ n. n + w (id, row)) (sum_by-cons w x (without_row xs id)) ∙ under (w x) (sum_by w (without_row xs id)) (w (id, row)) (sum_by w xs) rest ∙ sym (sum_by-cons w x xs)))
  ]
    where
      turned : (s a : ℕ) → s + a ≡ a + s
      turned s a = omega arith

      under : (a s b t : ℕ) → s + b ≡ t → a + s + b ≡ a + t
      under a s b t rest = omega arith

-- the row that was changed is found
pub row_of-change_here : {R : Type 0} (change : R → R) (rows : List (ℕ × R)) (id : ℕ) (row : R) → row_of rows id ≡ Some row → row_of (with_row_changed change rows id) id ≡ Some (change row)
row_of-change_here change [] id row found = cc
row_of-change_here {R} change (x ∷ xs) id row found = elim (cases_Bool (x.0 == id)) [
  | inl here ↦ (let first : Some x.1 ≡ Some row = rw here at found in
      let is : x.1 ≡ row = cc in
      rw (here, here) (ap (λ (r : R). Some (change r)) is))
  | inr other ↦ rw (other, other) (row_of-change_here change xs id row (rw other at found))
]
