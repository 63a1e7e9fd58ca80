-- Lists cut at the first element that passes a test.
use Rattle.std.proofs.Common.{◌≡◌, ℕ, zero, suc, ◌<◌, ◌≤◌, ◌+◌, ◌-◌, Bool, List, [], ◌∷◌, Some, None, length, take, drop, refl, arith, inl, inr}
use Rattle.std.specs.Prelude.{position, slice_get}
use Rattle.std.specs.List.{position_or_len, before_first, after_first, slice_split}
use Rattle.std.proofs.lemmas.List.{take_rest, take_all}
use Rattle.std.proofs.lemmas.List.Sums.{fails_before_first}
use Rattle.std.proofs.lemmas.List.Splits.{slice_split_first, slice_split_none, length-slice_split}
use Rattle.std.proofs.lemmas.Bool.{cases_lt, lt-ltb, le-ltb}

position-Some : {X : Type 0} (p : X → Bool) (xs : List X) (i : ℕ) → Some i ≡ position p xs → (i ≡ position_or_len p xs) × (position_or_len p xs < length xs)
position-Some p xs i found =
    elim (cases_lt (position_or_len p xs) (length xs)) [
      | inl within ↦
          let found : Some i ≡ Some (position_or_len p xs) = rw (lt-ltb (position_or_len p xs) (length xs) within) at found in
          let same : i ≡ position_or_len p xs = cc in (same, within)
      | inr past ↦
          let found : Some i ≡ None = rw (le-ltb (position_or_len p xs) (length xs) past) at found in
          cc
    ]

position-None : {X : Type 0} (p : X → Bool) (xs : List X) → None ≡ position p xs → length xs ≤ position_or_len p xs
position-None p xs none =
    elim (cases_lt (position_or_len p xs) (length xs)) [
      | inl within ↦
          let found : None ≡ Some (position_or_len p xs) = rw (lt-ltb (position_or_len p xs) (length xs) within) at none in
          cc
      | inr past ↦ past
    ]

-- a list in which nothing passes is one piece
slice_split-past : {X : Type 0} (p : X → Bool) (xs : List X) → length xs ≤ position_or_len p xs → slice_split p xs ≡ xs ∷ []
slice_split-past p xs past = slice_split_none p xs (λ k d within. fails_before_first p xs k d (omega arith))

pub slice_split-None : {X : Type 0} (p : X → Bool) (xs : List X) → None ≡ position p xs → slice_split p xs ≡ xs ∷ []
slice_split-None p xs none = slice_split-past p xs (position-None p xs none)

split_first : {X : Type 0} (p : X → Bool) (xs : List X) → position_or_len p xs < length xs → slice_split p xs ≡ before_first p xs ∷ slice_split p (after_first p xs)
split_first p [] within = absurd (omega arith)
split_first p (x ∷ xs) within = slice_split_first p (x ∷ xs) x within

pub slice_split-Some : {X : Type 0} (p : X → Bool) (xs : List X) (i : ℕ) → Some i ≡ position p xs
    → slice_split p xs ≡ take i xs ∷ slice_split p (take (length xs - (i + 1)) (drop (i + 1) xs))
slice_split-Some p xs i found = let place = position-Some p xs i found in rw (take_rest xs (i + 1), place.0) (split_first p xs place.1)

pub slice_split-some_part : {X : Type 0} (p : X → Bool) (xs : List X) → 0 < length (slice_split p xs)
slice_split-some_part p xs = rw length-slice_split (omega arith)

-- the first piece
pub slice_split-head : {X : Type 0} (p : X → Bool) (xs : List X) → slice_get (slice_split p xs) 0 ≡ Some (before_first p xs)
slice_split-head p xs =
    elim (cases_lt (position_or_len p xs) (length xs)) [
      | inl within ↦ rw (split_first p xs within) refl
      | inr past ↦ rw (slice_split-past p xs past, take_all (position_or_len p xs) xs past) refl
    ]

pub slice_get-drop : {X : Type 0} (xs : List X) (i : ℕ) → slice_get xs i ≡ slice_get (drop i xs) 0
slice_get-drop [] zero = refl
slice_get-drop [] (suc i) = refl
slice_get-drop (x ∷ xs) zero = refl
slice_get-drop (x ∷ xs) (suc i) = slice_get-drop xs i
