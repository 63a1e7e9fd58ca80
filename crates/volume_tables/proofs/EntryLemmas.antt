-- Rows gone over from each place to the next one.
use Rattle.std.proofs.Common.{◌≡◌, ℕ, ◌+◌, ◌<◌, ◌≤◌, Bool, false, List, ◌∷◌, drop, get_or, length, ap, ◌∙◌, arith, inl, inr, Some}
use Rattle.std.specs.Prelude.{filter, slice_get, ◌||◌, if◌then◌else◌}
use Rattle.std.specs.List.{list_any}
use Rattle.std.specs.Option.{option_map_or}
use Rattle.std.proofs.lemmas.Bool.{cases_Bool}
use Rattle.std.proofs.lemmas.List.{drop_all, drop_more}
use Rattle.std.proofs.lemmas.Option.{slice_get_cases}

module _ {R : Type 0} (test : R → Bool) where
  abbrev pub how_many : List (ℕ × R) → ℕ
  how_many rows = length (filter (λ row. test row.1) rows)

  abbrev pub is_some_of : List (ℕ × R) → Bool
  is_some_of rows = list_any (λ row. test row.1) rows

  one-more : (row : ℕ × R) (rest : List (ℕ × R)) → how_many (row ∷ rest) ≡ (if test row.1 then 1 else 0) + how_many rest
  one-more row rest = elim (cases_Bool (test row.1)) [
    | inl passes ↦ rw passes (omega arith)
    | inr fails ↦ rw fails (omega arith)
  ]

  module _ (rows : List (ℕ × R)) where
    -- the row at this place is there, and passes
    abbrev pub passes_in : ℕ → Bool
    passes_in place = option_map_or (λ row. test row.1) (slice_get rows place) false

    -- the row at a place, and those behind it, are the rows from there on
    drop-next : (place : ℕ) (row : ℕ × R) → place < length rows → get_or rows place row ≡ row → drop place rows ≡ row ∷ drop (place + 1) rows
    drop-next place row within here = drop_more rows place row within ∙ ap (λ (r : ℕ × R). r ∷ drop (place + 1) rows) here

    pub count-next : (place : ℕ) → place < length rows → how_many (drop place rows) ≡ (if passes_in place then 1 else 0) + how_many (drop (place + 1) rows)
    count-next place within = elim (slice_get_cases rows place).1 [
      | inl some ↦ (
          let is : slice_get rows place ≡ Some some.0 = some.2 in
          rw is (ap how_many (drop-next place some.0 within some.3) ∙ one-more some.0 (drop (place + 1) rows)))
      | inr past ↦ absurd (omega arith)
    ]

    pub any-next : (place : ℕ) → place < length rows → is_some_of (drop place rows) ≡ (passes_in place || is_some_of (drop (place + 1) rows))
    any-next place within = elim (slice_get_cases rows place).1 [
      | inl some ↦ (
          let is : slice_get rows place ≡ Some some.0 = some.2 in
          rw is (ap is_some_of (drop-next place some.0 within some.3)))
      | inr past ↦ absurd (omega arith)
    ]

    pub count-end : (place : ℕ) → length rows ≤ place → how_many (drop place rows) ≡ 0
    count-end place past = ap how_many (drop_all place rows past)

    pub any-end : (place : ℕ) → length rows ≤ place → is_some_of (drop place rows) ≡ false
    any-end place past = ap is_some_of (drop_all place rows past)
