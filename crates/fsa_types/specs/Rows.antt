-- Rows under numbers: the row of a number, and the rows without one or with one changed.
use Rattle.std.specs.Prelude.{ℕ, Bool, ◌<◌, ◌≤◌, List, Option, ◌==◌, find, filter, map, option_map, if◌then◌else◌, not, All, AllPairs}
use Rattle.std.specs.List.{list_any}

-- the row under this number
abbrev pub row_of : {R : Type 0} → List (ℕ × R) → ℕ → Option R
row_of rows id = option_map (λ entry. entry.1) (find (λ entry. entry.0 == id) rows)

-- whether there is one
abbrev pub lives : {R : Type 0} → List (ℕ × R) → ℕ → Bool
lives rows id = list_any (λ entry. entry.0 == id) rows

-- all rows but it
abbrev pub without_row : {R : Type 0} → List (ℕ × R) → ℕ → List (ℕ × R)
without_row rows id = filter (λ entry. not (entry.0 == id)) rows

-- all rows, with this change to it
abbrev pub with_row_changed : {R : Type 0} → (R → R) → List (ℕ × R) → ℕ → List (ℕ × R)
with_row_changed change rows id = map (λ entry. if entry.0 == id then (entry.0, change entry.1) else entry) rows

-- the numbers rise, and each is at most the last one that was given
pub record IsNumbered {R : Type 0} (rows : List (ℕ × R)) (last : ℕ) : Type 0 where
  pub rising : AllPairs (λ a b. a.0 < b.0) rows
  pub given : All (λ entry. entry.0 ≤ last) rows
