-- Rows under numbers, of which an index has the numbers under keys.
use Rattle.std.specs.Prelude.{ℕ, Bool, false, List, ◌==◌, filter, filter_map, map, option_map}
use Rattle.std.specs.Option.{option_map_or}
use Rattle.fsa_types.specs.Rows.{row_of}
use Rattle.key_index.specs.Index.{IsSameByKey}

-- each row's key with its number
abbrev pub pairs : {R : Type 0} → (R → ℕ) → List (ℕ × R) → List (ℕ × ℕ)
pairs key rows = map (λ row. (key row.1, row.0)) rows

-- an index has for each key the numbers of the rows that have it, in order
abbrev pub IsIndexOf : {R : Type 0} → (R → ℕ) → List (ℕ × R) → List (ℕ × ℕ) → Type 0
IsIndexOf key rows entries = IsSameByKey entries (pairs key rows)

-- the rows that have a key
abbrev pub rows_with : {R : Type 0} → (R → ℕ) → List (ℕ × R) → ℕ → List (ℕ × R)
rows_with key rows k = filter (λ row. key row.1 == k) rows

-- the rows of the entries' numbers, each looked up
abbrev pub rows_of_entries : {R : Type 0} → List (ℕ × R) → List (ℕ × ℕ) → List (ℕ × R)
rows_of_entries {R} rows entries = filter_map (λ (entry : ℕ × ℕ). option_map (λ (row : R). (entry.1, row)) (row_of rows entry.1)) entries

-- a test of the row of an entry's number; it fails where there is no such row
abbrev pub row_passes : {R : Type 0} → List (ℕ × R) → (ℕ × R → Bool) → ℕ × ℕ → Bool
row_passes rows test entry = option_map_or (λ row. test (entry.1, row)) (row_of rows entry.1) false
