-- How a table finds its rows: each number has a key, under which a slab has the row.
use Rattle.std.specs.Prelude.{ℕ, List, Option, ◌≢◌, IsSome, All, AllPairs, filter_map, option_map}
use Rattle.slab.specs.Slab.{Slab, get}
use Rattle.fsa_types.specs.Rows.{IsNumbered}

-- the rows that are found under these keys, each with its number
abbrev pub rows_by : {T : Type 0} → (ℕ → Option T) → List (ℕ × ℕ) → List (ℕ × T)
rows_by {T} found places = filter_map (λ (place : ℕ × ℕ). option_map (λ (row : T). (place.0, row)) (found place.1)) places

-- those of a slab
abbrev pub rows_in : {T : Type 0} → Slab T → List (ℕ × ℕ) → List (ℕ × T)
rows_in slab places = rows_by (get slab) places

-- numbers rise, there is a row under each key, and no two have one key
pub record ArePlaced {T : Type 0} (found : ℕ → Option T) (places : List (ℕ × ℕ)) (last : ℕ) : Type 0 where
  pub numbered : IsNumbered places last
  pub there : All (λ place. IsSome (found place.1)) places
  pub differ : AllPairs (λ a b. a.1 ≢ b.1) places
