-- Sums of bytes under the numbers of their owners.
use Rattle.std.specs.Prelude.{ℕ, List}
use Rattle.std.specs.Option.{option_map_or}
use Rattle.fsa_types.specs.Rows.{row_of}

-- the owners with their sums, and how many more owners can be put in without taking memory
pub record Sums : Type 0 where
  pub sums : List (ℕ × ℕ)
  pub room : ℕ

-- what an owner is charged; 0 where nothing was set
abbrev pub sum_of : List (ℕ × ℕ) → ℕ → ℕ
sum_of sums owner = option_map_or (λ bytes. bytes) (row_of sums owner) 0
