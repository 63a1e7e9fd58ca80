-- The byte-range locks of streams, for each stream a table of its own.
use Rattle.std.specs.Prelude.{◌≡◌, ℕ, List, [], ◌==◌, ◌≤◌, false}
use Rattle.std.specs.Option.{option_map_or}
use Rattle.fsa_types.specs.Rows.{row_of}
use Rattle.range_locks.specs.RangeTable.{Ranges}
use Rattle.range_locks.specs.declared.range.Range.{Range}

-- the ranges of this stream, in order; none where it has no table
abbrev pub ranges_in : List (ℕ × Ranges) → ℕ → List Range
ranges_in tables stream = option_map_or (λ table. table.ranges) (row_of tables stream) []

-- how many more ranges its table takes without taking memory
abbrev pub room_at : List (ℕ × Ranges) → ℕ → ℕ
room_at tables stream = option_map_or (λ table. table.room) (row_of tables stream) 0

-- one stream has these ranges, and the others theirs
pub record AreSetIn (old new : List (ℕ × Ranges)) (stream : ℕ) (ranges : List Range) : Type 0 where
  pub here : ranges_in new stream ≡ ranges
  pub others : (other : ℕ) → (other == stream) ≡ false → ranges_in new other ≡ ranges_in old other

-- each stream has the ranges that it had, and no less room
pub record KeepsRanges (old new : List (ℕ × Ranges)) : Type 0 where
  pub ranges : (stream : ℕ) → ranges_in new stream ≡ ranges_in old stream
  pub room : (stream : ℕ) → room_at old stream ≤ room_at new stream
