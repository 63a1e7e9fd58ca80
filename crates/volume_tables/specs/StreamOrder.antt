-- The streams of a file in the order of their upcased names, from a name on.
use Rattle.std.specs.Prelude.{ℕ, Bool, ◌==◌, ◌&&◌, List, Option, Some, None, filter, option_map, slice_get, if◌then◌else◌}
use Rattle.std.specs.Ordering.{is_lt}
use Rattle.fsa_types.specs.CaseTable.{cmp_name}
use Rattle.fsa_types.specs.Sorting.{in_order}
use Rattle.fsa_model.specs.QueryInfo.{is_stream_before}
use Rattle.fsa_model.specs.Volume.{Stream}

-- a stream of this file whose name comes after this one
abbrev pub is_stream_after : List (ℕ × ℕ) → ℕ → List ℕ → Stream → Bool
is_stream_after table file units stream = stream.file == file && is_lt (cmp_name table units stream.name)

-- the streams of the file whose names come after this one, in order
abbrev pub rows_after : List (ℕ × ℕ) → ℕ → List ℕ → List (ℕ × Stream) → List (ℕ × Stream)
rows_after table file units rows = in_order (is_stream_before table) (filter (λ entry. is_stream_after table file units entry.1) rows)

-- the number of the first of them
abbrev pub stream_number_after : List (ℕ × ℕ) → ℕ → List ℕ → List (ℕ × Stream) → Option ℕ
stream_number_after table file units rows = option_map (λ entry. entry.0) (slice_get (rows_after table file units rows) 0)

-- the first in an order of the items that pass, where this one was the first of some, and `item` is one more
abbrev pub first_with : {T : Type 0} → (T → T → Bool) → (T → Bool) → T → Option T → Option T
first_with before test item None = if test item then Some item else None
first_with before test item (Some first) = if test item && before item first then Some item else Some first
