-- A walk over the streams of a file that adds the row of each.
use Rattle.std.specs.Prelude.{◌≡◌, ℕ, List, ◌++◌, Some, length, map}
use Rattle.fsa_types.specs.PackedRows.{PackRow, stream_row}
use Rattle.fsa_model.specs.QueryInfo.{stream_rows}
use Rattle.fsa_model.specs.ShownNumbers.{space_shown}
use Rattle.fsa_model.specs.Volume.{Stream, Volume}
use Rattle.volume_state.specs.InOrder.{streams_after}

-- the row of a stream
abbrev pub row_in : Volume → ℕ × Stream → PackRow
row_in v entry = stream_row (length entry.1.bytes) (space_shown v (Some entry.0)) entry.1.name

-- the rows so far, and those of the streams whose names come after this one, are the rows of all
abbrev pub IsWalked : Volume → ℕ → List PackRow → List ℕ → Type 0
IsWalked v file rows units = rows ++ map (row_in v) (streams_after v file units) ≡ stream_rows v file
