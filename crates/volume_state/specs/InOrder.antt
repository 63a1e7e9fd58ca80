-- The streams of a file in the order of their upcased names, from a name on.
use Rattle.std.specs.Prelude.{ℕ, List, Option}
use Rattle.fsa_model.specs.Volume.{Stream, Volume}
use Rattle.volume_tables.specs.StreamOrder.{stream_number_after, rows_after}

-- the streams of the file whose names come after this one, in order
abbrev pub streams_after : Volume → ℕ → List ℕ → List (ℕ × Stream)
streams_after v file units = rows_after v.table file units v.streams

-- the number of the first of them
abbrev pub stream_after : Volume → ℕ → List ℕ → Option ℕ
stream_after v file units = stream_number_after v.table file units v.streams
