-- Streams under their numbers, each beside the room that was taken for its bytes.
use Rattle.std.specs.Prelude.{ℕ, List}
use Rattle.fsa_model.specs.Volume.{Stream}
use Rattle.volume_rows.specs.Streams.{StreamRowView}

-- the streams with their numbers, in order; the last number that was given; and how many more can be added without
-- taking memory
pub record StreamRows : Type 0 where
  pub rows : List (ℕ × StreamRowView)
  pub last : ℕ
  pub room : ℕ

-- the file of a stream
abbrev pub stream_file_key : Stream → ℕ
stream_file_key stream = stream.file
