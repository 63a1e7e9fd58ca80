-- A stream beside the room that was taken for its bytes.
use Rattle.std.specs.Prelude.{◌≡◌, ℕ, List, map}
use Rattle.fsa_types.specs.Rows.{with_row_changed}
use Rattle.fsa_model.specs.Volume.{Stream}
use Rattle.stream_pages.specs.Streams.{StreamRoom}

-- the row of a stream: the stream, and the room for its bytes
pub record StreamRowView : Type 0 where
  pub stream : Stream
  pub room : StreamRoom

-- the streams themselves, without their room
abbrev pub streams_in : List (ℕ × StreamRowView) → List (ℕ × Stream)
streams_in rows = map (λ entry. (entry.0, entry.1.stream)) rows

-- one stream has this change, and perhaps other room
abbrev pub ChangesStream : List (ℕ × StreamRowView) → List (ℕ × StreamRowView) → ℕ → (Stream → Stream) → Type 0
ChangesStream old new stream change = streams_in new ≡ with_row_changed change (streams_in old) stream

-- no stream has changed
abbrev pub KeepsStreams : List (ℕ × StreamRowView) → List (ℕ × StreamRowView) → Type 0
KeepsStreams old new = streams_in new ≡ streams_in old
