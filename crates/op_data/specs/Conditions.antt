-- What the calls ask of the volume, and the room that they take first.
use Rattle.std.specs.Prelude.{◌≡◌, ℕ, false, ◌+◌, ◌==◌, ◌<◌, ◌≤◌, ◌^◌, List, length, nat_le, Option, Some, None, if◌then◌else◌}
use Rattle.fsa_types.specs.StreamBytes.{slice}
use Rattle.fsa_types.specs.declared.reply.Blocker.{Blocker}
use Rattle.fsa_model.specs.Lookups.{bytes_of, is_named_stream}
use Rattle.fsa_model.specs.Volume.{Volume}
use Rattle.op_parts.specs.Room.{HasNoteRoom, noted_stream}
use Rattle.volume_state.specs.Room.{stream_of_handle}
use Rattle.volume_state.specs.VolumeView.{Spare, CanWrite, room_for}

-- numbers are left for breaks
pub record MayUse (v : Volume) : Type 0 where
  pub breaks : v.last_break < 2 ^ 63

-- numbers are left for breaks and for a lock
pub record MayLock (v : Volume) : Type 0 where
  pub breaks : v.last_break < 2 ^ 63
  pub locks : v.last_lock < 2 ^ 63

-- the stream of which a write to this one is noted
abbrev pub noted_of_write : Volume → ℕ → Option ℕ
noted_of_write v stream = noted_stream stream (is_named_stream v stream)

-- the end is within what a stream may have, and there is room for so many bytes at this place, and for a
-- note of the write
abbrev pub HasWriteRoom : Volume → Spare → ℕ → ℕ → ℕ → ℕ → Type 0
HasWriteRoom v spare link stream at count =
    (at + count ≤ 2 ^ 26)
    × CanWrite spare stream at count
    × HasNoteRoom v spare link (noted_of_write v stream)

-- where the length is a new one, there is the room of a write that ends there and puts no byte
abbrev pub HasEndRoom : Volume → Spare → ℕ → ℕ → ℕ → Type 0
HasEndRoom v spare link stream end = (length (bytes_of v stream) == end) ≡ false → HasWriteRoom v spare link stream end 0

-- there is room for a lock of the handle, which is open on this stream, with a number for it, and for the
-- call to be pending with these blockers
pub record HasLockRoom (v : Volume) (spare : Spare) (handle stream : ℕ) (list : List Blocker) : Type 0 where
  pub open_on : stream_of_handle v handle ≡ Some stream
  pub number : v.last_lock < 2 ^ 63
  pub locks : 1 ≤ room_for spare.locks stream
  pub pending : 1 ≤ spare.pending
  pub blockers : length list ≤ spare.blockers

-- the bytes that a read gives; none at the end of the stream
abbrev pub part_at : Volume → ℕ → ℕ → ℕ → Option (List ℕ)
part_at v stream at count = if nat_le (length (bytes_of v stream)) at then None else Some (slice (bytes_of v stream) at count)
