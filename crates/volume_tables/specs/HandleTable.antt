-- Handles under their numbers with the byte-range locks that they hold, and for each stream the room for
-- more locks on it.
use Rattle.std.specs.Prelude.{◌≡◌, ℕ, Bool, List, Option, ◌≤◌, All, IsTrue, false, map, filter, not, nat_lt, ◌&&◌}
use Rattle.std.specs.Option.{option_map_or, option_and_then}
use Rattle.fsa_types.specs.Rows.{row_of, lives}
use Rattle.fsa_model.specs.Lookups.{has_row, is_after, is_open_on, number_of}
use Rattle.fsa_model.specs.Volume.{Handle, Lock}
use Rattle.range_locks.specs.RangeTable.{Ranges}
use Rattle.range_locks.specs.declared.range.Range.{Range}
use Rattle.volume_tables.specs.Ranges.{ranges_in, room_at}
use Rattle.volume_tables.specs.Rooms.{room_in, all_rooms}

-- the handles with their numbers, in order, the last number that was given, and how many more can be
-- added without taking memory; the locks with theirs; and how many more locks can be added on each
-- stream, none where it isn't told
pub record HandleRows : Type 0 where
  pub rows : List (ℕ × Handle)
  pub last : ℕ
  pub room : ℕ
  pub locks : List (ℕ × Lock)
  pub last_lock : ℕ
  pub rooms : List (ℕ × ℕ)

-- that client's handle of the least number of a call above `after`: no other stands between
abbrev pub next_of : List (ℕ × Handle) → ℕ → ℕ → Option ℕ
next_of handles client after =
    number_of
    (λ handle. is_after client after handle && not (has_row (λ other. is_after client after other && nat_lt other.number handle.number) handles))
    handles

-- the stream of a handle, where it has one
abbrev pub stream_of_handle : List (ℕ × Handle) → ℕ → Option ℕ
stream_of_handle handles handle = option_and_then (λ row. row.stream) (row_of handles handle)

-- the lock is of a handle on this stream
abbrev pub is_on_stream : List (ℕ × Handle) → ℕ → Lock → Bool
is_on_stream handles stream lock = option_map_or (λ row. is_open_on stream row) (row_of handles lock.handle) false

-- a lock under its number, as a range that is held
abbrev pub range_of_lock : ℕ × Lock → Range
range_of_lock entry = record { id = entry.0; handle = entry.1.handle; at = entry.1.at; count = entry.1.count; exclusive = entry.1.exclusive }

-- the ranges that are locked on this stream, in the order in which they were granted
abbrev pub ranges_on : List (ℕ × Handle) → List (ℕ × Lock) → ℕ → List Range
ranges_on handles locks stream = map range_of_lock (filter (λ entry. is_on_stream handles stream entry.1) locks)

-- locks are of living handles, and each stream's table has the ranges that are locked on it
pub record AreTabled (handles : List (ℕ × Handle)) (locks : List (ℕ × Lock)) (tables : List (ℕ × Ranges)) : Type 0 where
  pub live : All (λ entry. IsTrue (lives handles entry.1.handle)) locks
  pub ranges : (stream : ℕ) → ranges_in tables stream ≡ ranges_on handles locks stream

-- the list of all locks has the room that was promised, and each stream's table what was promised to
-- the stream
pub record HaveRoom (rooms : List (ℕ × ℕ)) (tables : List (ℕ × Ranges)) (room : ℕ) : Type 0 where
  pub of_all : all_rooms rooms ≤ room
  pub of_each : (stream : ℕ) → room_in rooms stream ≤ room_at tables stream
