-- The byte-range locks on a stream, and what conflicts with them, after [MS-FSA] 'Algorithm for
-- Determining if a Range Access Conflicts with Byte-Range Locks'.
use Rattle.std.specs.Prelude.{ℕ, Bool, List, false, filter}
use Rattle.std.specs.Option.{option_map_or}
use Rattle.fsa_types.specs.Ranges.{read_conflicts, write_conflicts}
use Rattle.fsa_types.specs.Rows.{row_of}
use Rattle.fsa_model.specs.Lookups.{has_row, is_open_on}
use Rattle.fsa_model.specs.Volume.{Lock, Volume}

-- the lock is of a handle on this stream
abbrev pub is_lock_on_stream : Volume → ℕ → Lock → Bool
is_lock_on_stream v stream lock = option_map_or (λ row. is_open_on stream row) (row_of v.handles lock.handle) false

-- the locks on this stream, in the order in which they were granted
abbrev pub locks_on : Volume → ℕ → List (ℕ × Lock)
locks_on v stream = filter (λ entry. is_lock_on_stream v stream entry.1) v.locks

-- a read of this range by this handle conflicts with a lock on the stream
abbrev pub read_is_locked : Volume → ℕ → ℕ → ℕ → ℕ → Bool
read_is_locked v handle stream at count = has_row (read_conflicts handle at count) (locks_on v stream)

-- a write does
abbrev pub write_is_locked : Volume → ℕ → ℕ → ℕ → ℕ → Bool
write_is_locked v handle stream at count = has_row (write_conflicts handle at count) (locks_on v stream)
