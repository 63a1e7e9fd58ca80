-- Reading bytes, after [MS-FSA] 'Server Requests a Read': its checks in order, each by its name.
use Rattle.std.specs.Prelude.{ℕ, ◌+◌, ◌==◌, not, nat_lt, nat_le, [], length, Some, if◌then◌else◌}
use Rattle.std.specs.Option.{option_map_or}
use Rattle.fsa_types.specs.Access.{has_any}
use Rattle.fsa_types.specs.Masks.{READ_DATA}
use Rattle.fsa_types.specs.Rows.{row_of}
use Rattle.fsa_types.specs.StreamBytes.{slice}
use Rattle.fsa_types.specs.declared.oplock.Class.TheVariants.{ReadOpen}
use Rattle.fsa_types.specs.declared.oplock.HandleSet.TheVariants.{Stream}
use Rattle.fsa_types.specs.declared.reply.Body.TheVariants.{Got}
use Rattle.fsa_types.specs.declared.status.Status.TheVariants.{Success, InvalidHandle, InvalidDeviceRequest, AccessDenied, InvalidParameter, EndOfFile, FileLockConflict}
use Rattle.fsa_model.specs.Breaks.{with_breaks}
use Rattle.fsa_model.specs.Locked.{read_is_locked}
use Rattle.fsa_model.specs.Lookups.{bytes_of, handle_of, largest_end}
use Rattle.fsa_model.specs.Outcome.{Outcome, Done, refused}
use Rattle.fsa_model.specs.Volume.{Handle, Volume}
use Rattle.fsa_model.specs.Waits.{waits_for, held_by}

-- the bytes of the stream from this place on, up to its end
unfoldable pub read_bytes : Volume → ℕ → ℕ → ℕ → Outcome
read_bytes v stream at count =
    if nat_le (length (bytes_of v stream)) at then refused v EndOfFile
    else Done v (record { status = Success; body = Got (slice (bytes_of v stream) at count) })

-- unless a lock of another handle is in the way
unfoldable pub read_unlocked : Volume → ℕ → ℕ → ℕ → ℕ → Outcome
read_unlocked v handle stream at count =
    if read_is_locked v handle stream at count then refused v FileLockConflict else read_bytes v stream at count

-- once the breaks that the read waits for have ended
unfoldable pub read_range : Volume → ℕ → ℕ → ℕ → ℕ → ℕ → Outcome
read_range v handle key stream at count =
    if waits_for v (Stream stream) ReadOpen (Some handle) key then held_by v (Stream stream) ReadOpen (Some handle) key
    else read_unlocked (with_breaks v (Stream stream) ReadOpen (Some handle) key) handle stream at count

-- the rights of the handle, and then the range; of no bytes nothing more is asked
unfoldable pub read_stream : Volume → ℕ → Handle → ℕ → ℕ → ℕ → Outcome
read_stream v id handle stream at count =
    if not (has_any handle.access READ_DATA) then refused v AccessDenied
    else if nat_lt largest_end (at + count) then refused v InvalidParameter
    else if count == 0 then Done v (record { status = Success; body = Got [] })
    else read_range v id handle.key stream at count

-- a handle of a directory has no stream to read
unfoldable pub read_by : Volume → ℕ → Handle → ℕ → ℕ → Outcome
read_by v id handle at count =
    option_map_or (λ stream. read_stream v id handle stream at count) handle.stream (refused v InvalidDeviceRequest)

-- the handle of this number
unfoldable pub read_at : Volume → ℕ → ℕ → ℕ → Outcome
read_at v id at count = option_map_or (λ handle. read_by v id handle at count) (row_of v.handles id) (refused v InvalidHandle)

-- one try of a read
unfoldable pub try_read : Volume → ℕ → ℕ → ℕ → ℕ → Outcome
try_read v client handle at count = option_map_or (λ id. read_at v id at count) (handle_of v client handle) (refused v InvalidHandle)
