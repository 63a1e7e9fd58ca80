-- Writing bytes, after [MS-FSA] 'Server Requests a Write': its checks in order, each by its name, and
-- what a write changes.
use Rattle.std.specs.Prelude.{ℕ, Bool, ◌+◌, ◌==◌, ◌&&◌, ◌||◌, not, nat_lt, List, length, Option, Some, None, is_none, if◌then◌else◌, unwrap_or, bit_or}
use Rattle.std.specs.Option.{option_map_or}
use Rattle.fsa_types.specs.Access.{has_any}
use Rattle.fsa_types.specs.Masks.{APPEND_DATA, ARCHIVE, FILE_ACTION_MODIFIED, FILE_ACTION_MODIFIED_STREAM, FILE_NOTIFY_CHANGE_LAST_WRITE, FILE_NOTIFY_CHANGE_SIZE, FILE_NOTIFY_CHANGE_STREAM_SIZE, FILE_NOTIFY_CHANGE_STREAM_WRITE, WRITE_DATA}
use Rattle.fsa_types.specs.Rows.{row_of}
use Rattle.fsa_types.specs.declared.oplock.Class.TheVariants.{Change}
use Rattle.fsa_types.specs.declared.oplock.HandleSet.TheVariants.{Stream}
use Rattle.fsa_types.specs.declared.reply.Body.TheVariants.{Count}
use Rattle.fsa_types.specs.declared.status.Status.TheVariants.{Success, InvalidHandle, InvalidDeviceRequest, AccessDenied, InvalidParameter, FileLockConflict}
use Rattle.fsa_model.specs.Breaks.{with_breaks}
use Rattle.fsa_model.specs.Changes.{with_change_noted}
use Rattle.fsa_model.specs.Edits.{with_bytes, with_basic}
use Rattle.fsa_model.specs.Growth.{growth_fault}
use Rattle.fsa_model.specs.Locked.{write_is_locked}
use Rattle.fsa_model.specs.Lookups.{access_time, attributes_of, bytes_of, creation_time, file_of_stream, handle_of, is_named_stream, largest_end}
use Rattle.fsa_model.specs.Outcome.{Outcome, Done, refused}
use Rattle.fsa_model.specs.Volume.{Handle, Volume}
use Rattle.fsa_model.specs.Waits.{waits_for, held_by}

-- ---- what a write changes

-- a file that is written: ARCHIVE is set, and write and change time are the clock
abbrev pub with_file_written : Volume → ℕ → Volume
with_file_written v file =
    with_basic v file (creation_time v file) (access_time v file) v.clock v.clock (bit_or (attributes_of v file) ARCHIVE)

-- the filters of a write, of the default stream and of a named one: those of the length too where it changes
abbrev pub write_filters : Bool → ℕ
write_filters longer = if longer then bit_or FILE_NOTIFY_CHANGE_LAST_WRITE FILE_NOTIFY_CHANGE_SIZE else FILE_NOTIFY_CHANGE_LAST_WRITE

abbrev pub stream_write_filters : Bool → ℕ
stream_write_filters longer =
    if longer then bit_or FILE_NOTIFY_CHANGE_STREAM_WRITE FILE_NOTIFY_CHANGE_STREAM_SIZE else FILE_NOTIFY_CHANGE_STREAM_WRITE

-- the write noted: of the file for its default stream, and of a named stream
abbrev pub with_file_write_noted : Volume → ℕ → Bool → Volume
with_file_write_noted v link longer = with_change_noted v link FILE_ACTION_MODIFIED (write_filters longer) None

abbrev pub with_stream_write_noted : Volume → ℕ → ℕ → Bool → Volume
with_stream_write_noted v link stream longer = with_change_noted v link FILE_ACTION_MODIFIED_STREAM (stream_write_filters longer) (Some stream)

abbrev pub with_write_noted : Volume → ℕ → ℕ → Bool → Volume
with_write_noted v link stream longer =
    if is_named_stream v stream then with_stream_write_noted v link stream longer else with_file_write_noted v link longer

-- the write makes the stream longer
abbrev pub lengthens : Volume → ℕ → ℕ → List ℕ → Bool
lengthens v stream at bytes = nat_lt (length (bytes_of v stream)) (at + length bytes)

-- noted, the bytes put, and the file written
abbrev pub with_written : Volume → ℕ → ℕ → ℕ → List ℕ → Volume
with_written v link stream at bytes =
    with_file_written (with_bytes (with_write_noted v link stream (lengthens v stream at bytes)) stream at bytes) (file_of_stream v stream)

-- ---- the checks

-- the bytes are put at this place
unfoldable pub write_bytes : Volume → ℕ → ℕ → ℕ → List ℕ → Outcome
write_bytes v link stream at bytes =
    Done (with_written v link stream at bytes) (record { status = Success; body = Count (length bytes) })

-- unless the stream would grow past what its owner may have, or past what there is
unfoldable pub write_grown : Volume → ℕ → ℕ → ℕ → List ℕ → Outcome
write_grown v link stream at bytes =
    option_map_or (λ status. refused v status) (growth_fault v stream (at + length bytes)) (write_bytes v link stream at bytes)

-- unless a lock is in the way
unfoldable pub write_unlocked : Volume → ℕ → ℕ → ℕ → ℕ → List ℕ → Outcome
write_unlocked v handle link stream at bytes =
    if write_is_locked v handle stream at (length bytes) then refused v FileLockConflict else write_grown v link stream at bytes

-- once the breaks that the write waits for have ended
unfoldable pub write_range : Volume → ℕ → ℕ → ℕ → ℕ → ℕ → List ℕ → Outcome
write_range v handle key link stream at bytes =
    if waits_for v (Stream stream) Change (Some handle) key then held_by v (Stream stream) Change (Some handle) key
    else write_unlocked (with_breaks v (Stream stream) Change (Some handle) key) handle link stream at bytes

-- the end of the range
unfoldable pub write_at_place : Volume → ℕ → Handle → ℕ → ℕ → List ℕ → Outcome
write_at_place v id handle stream at bytes =
    if nat_lt largest_end (at + length bytes) then refused v InvalidParameter
    else write_range v id handle.key handle.link stream at bytes

-- WRITE_DATA is granted, or APPEND_DATA where the place is the end
abbrev pub can_write : ℕ → Option ℕ → Bool
can_write access at = has_any access WRITE_DATA || (has_any access APPEND_DATA && is_none at)

-- the rights of the handle; of no bytes nothing more is asked; without a place it is the end of the stream
unfoldable pub write_stream : Volume → ℕ → Handle → ℕ → Option ℕ → List ℕ → Outcome
write_stream v id handle stream at bytes =
    if not (can_write handle.access at) then refused v AccessDenied
    else if length bytes == 0 then Done v (record { status = Success; body = Count 0 })
    else write_at_place v id handle stream (unwrap_or at (length (bytes_of v stream))) bytes

-- a handle of a directory has no stream to write
unfoldable pub write_by : Volume → ℕ → Handle → Option ℕ → List ℕ → Outcome
write_by v id handle at bytes =
    option_map_or (λ stream. write_stream v id handle stream at bytes) handle.stream (refused v InvalidDeviceRequest)

-- the handle of this number
unfoldable pub write_at : Volume → ℕ → Option ℕ → List ℕ → Outcome
write_at v id at bytes = option_map_or (λ handle. write_by v id handle at bytes) (row_of v.handles id) (refused v InvalidHandle)

-- one try of a write
unfoldable pub try_write : Volume → ℕ → ℕ → Option ℕ → List ℕ → Outcome
try_write v client handle at bytes = option_map_or (λ id. write_at v id at bytes) (handle_of v client handle) (refused v InvalidHandle)
