-- What some statuses at the end of a try say of what it found: those of an open, of the handles that it clashes with and the breaks
-- that it waits for; those of a read, a write and a lock, of their handle and the locks in their way, and of the bytes of a read and
-- the room of a write too; those of a request for an oplock, of what is granted already; those of an acknowledgement, of the break
-- that it answers; and those of a wait, of its call. After [MS-FSA] 'Server Requests an Open of a File', 'Server Requests a Read',
-- 'Server Requests a Write', 'Algorithm for Determining if a Range Access Conflicts with Byte-Range Locks', 'Server Requests a
-- Byte-Range Lock', 'Server Requests an Oplock' and 'Server Acknowledges an Oplock Break'; waits are this project's own.
use Rattle.std.specs.Option.{option_map_or}
use Rattle.std.specs.Prelude.{◌≡◌, ◌+◌, ◌==◌, ◌&&◌, ◌||◌, not, nat_le, nat_lt, ℕ, Bool, true, false, List, length, All, Option, Some, None, is_some, option_and_then, unwrap_or}
use Rattle.fsa_types.specs.Access.{has_any, has_other, map_generic}
use Rattle.fsa_types.specs.Masks.{COMPLETE_IF_OPLOCKED, READ_DATA, WRITE_DATA}
use Rattle.fsa_types.specs.Rows.{row_of}
use Rattle.fsa_types.specs.Status.{status_code}
use Rattle.fsa_types.specs.declared.oplock.Class.TheVariants.{ReadOpen}
use Rattle.fsa_types.specs.declared.request.Call.{Call}
use Rattle.fsa_types.specs.declared.request.Disposition.{Disposition}
use Rattle.fsa_types.specs.declared.request.Level.{Level}
use Rattle.fsa_types.specs.declared.request.Request.TheVariants as request
use Rattle.fsa_types.specs.declared.request.What.{What}
use Rattle.fsa_types.specs.declared.request.What.TheVariants.{Ask, WaitFor}
use Rattle.fsa_types.specs.declared.status.Status.{Status}
use Rattle.fsa_types.specs.declared.status.Status.TheVariants.{Success, AccessDenied, DiskFull, EndOfFile, FileLockConflict, InvalidDeviceRequest, InvalidHandle, InvalidLockRange, InvalidOplockProtocol, InvalidParameter, LockNotGranted, OplockBreakInProgress, OplockNotGranted, QuotaExceeded, SharingViolation}
use Rattle.fsa_model.specs.Coherence.{key_of, set_of_path, stream_under}
use Rattle.fsa_model.specs.Grant.{is_not_granted, target_of}
use Rattle.fsa_model.specs.Growth.{growth_fault}
use Rattle.fsa_model.specs.History.{HistoryEntry}
use Rattle.fsa_model.specs.Locked.{read_is_locked, write_is_locked}
use Rattle.fsa_model.specs.Locking.{lock_blockers, passes_top}
use Rattle.fsa_model.specs.Lookups.{bytes_of, clashes_on, handle_of, has_left, largest_end}
use Rattle.fsa_model.specs.Open.{attribute_rights, overwrites}
use Rattle.fsa_model.specs.Outcome.{Outcome, Done, Stay, Hold}
use Rattle.fsa_model.specs.Setup.{Setup}
use Rattle.fsa_model.specs.Tries.{Tried, tries_of}
use Rattle.fsa_model.specs.Try.{try}
use Rattle.fsa_model.specs.Volume.{Volume}
use Rattle.fsa_model.specs.Waiting.{has_ended, is_pending}
use Rattle.fsa_model.specs.Waits.{waits_for}
use Rattle.fsa_model.specs.Write.{can_write}

-- ---- what a call finds

-- the open clashes with a handle of the directory or the stream that its path names; it wants more than the rights to attributes,
-- and waits for a break there by class ReadOpen
abbrev pub clashes_at : Volume → List ℕ → ℕ → ℕ → Bool
clashes_at v path wanted share = option_map_or (λ on. clashes_on v on (map_generic wanted) share) (set_of_path v path) false

abbrev pub waits_at : Volume → List ℕ → ℕ → ℕ → Bool
waits_at v path wanted key = has_other (map_generic wanted) attribute_rights && option_map_or (λ on. waits_for v on ReadOpen None key) (set_of_path v path) false

-- the test holds of the handle to which the client gave this number, and of its stream
abbrev pub finds : Volume → ℕ → ℕ → (ℕ → ℕ → Bool) → Bool
finds v client number test =
    option_map_or (λ handle. option_map_or (λ stream. test handle stream) (stream_under v (Some handle)) false) (handle_of v client number) false

-- the client has a handle of this number; one with a stream; one without; or the handle is unknown: there is none of this number, or
-- the client has left
abbrev pub has_handle : Volume → ℕ → ℕ → Bool
has_handle v client number = is_some (handle_of v client number)

abbrev pub has_stream : Volume → ℕ → ℕ → Bool
has_stream v client number = finds v client number (λ handle stream. true)

abbrev pub lacks_stream : Volume → ℕ → ℕ → Bool
lacks_stream v client number = has_handle v client number && not (has_stream v client number)

abbrev pub is_unknown : Volume → ℕ → ℕ → Bool
is_unknown v client number = not (has_handle v client number) || has_left v client

-- the client has a handle of this number with a stream, and with rights that pass the test
abbrev pub has_rights : Volume → ℕ → ℕ → (ℕ → Bool) → Bool
has_rights v client number test = finds v client number (λ handle stream. option_map_or (λ row. test row.access) (row_of v.handles handle) false)

-- with the right to read; to write at this place or, without one, at the end of the stream; or to read or write, and so to lock
abbrev pub may_read : Volume → ℕ → ℕ → Bool
may_read v client number = has_rights v client number (λ access. has_any access READ_DATA)

abbrev pub may_write : Volume → ℕ → ℕ → Option ℕ → Bool
may_write v client number at = has_rights v client number (λ access. can_write access at)

abbrev pub may_lock : Volume → ℕ → ℕ → Bool
may_lock v client number = has_rights v client number (λ access. has_any access READ_DATA || has_any access WRITE_DATA)

-- a write is at this place or, without one, at the end of the stream
abbrev pub place_of : Volume → ℕ → Option ℕ → ℕ
place_of v stream at = unwrap_or at (length (bytes_of v stream))

-- a read of these bytes would end past the largest place; or a write of these, at this place or at the end
abbrev pub is_read_too_far : ℕ → ℕ → Bool
is_read_too_far at count = nat_lt largest_end (at + count)

abbrev pub is_write_too_far : Volume → ℕ → ℕ → Option ℕ → List ℕ → Bool
is_write_too_far v client number at bytes = finds v client number (λ handle stream. nat_lt largest_end (place_of v stream at + length bytes))

-- with the right to it: a read of some bytes and a write of some that don't end past the largest place; and a lock whose range
-- doesn't pass the top
abbrev pub reads_within : Volume → ℕ → ℕ → ℕ → ℕ → Bool
reads_within v client number at count = may_read v client number && not (is_read_too_far at count) && not (count == 0)

abbrev pub writes_within : Volume → ℕ → ℕ → Option ℕ → List ℕ → Bool
writes_within v client number at bytes = may_write v client number at && not (length bytes == 0) && not (is_write_too_far v client number at bytes)

abbrev pub locks_within : Volume → ℕ → ℕ → ℕ → ℕ → Bool
locks_within v client number at count = may_lock v client number && not (passes_top at count)

-- some lock on the stream is in the way of a read of these bytes; of a write of these, at this place or at the end; or of such a
-- lock on this range
abbrev pub is_read_locked : Volume → ℕ → ℕ → ℕ → ℕ → Bool
is_read_locked v client number at count = finds v client number (λ handle stream. read_is_locked v handle stream at count)

abbrev pub is_write_locked : Volume → ℕ → ℕ → Option ℕ → List ℕ → Bool
is_write_locked v client number at bytes = finds v client number (λ handle stream. write_is_locked v handle stream (place_of v stream at) (length bytes))

abbrev pub is_lock_in_conflict : Volume → ℕ → ℕ → ℕ → ℕ → Bool → Bool
is_lock_in_conflict v client number at count exclusive = finds v client number (λ handle stream. not (length (lock_blockers v handle stream at count exclusive) == 0))

-- a read at this place has no bytes to give: it is at the end of the stream or past it
abbrev pub is_past_end : Volume → ℕ → ℕ → ℕ → Bool
is_past_end v client number at = finds v client number (λ handle stream. nat_le (length (bytes_of v stream)) at)

-- the room for a write of these bytes has it end with this status: SUCCESS where the stream may be so long, or else why it can't
abbrev pub is_room_status : Volume → ℕ → ℕ → Option ℕ → List ℕ → Status → Bool
is_room_status v client number at bytes status =
    finds v client number (λ handle stream. status_code (unwrap_or (growth_fault v stream (place_of v stream at + length bytes)) Success) == status_code status)

-- an oplock of this level can't be granted
abbrev pub is_oplock_barred : Volume → ℕ → ℕ → Level → Bool
is_oplock_barred v client number level = finds v client number (λ handle stream. is_not_granted v handle (key_of v handle) stream level)

-- a break of the handle's oplock is in progress
abbrev pub is_breaking : Volume → ℕ → ℕ → Bool
is_breaking v client number = is_some (option_and_then (λ handle. target_of v handle) (handle_of v client number))

-- ---- how it ends

-- an open ends SUCCESS only where it clashes with no handle, SHARING_VIOLATION only where it clashes with one, and
-- OPLOCK_BREAK_IN_PROGRESS only where it has COMPLETE_IF_OPLOCKED, overwrites nothing, clashes with no handle, and waits for a break
abbrev pub open_may_end : Volume → List ℕ → ℕ → ℕ → Disposition → ℕ → ℕ → Status → Bool
open_may_end v path wanted share disposition options key Success = not (clashes_at v path wanted share)
open_may_end v path wanted share disposition options key OplockBreakInProgress =
    has_any options COMPLETE_IF_OPLOCKED && not (overwrites disposition) && not (clashes_at v path wanted share) && waits_at v path wanted key
open_may_end v path wanted share disposition options key SharingViolation = clashes_at v path wanted share
open_may_end v path wanted share disposition options key _ = true

-- a read ends SUCCESS only where it has the right to read and doesn't end past the largest place, and is of no bytes, or has no
-- lock in its way and begins before the end of the stream; END_OF_FILE and FILE_LOCK_CONFLICT only where it has that right, doesn't
-- end past that place and is of some bytes, the first where no lock is in its way and it begins at the end of the stream or past
-- it, the second where a lock is. It ends INVALID_HANDLE only where its handle is unknown, INVALID_DEVICE_REQUEST only where that
-- has no stream, ACCESS_DENIED only where that has a stream and not the right, and INVALID_PARAMETER only where it has the right
-- and would end past that place
abbrev pub read_may_end : Volume → ℕ → ℕ → ℕ → ℕ → Status → Bool
read_may_end v client number at count Success =
    may_read v client number && not (is_read_too_far at count) && (count == 0 || (not (is_read_locked v client number at count) && not (is_past_end v client number at)))
read_may_end v client number at count EndOfFile = reads_within v client number at count && not (is_read_locked v client number at count) && is_past_end v client number at
read_may_end v client number at count FileLockConflict = reads_within v client number at count && is_read_locked v client number at count
read_may_end v client number at count InvalidHandle = is_unknown v client number
read_may_end v client number at count InvalidDeviceRequest = lacks_stream v client number
read_may_end v client number at count AccessDenied = has_stream v client number && not (may_read v client number)
read_may_end v client number at count InvalidParameter = may_read v client number && is_read_too_far at count
read_may_end v client number at count _ = false

-- a write ends SUCCESS only where it has the right to write there, and is of no bytes, or doesn't end past the largest place, has no
-- lock in its way, and the stream may be so long; QUOTA_EXCEEDED, DISK_FULL and FILE_LOCK_CONFLICT only where it has that right,
-- is of some bytes and doesn't end past that place, the first two where no lock is in its way and the stream may not be so long for
-- that cause, the last where a lock is. It ends INVALID_HANDLE, INVALID_DEVICE_REQUEST and ACCESS_DENIED only where a read does, by
-- its own right, and INVALID_PARAMETER only where it has the right, is of some bytes, and would end past that place
abbrev pub write_may_end : Volume → ℕ → ℕ → Option ℕ → List ℕ → Status → Bool
write_may_end v client number at bytes Success =
    may_write v client number at
    && (length bytes == 0
    || (not (is_write_too_far v client number at bytes) && not (is_write_locked v client number at bytes) && is_room_status v client number at bytes Success))
write_may_end v client number at bytes QuotaExceeded =
    writes_within v client number at bytes && not (is_write_locked v client number at bytes) && is_room_status v client number at bytes QuotaExceeded
write_may_end v client number at bytes DiskFull =
    writes_within v client number at bytes && not (is_write_locked v client number at bytes) && is_room_status v client number at bytes DiskFull
write_may_end v client number at bytes FileLockConflict = writes_within v client number at bytes && is_write_locked v client number at bytes
write_may_end v client number at bytes InvalidHandle = is_unknown v client number
write_may_end v client number at bytes InvalidDeviceRequest = lacks_stream v client number
write_may_end v client number at bytes AccessDenied = has_stream v client number && not (may_write v client number at)
write_may_end v client number at bytes InvalidParameter = may_write v client number at && not (length bytes == 0) && is_write_too_far v client number at bytes
write_may_end v client number at bytes _ = false

-- a lock ends SUCCESS and LOCK_NOT_GRANTED only where it has the right to read or to write and its range doesn't pass the top, the
-- first where no lock is in conflict with it, the second where one is and it doesn't wait. It ends INVALID_HANDLE only where its
-- handle is unknown, INVALID_PARAMETER only where that has no stream, ACCESS_DENIED only where that has a stream and neither right,
-- and INVALID_LOCK_RANGE only where it has a right and its range passes the top
abbrev pub lock_may_end : Volume → ℕ → ℕ → ℕ → ℕ → Bool → Bool → Status → Bool
lock_may_end v client number at count exclusive wait Success = locks_within v client number at count && not (is_lock_in_conflict v client number at count exclusive)
lock_may_end v client number at count exclusive wait LockNotGranted = locks_within v client number at count && not wait && is_lock_in_conflict v client number at count exclusive
lock_may_end v client number at count exclusive wait InvalidHandle = is_unknown v client number
lock_may_end v client number at count exclusive wait InvalidParameter = lacks_stream v client number
lock_may_end v client number at count exclusive wait AccessDenied = has_stream v client number && not (may_lock v client number)
lock_may_end v client number at count exclusive wait InvalidLockRange = may_lock v client number && passes_top at count
lock_may_end v client number at count exclusive wait _ = false

-- a request for an oplock ends OPLOCK_NOT_GRANTED only where it can't be granted, INVALID_HANDLE only where its handle is unknown,
-- and INVALID_PARAMETER only where that has no stream
abbrev pub oplock_may_end : Volume → ℕ → ℕ → Level → Status → Bool
oplock_may_end v client number level OplockNotGranted = is_oplock_barred v client number level
oplock_may_end v client number level InvalidHandle = is_unknown v client number
oplock_may_end v client number level InvalidParameter = lacks_stream v client number
oplock_may_end v client number level _ = false

-- an acknowledgement ends SUCCESS only where a break of its handle's oplock is in progress, INVALID_OPLOCK_PROTOCOL only where there
-- is such a handle and no such break, and INVALID_HANDLE only where its handle is unknown
abbrev pub ack_may_end : Volume → ℕ → ℕ → Status → Bool
ack_may_end v client number Success = is_breaking v client number
ack_may_end v client number InvalidOplockProtocol = has_handle v client number && not (is_breaking v client number)
ack_may_end v client number InvalidHandle = is_unknown v client number
ack_may_end v client number _ = false

-- a wait ends SUCCESS only where its call has ended, INVALID_PARAMETER only where that neither has ended nor is pending, and
-- INVALID_HANDLE only where its client has left
abbrev pub wait_may_end : Volume → ℕ → ℕ → Status → Bool
wait_may_end v client number Success = has_ended v client number
wait_may_end v client number InvalidParameter = not (has_ended v client number) && not (is_pending v client number)
wait_may_end v client number InvalidHandle = has_left v client
wait_may_end v client number _ = false

-- the client's call that wants this may end with this status; other calls with any
abbrev pub may_end_as_found : Volume → ℕ → What → Status → Bool
may_end_as_found v client (Ask (request.Create path wanted share disposition options attributes key)) status = open_may_end v path wanted share disposition options key status
may_end_as_found v client (Ask (request.Read number at count)) status = read_may_end v client number at count status
may_end_as_found v client (Ask (request.Write number at bytes)) status = write_may_end v client number at bytes status
may_end_as_found v client (Ask (request.Lock number at count exclusive wait)) status = lock_may_end v client number at count exclusive wait status
may_end_as_found v client (Ask (request.Oplock number level)) status = oplock_may_end v client number level status
may_end_as_found v client (Ask (request.Ack number level)) status = ack_may_end v client number status
may_end_as_found v client (WaitFor number) status = wait_may_end v client number status
may_end_as_found v client what status = true

-- a try of the call that came to this: where it has ended, it may end so
abbrev pub EndsAsFound : Volume → Call → Outcome → Type 0
EndsAsFound v call (Done next reply) = may_end_as_found v call.client call.what reply.status ≡ true
EndsAsFound v call (Stay next interim) = Unit {0}
EndsAsFound v call (Hold next blockers interim) = Unit {0}

-- so it is in each try of a history
abbrev pub CallsEndAsFound : Setup → List HistoryEntry → Type 0
CallsEndAsFound setup history = All (λ (t : Tried). EndsAsFound t.before t.call (try t.before t.call t.turn)) (tries_of setup history)
