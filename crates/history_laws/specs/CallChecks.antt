-- The checks of each call in order, but of opens, renames and links (`OpenChecks`, `NamingSteps`), and that each try comes to what they say: the
-- first that fails ends it, with its status and nothing changed; where none fails, it ends with another status, of those that there are behind
-- the checks of such a call, or is held or stays pending, as such a call may. Comments say what has to hold, tables when it fails, and with which
-- status. Locks in the way and a write's room are in `EndsAsFound`, breaks in `OplockChanges` and `WhyPending`, changes of the tree in
-- `TreeChanges`; what is listed, shown or doesn't fit, and the bodies of replies, are the definitions' alone. From them the tables take look-ups,
-- masks, which expressions and buffers are right, how much room entries need, which keys are the same and how levels compare, charges and limits,
-- growth, and which calls have ended or are pending. After [MS-FSA], the section of each request. This project's own are the order of the checks,
-- all of a flush, the right of a lock, what a read or a write of a directory ends with, which attributes there are, that an owner has to be the
-- client's, that the root has no reparse point and that a point's tag has Microsoft's bit, that SID 0 sets limits, why an oplock isn't granted,
-- and `wait`, `tick` and `leave`, which the standard doesn't have.
use Rattle.std.specs.List.{list_any}
use Rattle.std.specs.Option.{option_map_or}
use Rattle.std.specs.Prelude.{◌≡◌, ◌+◌, ◌-◌, ◌^◌, ◌==◌, ◌&&◌, ◌||◌, not, nat_lt, ℕ, Bool, true, false, List, [], ◌∷◌, length, All, Option, Some, None, is_some, unwrap_or, if◌then◌else◌}
use Rattle.fsa_types.specs.Access.{has_any, has_other, has_sid}
use Rattle.fsa_types.specs.FixedBuffers.{read_reparse, reparse_bytes}
use Rattle.fsa_types.specs.Masks.{APPEND_DATA, DELETE, DIRECTORY, IO_REPARSE_TAG_RESERVED_ONE, IO_REPARSE_TAG_RESERVED_ZERO, MICROSOFT_TAG, READ_ATTRIBUTES, READ_DATA, WRITE_ATTRIBUTES, WRITE_DAC, WRITE_DATA, WRITE_OWNER, known_attributes, known_filters}
use Rattle.fsa_types.specs.Match.{is_refused}
use Rattle.fsa_types.specs.Oplocks.{has_read, has_write, is_same_key, is_within}
use Rattle.fsa_types.specs.PackedRows.{pack_kind}
use Rattle.fsa_types.specs.Packing.{head_size}
use Rattle.fsa_types.specs.Rows.{row_of}
use Rattle.fsa_types.specs.Status.{status_code}
use Rattle.fsa_types.specs.declared.request.Call.{Call}
use Rattle.fsa_types.specs.declared.request.DaclChange.{DaclChange}
use Rattle.fsa_types.specs.declared.request.DaclChange.TheVariants.{Keep, Remove, Put}
use Rattle.fsa_types.specs.declared.request.DirKind.{DirKind}
use Rattle.fsa_types.specs.declared.request.InfoKind.{InfoKind}
use Rattle.fsa_types.specs.declared.request.InfoKind.TheVariants.{Basic, Standard, Internal, Tag, Streams}
use Rattle.fsa_types.specs.declared.request.Level.{Level}
use Rattle.fsa_types.specs.declared.request.Request.{Request}
use Rattle.fsa_types.specs.declared.request.Request.TheVariants as request
use Rattle.fsa_types.specs.declared.request.What.{What}
use Rattle.fsa_types.specs.declared.request.What.TheVariants.{Ask, Tick, WaitFor, Leave}
use Rattle.fsa_types.specs.declared.reply.Reply.{Reply}
use Rattle.fsa_types.specs.declared.status.Status.{Status}
use Rattle.fsa_types.specs.declared.status.Status.TheVariants.{Success, AccessDenied, BufferOverflow, BufferTooSmall, CannotDelete, DeletePending, DirectoryNotEmpty, DiskFull, EndOfFile, FileLockConflict, InfoLengthMismatch, InvalidDeviceRequest, InvalidHandle, InvalidLockRange, InvalidOplockProtocol, InvalidParameter, IoReparseDataInvalid, IoReparseTagInvalid, IoReparseTagMismatch, LockNotGranted, NoMoreFiles, NoSuchFile, NotAReparsePoint, NotifyEnumDir, ObjectNameInvalid, OplockNotGranted, QuotaExceeded, RangeNotLocked}
use Rattle.fsa_model.specs.Charge.{charge, charge_of_file, limit}
use Rattle.fsa_model.specs.Edits.{is_lock_on}
use Rattle.fsa_model.specs.Grant.{target_of}
use Rattle.fsa_model.specs.Growth.{growth_fault}
use Rattle.fsa_model.specs.History.{HistoryEntry}
use Rattle.fsa_model.specs.Locked.{locks_on}
use Rattle.fsa_model.specs.Lookups.{bytes_of, handle_of, has_left, has_row, is_directory, is_link_marked, linked_file, number_of, owner_of, sids_of}
use Rattle.fsa_model.specs.Outcome.{Outcome, Done, Stay, Hold}
use Rattle.fsa_model.specs.QueryDir.{is_start}
use Rattle.fsa_model.specs.Setup.{Setup}
use Rattle.fsa_model.specs.Tries.{Tried, tries_of}
use Rattle.fsa_model.specs.Try.{try}
use Rattle.fsa_model.specs.Volume.{Handle, Oplock, Volume}
use Rattle.fsa_model.specs.Waiting.{has_ended, is_pending}
use Rattle.fsa_model.specs.Walk.{point_of}
use Rattle.history_laws.specs.OpenChecks.{Check, first_failing, is_read_only, with_status}
use Rattle.history_laws.specs.OplockChanges.{handle_numbered}

-- ---- what a call acts on

-- one check, which fails
abbrev pub fails_with : Status → List Check
fails_with status = (true, with_status status) ∷ []

-- the client has a handle of this number, and then those by that handle (each has a row, as the tree is sound)
abbrev pub checks_by_handle : Volume → ℕ → ℕ → (ℕ → Handle → List Check) → List Check
checks_by_handle v client number by_handle =
    option_map_or (λ id. option_map_or (λ handle. by_handle id handle) (row_of v.handles id) (fails_with InvalidHandle)) (handle_of v client number) (fails_with InvalidHandle)

-- the handle is on a stream, and not of a directory; and then those of the stream
abbrev pub checks_on_stream : Handle → Status → (ℕ → List Check) → List Check
checks_on_stream handle status on_stream = option_map_or (λ stream. on_stream stream) handle.stream (fails_with status)

-- the handle lacks a right, or both of two
abbrev pub lacks : Handle → ℕ → Bool
lacks handle right = not (has_any handle.access right)

abbrev pub lacks_both : Handle → ℕ → ℕ → Bool
lacks_both handle one other = not (has_any handle.access one || has_any handle.access other)

-- the file of the handle's link; link 0 is that of the root, file 1
abbrev pub file_by : Volume → Handle → ℕ
file_by v handle = if handle.link == 0 then 1 else linked_file v handle.link

-- ---- bytes and locks

-- READ_DATA; and its end isn't past 2 ^ 63 - 1
abbrev pub checks_of_read : Handle → ℕ → ℕ → List Check
checks_of_read handle at count =
    checks_on_stream handle InvalidDeviceRequest
    (λ stream. (lacks handle READ_DATA, with_status AccessDenied) ∷ (nat_lt (2 ^ 63 - 1) (at + count), with_status InvalidParameter) ∷ [])

-- WRITE_DATA or, where no place is given, APPEND_DATA; and with bytes its end isn't past 2 ^ 63 - 1
abbrev pub checks_of_write : Volume → Handle → Option ℕ → List ℕ → List Check
checks_of_write v handle at bytes =
    checks_on_stream handle InvalidDeviceRequest
    (λ stream. (lacks handle WRITE_DATA && (lacks handle APPEND_DATA || is_some at), with_status AccessDenied)
    ∷ (not (length bytes == 0) && nat_lt (2 ^ 63 - 1) (unwrap_or at (length (bytes_of v stream)) + length bytes), with_status InvalidParameter)
    ∷ [])

-- WRITE_DATA or APPEND_DATA
abbrev pub checks_of_flush : Handle → List Check
checks_of_flush handle = (lacks_both handle WRITE_DATA APPEND_DATA, with_status AccessDenied) ∷ []

-- WRITE_DATA; and the length isn't past 2 ^ 63 - 1
abbrev pub checks_of_set_end : Handle → ℕ → List Check
checks_of_set_end handle end =
    checks_on_stream handle InvalidParameter
    (λ stream. (lacks handle WRITE_DATA, with_status AccessDenied) ∷ (nat_lt (2 ^ 63 - 1) end, with_status InvalidParameter) ∷ [])

-- READ_DATA or WRITE_DATA; and no byte of the range lies at 2 ^ 64 or past it
abbrev pub checks_of_lock : Handle → ℕ → ℕ → List Check
checks_of_lock handle at count =
    checks_on_stream handle InvalidParameter
    (λ stream. (lacks_both handle READ_DATA WRITE_DATA, with_status AccessDenied) ∷ (not (count == 0) && nat_lt (2 ^ 64) (at + count), with_status InvalidLockRange) ∷ [])

-- the handle has a lock on exactly this range
abbrev pub checks_of_unlock : Volume → ℕ → Handle → ℕ → ℕ → List Check
checks_of_unlock v id handle at count =
    checks_on_stream handle InvalidParameter (λ stream. (not (is_some (number_of (is_lock_on id at count) v.locks)), with_status RangeNotLocked) ∷ [])

-- ---- oplocks

-- the oplock's handle is on this stream; and it is of this handle, or of one with its key, which isn't 0 then
abbrev pub is_on_stream : Volume → ℕ → Oplock → Bool
is_on_stream v stream oplock = option_map_or (λ row. option_map_or (λ on. on == stream) row.stream false) (row_of v.handles oplock.handle) false

abbrev pub is_own_oplock : ℕ → Handle → Oplock → Bool
is_own_oplock id handle oplock = is_same_key oplock.handle oplock.key (Some id) handle.key

-- some oplock on the stream passes
abbrev pub some_oplock : Volume → ℕ → (Oplock → Bool) → Bool
some_oplock v stream test = list_any (λ oplock. is_on_stream v stream oplock && test oplock) v.oplocks

-- a range of the stream is locked; and a handle of another key than this one's is open on it
abbrev pub is_any_locked : Volume → ℕ → Bool
is_any_locked v stream = not (length (locks_on v stream) == 0)

abbrev pub is_other_open : Volume → ℕ → Handle → ℕ → Bool
is_other_open v id handle stream =
    list_any (λ entry. option_map_or (λ on. on == stream) entry.1.stream false && not (is_same_key entry.0 entry.1.key (Some id) handle.key)) v.handles

-- no break of an oplock on the stream is in progress; for a level without W no range is locked, for one with W no handle of another key is open;
-- no oplock of another key has W; and none of the same key has something that isn't asked for
abbrev pub checks_of_oplock : Volume → ℕ → Handle → Level → List Check
checks_of_oplock v id handle level =
    checks_on_stream handle InvalidParameter
    (λ stream. (some_oplock v stream (λ oplock. is_some oplock.target), with_status OplockNotGranted)
    ∷ (not (has_write level) && is_any_locked v stream, with_status OplockNotGranted)
    ∷ (has_write level && is_other_open v id handle stream, with_status OplockNotGranted)
    ∷ (some_oplock v stream (λ oplock. not (is_own_oplock id handle oplock) && has_write oplock.level), with_status OplockNotGranted)
    ∷ (some_oplock v stream (λ oplock. is_own_oplock id handle oplock && not (is_within oplock.level level)), with_status OplockNotGranted)
    ∷ [])

-- the client has a handle of this number, and a break of its oplock is in progress
abbrev pub checks_of_ack : Volume → ℕ → ℕ → List Check
checks_of_ack v client number =
    option_map_or (λ id. (not (is_some (target_of v id)), with_status InvalidOplockProtocol) ∷ []) (handle_of v client number) (fails_with InvalidHandle)

-- ---- deletion

-- a link is in the directory that the handle's link is of
abbrev pub has_link_in_it : Volume → Handle → Bool
has_link_in_it v handle = option_map_or (λ row. has_row (λ link. link.parent == row.file) v.links) (row_of v.links handle.link) false

-- DELETE; and for a mark, also of a named stream, the link is neither the root's, nor that of a READONLY file or directory, nor that of a
-- directory with a link in it
abbrev pub checks_of_set_disposition : Volume → Handle → Bool → List Check
checks_of_set_disposition v handle delete =
    (lacks handle DELETE, with_status AccessDenied)
    ∷ (delete && handle.link == 0, with_status CannotDelete)
    ∷ (delete && is_read_only v (linked_file v handle.link), with_status CannotDelete)
    ∷ (delete && has_link_in_it v handle, with_status DirectoryNotEmpty)
    ∷ []

-- ---- directories

-- it is of a directory; READ_DATA; the expression isn't refused; and there is room for what stands before a name
abbrev pub checks_of_query_dir : Handle → DirKind → List ℕ → ℕ → List Check
checks_of_query_dir handle kind expression room =
    (is_some handle.stream, with_status InvalidParameter)
    ∷ (lacks handle READ_DATA, with_status AccessDenied)
    ∷ (is_refused expression, with_status ObjectNameInvalid)
    ∷ (nat_lt room (head_size (pack_kind kind)), with_status InfoLengthMismatch)
    ∷ []

-- it is of a directory; READ_DATA; the filter has some bit, and none that is unknown; and the link isn't marked
abbrev pub checks_of_notify : Volume → Handle → ℕ → List Check
checks_of_notify v handle filter =
    (is_some handle.stream, with_status InvalidParameter)
    ∷ (lacks handle READ_DATA, with_status AccessDenied)
    ∷ (filter == 0, with_status InvalidParameter)
    ∷ (has_other filter known_filters, with_status InvalidParameter)
    ∷ (is_link_marked v handle.link, with_status DeletePending)
    ∷ []

-- ---- information and security

-- the room that a kind of information needs at least, in bytes
abbrev pub least_room : InfoKind → ℕ
least_room Basic = 40
least_room Standard = 24
least_room Internal = 8
least_room Tag = 8
least_room Streams = 24

-- times, attributes and tags need READ_ATTRIBUTES
abbrev pub needs_attributes_right : InfoKind → Bool
needs_attributes_right Basic = true
needs_attributes_right Standard = false
needs_attributes_right Internal = false
needs_attributes_right Tag = true
needs_attributes_right Streams = false

-- there is room; and the right for the kind
abbrev pub checks_of_query_info : Handle → InfoKind → ℕ → List Check
checks_of_query_info handle kind room =
    (nat_lt room (least_room kind), with_status InfoLengthMismatch) ∷ (needs_attributes_right kind && lacks handle READ_ATTRIBUTES, with_status AccessDenied) ∷ []

-- a time is below 2 ^ 63, or one of the two that leave it
abbrev pub is_time : ℕ → Bool
is_time time = nat_lt time (2 ^ 63) || time == 2 ^ 64 - 1 || time == 2 ^ 64 - 2

-- WRITE_ATTRIBUTES; each time passes `is_time`; attributes have no unknown bit; and DIRECTORY isn't asked of a file
abbrev pub checks_of_set_basic : Volume → Handle → ℕ → ℕ → ℕ → ℕ → ℕ → List Check
checks_of_set_basic v handle creation access write change attributes =
    (lacks handle WRITE_ATTRIBUTES, with_status AccessDenied)
    ∷ (not (is_time creation), with_status InvalidParameter)
    ∷ (not (is_time access), with_status InvalidParameter)
    ∷ (not (is_time write), with_status InvalidParameter)
    ∷ (not (is_time change), with_status InvalidParameter)
    ∷ (has_other attributes known_attributes, with_status InvalidParameter)
    ∷ (has_any attributes DIRECTORY && not (is_directory v.files (file_by v handle)), with_status InvalidParameter)
    ∷ []

-- the owner is another than the file's, and his charge with this file's would pass his limit
abbrev pub is_past_limit : Volume → ℕ → ℕ → Bool
is_past_limit v file sid = not (sid == owner_of v file) && nat_lt (limit v sid) (charge v sid + charge_of_file v file)

-- the access list is changed
abbrev pub is_change : DaclChange → Bool
is_change Keep = false
is_change Remove = true
is_change (Put dacl) = true

-- WRITE_OWNER for an owner, WRITE_DAC for a change of the access list; the owner is one of the client's SIDs; and a new owner's limit takes his
-- charge with the file's
abbrev pub checks_of_set_security : Volume → ℕ → Handle → Option ℕ → DaclChange → List Check
checks_of_set_security v client handle owner dacl =
    (is_some owner && lacks handle WRITE_OWNER, with_status AccessDenied)
    ∷ (is_change dacl && lacks handle WRITE_DAC, with_status AccessDenied)
    ∷ (option_map_or (λ sid. not (has_sid (sids_of v client) sid)) owner false, with_status AccessDenied)
    ∷ (option_map_or (λ sid. is_past_limit v (file_by v handle) sid) owner false, with_status QuotaExceeded)
    ∷ []

-- ---- reparse points

-- the reparse point of the handle's file
abbrev pub point_by : Volume → Handle → Option (ℕ × List ℕ)
point_by v handle = point_of v (file_by v handle)

-- WRITE_DATA or WRITE_ATTRIBUTES; it isn't the root; the buffer is that of a reparse point; its tag is neither of the two reserved ones, and
-- has the bit of Microsoft's; the link isn't that of a directory with a link in it; and no point of another tag is there
abbrev pub checks_of_set_reparse : Volume → Handle → List ℕ → List Check
checks_of_set_reparse v handle bytes =
    (lacks_both handle WRITE_DATA WRITE_ATTRIBUTES, with_status AccessDenied)
    ∷ (handle.link == 0, with_status InvalidParameter)
    ∷ option_map_or
    (λ point. (point.0 == IO_REPARSE_TAG_RESERVED_ZERO, with_status IoReparseTagInvalid)
    ∷ (point.0 == IO_REPARSE_TAG_RESERVED_ONE, with_status IoReparseTagInvalid)
    ∷ (not (has_any point.0 MICROSOFT_TAG), with_status IoReparseTagInvalid)
    ∷ (has_link_in_it v handle, with_status DirectoryNotEmpty)
    ∷ (option_map_or (λ there. not (there.0 == point.0)) (point_by v handle) false, with_status IoReparseTagMismatch)
    ∷ [])
    (read_reparse bytes)
    (fails_with IoReparseDataInvalid)

-- there is a point; and room for the eight bytes before its data
abbrev pub checks_of_get_reparse : Volume → Handle → ℕ → List Check
checks_of_get_reparse v handle room = (not (is_some (point_by v handle)), with_status NotAReparsePoint) ∷ (nat_lt room 8, with_status BufferTooSmall) ∷ []

-- WRITE_DATA or WRITE_ATTRIBUTES; and there is a point, of this tag
abbrev pub checks_of_delete_reparse : Volume → Handle → ℕ → List Check
checks_of_delete_reparse v handle tag =
    (lacks_both handle WRITE_DATA WRITE_ATTRIBUTES, with_status AccessDenied)
    ∷ option_map_or (λ point. (not (point.0 == tag), with_status IoReparseTagMismatch) ∷ []) (point_by v handle) (fails_with NotAReparsePoint)

-- ---- all of them

-- those of each request of a client; opens, renames and links have lists of their own. Only who has SID 0 sets a limit; what is cancelled is a
-- pending call of the client; and a query of a quota has none of its own
abbrev pub checks_asked : Volume → ℕ → Request → Option (List Check)
checks_asked v client (request.Create path wanted share disposition options attributes key) = None
checks_asked v client (request.Close number) = Some (checks_by_handle v client number (λ id handle. []))
checks_asked v client (request.Read number at count) = Some (checks_by_handle v client number (λ id handle. checks_of_read handle at count))
checks_asked v client (request.Write number at bytes) = Some (checks_by_handle v client number (λ id handle. checks_of_write v handle at bytes))
checks_asked v client (request.Flush number) = Some (checks_by_handle v client number (λ id handle. checks_of_flush handle))
checks_asked v client (request.SetEnd number end) = Some (checks_by_handle v client number (λ id handle. checks_of_set_end handle end))
checks_asked v client (request.Lock number at count exclusive wait) = Some (checks_by_handle v client number (λ id handle. checks_of_lock handle at count))
checks_asked v client (request.Unlock number at count) = Some (checks_by_handle v client number (λ id handle. checks_of_unlock v id handle at count))
checks_asked v client (request.QueryDir number kind expression restart room) = Some (checks_by_handle v client number (λ id handle. checks_of_query_dir handle kind expression room))
checks_asked v client (request.QueryInfo number kind room) = Some (checks_by_handle v client number (λ id handle. checks_of_query_info handle kind room))
checks_asked v client (request.SetBasic number creation access write change attributes) =
    Some (checks_by_handle v client number (λ id handle. checks_of_set_basic v handle creation access write change attributes))
checks_asked v client (request.SetDisposition number delete) = Some (checks_by_handle v client number (λ id handle. checks_of_set_disposition v handle delete))
checks_asked v client (request.Rename number path replace) = None
checks_asked v client (request.Link number path replace) = None
checks_asked v client (request.Oplock number level) = Some (checks_by_handle v client number (λ id handle. checks_of_oplock v id handle level))
checks_asked v client (request.Ack number level) = Some (checks_of_ack v client number)
checks_asked v client (request.SetSecurity number owner dacl) = Some (checks_by_handle v client number (λ id handle. checks_of_set_security v client handle owner dacl))
checks_asked v client (request.Notify number filter tree room) = Some (checks_by_handle v client number (λ id handle. checks_of_notify v handle filter))
checks_asked v client (request.Cancel number) = Some ((not (is_pending v client number), with_status InvalidParameter) ∷ [])
checks_asked v client (request.SetReparse number bytes) = Some (checks_by_handle v client number (λ id handle. checks_of_set_reparse v handle bytes))
checks_asked v client (request.GetReparse number room) = Some (checks_by_handle v client number (λ id handle. checks_of_get_reparse v handle room))
checks_asked v client (request.DeleteReparse number tag) = Some (checks_by_handle v client number (λ id handle. checks_of_delete_reparse v handle tag))
checks_asked v client (request.SetQuota sid limit) = Some ((not (has_sid (sids_of v client) 0), with_status AccessDenied) ∷ [])
checks_asked v client (request.QueryQuota sid) = Some []

-- those of each call: what is waited for has ended or is pending; a tick and a leaving have none of their own
abbrev pub checks_of_call : Volume → ℕ → What → Option (List Check)
checks_of_call v client (Ask request) = checks_asked v client request
checks_of_call v client (Tick ticks) = Some []
checks_of_call v client (WaitFor number) = Some ((not (has_ended v client number) && not (is_pending v client number), with_status InvalidParameter) ∷ [])
checks_of_call v client Leave = Some []

-- ---- what there is behind them

-- the client's handle of this number passes; and its file has a point, which passes
abbrev pub by_number : Volume → ℕ → ℕ → (Handle → Bool) → Bool
by_number v client number test = option_map_or test (handle_numbered v client number) false

abbrev pub by_point : Volume → ℕ → ℕ → (ℕ × List ℕ → Bool) → Bool
by_point v client number test = by_number v client number (λ handle. option_map_or test (point_by v handle) false)

-- the status is SUCCESS where the stream of the client's handle of this number may be so long, else why it may not
abbrev pub is_growth_status : Volume → ℕ → ℕ → ℕ → Status → Bool
is_growth_status v client number end status =
    by_number v client number (λ handle. option_map_or (λ stream. status_code (unwrap_or (growth_fault v stream end) Success) == status_code status) handle.stream false)

-- a listing is restarted, or the handle's enumeration stands at its start
abbrev pub is_at_start : Handle → Bool → Bool
is_at_start handle restart = restart || option_map_or (λ kept. is_start kept.1) handle.enumeration true

-- with which statuses such a call may end behind its checks; one for an oplock never does, but stays pending
abbrev pub may_end_behind : Volume → ℕ → What → Status → Bool
may_end_behind v client (Ask (request.Read number at count)) EndOfFile = not (count == 0)
may_end_behind v client (Ask (request.Read number at count)) FileLockConflict = not (count == 0)
may_end_behind v client (Ask (request.Write number at bytes)) FileLockConflict = not (length bytes == 0)
may_end_behind v client (Ask (request.Write number at bytes)) QuotaExceeded = not (length bytes == 0)
may_end_behind v client (Ask (request.Write number at bytes)) DiskFull = not (length bytes == 0)
may_end_behind v client (Ask (request.SetEnd number end)) Success = is_growth_status v client number end Success
may_end_behind v client (Ask (request.SetEnd number end)) QuotaExceeded = is_growth_status v client number end QuotaExceeded
may_end_behind v client (Ask (request.SetEnd number end)) DiskFull = is_growth_status v client number end DiskFull
may_end_behind v client (Ask (request.Lock number at count exclusive wait)) LockNotGranted = not wait
may_end_behind v client (Ask (request.QueryDir number kind expression restart room)) NoSuchFile = by_number v client number (λ handle. is_at_start handle restart)
may_end_behind v client (Ask (request.QueryDir number kind expression restart room)) NoMoreFiles = by_number v client number (λ handle. not (is_at_start handle restart))
may_end_behind v client (Ask (request.QueryDir number kind expression restart room)) BufferOverflow = true
may_end_behind v client (Ask (request.QueryInfo number Streams room)) BufferOverflow = by_number v client number (λ handle. is_some handle.stream)
may_end_behind v client (Ask (request.Notify number filter tree room)) NotifyEnumDir = true
may_end_behind v client (Ask (request.GetReparse number room)) Success = by_point v client number (λ point. not (nat_lt room (length (reparse_bytes point.0 0 point.1))))
may_end_behind v client (Ask (request.GetReparse number room)) BufferOverflow = by_point v client number (λ point. nat_lt room (length (reparse_bytes point.0 0 point.1)))
may_end_behind v client (Ask (request.Oplock number level)) Success = false
may_end_behind v client what Success = true
may_end_behind v client what _ = false

-- which may be held: by breaks, or a lock by other locks
abbrev pub may_be_held : What → Bool
may_be_held (Ask (request.Read number at count)) = not (count == 0)
may_be_held (Ask (request.Write number at bytes)) = not (length bytes == 0)
may_be_held (Ask (request.SetEnd number end)) = true
may_be_held (Ask (request.Lock number at count exclusive wait)) = true
may_be_held (Ask (request.SetDisposition number delete)) = delete
may_be_held _ = false

-- which may stay pending otherwise: a request for an oplock, an acknowledgement of a level with R, a watch, a wait
abbrev pub may_stay : What → Bool
may_stay (Ask (request.Oplock number level)) = true
may_stay (Ask (request.Ack number level)) = has_read level
may_stay (Ask (request.Notify number filter tree room)) = true
may_stay (WaitFor number) = true
may_stay _ = false

-- no check has failed: it has come to something that there is behind them
abbrev pub ComesBehind : Volume → ℕ → What → Outcome → Type 0
ComesBehind v client what (Done next reply) = may_end_behind v client what reply.status ≡ true
ComesBehind v client what (Hold next blockers interim) = may_be_held what ≡ true
ComesBehind v client what (Stay next interim) = may_stay what ≡ true

-- ---- how a call ends

-- what a call came to, by the reply of its first failing check: where there is one, it ended with that, its status is none of those behind the
-- checks, and the volume is as it was; else it came to what there is behind them
abbrev pub ComesToFirst : Volume → ℕ → What → Option Reply → Outcome → Type 0
ComesToFirst v client what (Some reply) outcome = (outcome ≡ Done v reply) × (may_end_behind v client what reply.status ≡ false)
ComesToFirst v client what None outcome = ComesBehind v client what outcome

-- a try of this call came to this; where the call has a list here, that is what the list says, behind a first check that its client hasn't left
abbrev pub CallEndsByChecks : Volume → Call → Outcome → Type 0
CallEndsByChecks v call outcome =
    (checks : List Check) → checks_of_call v call.client call.what ≡ Some checks
    → ComesToFirst v call.client call.what (first_failing ((has_left v call.client, with_status InvalidHandle) ∷ checks)) outcome

-- so it is in each try of a history
abbrev pub CallsEndByChecks : Setup → List HistoryEntry → Type 0
CallsEndByChecks setup history = All (λ (t : Tried). CallEndsByChecks t.before t.call (try t.before t.call t.turn)) (tries_of setup history)
