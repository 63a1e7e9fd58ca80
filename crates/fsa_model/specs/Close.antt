-- Closing a handle, and a client's leaving, after [MS-FSA] 'Server Requests Closing an Open'.
use Rattle.std.specs.Prelude.{ℕ, Bool, true, false, ◌==◌, ◌&&◌, not, nat_lt, List, length, filter, fold, Option, Some, None, option_and_then, if◌then◌else◌}
use Rattle.std.specs.Option.{option_map_or}
use Rattle.fsa_types.specs.Masks.{FILE_ACTION_REMOVED, FILE_ACTION_REMOVED_STREAM, FILE_NOTIFY_CHANGE_DIR_NAME, FILE_NOTIFY_CHANGE_FILE_NAME, FILE_NOTIFY_CHANGE_STREAM_NAME}
use Rattle.fsa_types.specs.Rows.{row_of}
use Rattle.fsa_types.specs.Sorting.{in_order}
use Rattle.fsa_types.specs.declared.request.Request.{Request}
use Rattle.fsa_types.specs.declared.request.Request.TheVariants as request
use Rattle.fsa_types.specs.declared.request.What.{What}
use Rattle.fsa_types.specs.declared.request.What.TheVariants.{Ask, WaitFor}
use Rattle.fsa_types.specs.declared.reply.Body.TheVariants.{Nothing}
use Rattle.fsa_types.specs.declared.status.Status.{Status}
use Rattle.fsa_types.specs.declared.status.Status.TheVariants.{Success, InvalidHandle, Cancelled, NotifyCleanup, OplockHandleClosed}
use Rattle.fsa_model.specs.Changes.{with_change_noted}
use Rattle.fsa_model.specs.Edits.{with_end, with_left, with_link_marked, with_stream_marked, without_handle, without_link, without_stream}
use Rattle.fsa_model.specs.Lookups.{handle_of, has_child, has_row, is_directory, is_marked, is_named_stream, is_open_by, is_open_on}
use Rattle.fsa_model.specs.Outcome.{Outcome, ends_with, refused}
use Rattle.fsa_model.specs.Volume.{Handle, Pending, Volume}

-- ---- calls that end with a handle, or with a client

-- the number of the handle that a request names; an open, the quota of a SID and a cancellation name none
abbrev pub handle_named : Request → Option ℕ
handle_named (request.Create path wanted share disposition options attributes key) = None
handle_named (request.Close handle) = Some handle
handle_named (request.Read handle at count) = Some handle
handle_named (request.Write handle at bytes) = Some handle
handle_named (request.Flush handle) = Some handle
handle_named (request.Lock handle at count exclusive wait) = Some handle
handle_named (request.Unlock handle at count) = Some handle
handle_named (request.QueryDir handle kind expression restart room) = Some handle
handle_named (request.Notify handle filter tree room) = Some handle
handle_named (request.QueryInfo handle kind room) = Some handle
handle_named (request.SetBasic handle creation access write change attributes) = Some handle
handle_named (request.SetEnd handle length) = Some handle
handle_named (request.SetDisposition handle delete) = Some handle
handle_named (request.Rename handle path replace) = Some handle
handle_named (request.Link handle path replace) = Some handle
handle_named (request.SetSecurity handle owner dacl) = Some handle
handle_named (request.SetReparse handle bytes) = Some handle
handle_named (request.GetReparse handle room) = Some handle
handle_named (request.DeleteReparse handle tag) = Some handle
handle_named (request.SetQuota sid limit) = None
handle_named (request.QueryQuota sid) = None
handle_named (request.Oplock handle level) = Some handle
handle_named (request.Ack handle level) = Some handle
handle_named (request.Cancel number) = None

-- what is asked names this handle
abbrev pub names : What → ℕ → Bool
names (Ask request) number = option_map_or (λ handle. handle == number) (handle_named request) false
names _ number = false

-- a call of the handle's client that names the handle
abbrev pub is_call_on : Handle → Pending → Bool
is_call_on handle pending = pending.call.client == handle.client && names pending.call.what handle.number

-- how a pending call ends when its handle is closed: a watch, an oplock that is granted or kept, another
abbrev pub closed_status : What → Status
closed_status (Ask (request.Notify handle filter tree room)) = NotifyCleanup
closed_status (Ask (request.Oplock handle level)) = OplockHandleClosed
closed_status (Ask (request.Ack handle level)) = OplockHandleClosed
closed_status _ = Cancelled

-- an open, or a wait for another call
abbrev pub is_open_or_wait : What → Bool
is_open_or_wait (Ask (request.Create path wanted share disposition options attributes key)) = true
is_open_or_wait (WaitFor number) = true
is_open_or_wait _ = false

-- a call of this client that no handle's close ends
abbrev pub is_left_behind : ℕ → Pending → Bool
is_left_behind client pending = pending.call.client == client && is_open_or_wait pending.call.what

-- the pending calls that pass, in order of turns
abbrev pub pending_by_turn : (Pending → Bool) → Volume → List (ℕ × Pending)
pending_by_turn test v = in_order (λ a b. nat_lt a.0 b.0) (filter (λ entry. test entry.1) v.pending)

-- these calls ended in this order, each with its status
abbrev pub with_calls_ended : (What → Status) → List (ℕ × Pending) → Volume → Volume
with_calls_ended status_of calls v =
    fold
    (λ w entry. with_end w entry.1.call.client entry.1.call.number (record { status = status_of entry.1.call.what; body = Nothing }))
    v calls

-- ---- what goes with a handle

-- the stream of the handle, where it is a named one
abbrev pub named_stream : Volume → Handle → Option ℕ
named_stream v handle = option_and_then (λ stream. if is_named_stream v stream then Some stream else None) handle.stream

-- the link is that of a directory with a link in it, marked or not
abbrev pub is_link_of_parent : Volume → ℕ → Bool
is_link_of_parent v link = option_map_or (λ row. has_child v.links row.file) (row_of v.links link) false

-- with DELETE_ON_CLOSE the named stream, else the link, is marked, unless it is a directory with a link in it
abbrev pub with_mark_on_close : Volume → Handle → Volume
with_mark_on_close v handle =
    if not handle.delete_on_close then v
    else option_map_or (λ stream. with_stream_marked v stream true) (named_stream v handle)
    (if is_link_of_parent v handle.link then v else with_link_marked v handle.link true)

-- a stream that is marked and has no handle is noted and removed: FILE_ACTION_REMOVED_STREAM, under
-- FILE_NOTIFY_CHANGE_STREAM_NAME
abbrev pub is_stream_over : Volume → ℕ → Bool
is_stream_over v stream = is_marked v stream && not (has_row (is_open_on stream) v.handles)

abbrev pub with_stream_swept : Volume → ℕ → ℕ → Volume
with_stream_swept v link stream =
    if is_stream_over v stream then without_stream (with_change_noted v link FILE_ACTION_REMOVED_STREAM FILE_NOTIFY_CHANGE_STREAM_NAME (Some stream)) stream else v

-- a link that is marked and has no handle is noted and removed, and with its last link the file and its
-- streams: FILE_ACTION_REMOVED, under FILE_NOTIFY_CHANGE_DIR_NAME or FILE_NOTIFY_CHANGE_FILE_NAME
abbrev pub is_link_over : Volume → ℕ → Bool
is_link_over v link =
    option_map_or (λ row. row.deleted) (row_of v.links link) false && not (has_row (is_open_by link) v.handles)

abbrev pub name_bit : Volume → ℕ → ℕ
name_bit v link =
    option_map_or (λ row. if is_directory v.files row.file then FILE_NOTIFY_CHANGE_DIR_NAME else FILE_NOTIFY_CHANGE_FILE_NAME) (row_of v.links link)
    FILE_NOTIFY_CHANGE_FILE_NAME

abbrev pub with_link_swept : Volume → ℕ → Volume
with_link_swept v link =
    if is_link_over v link then without_link (with_change_noted v link FILE_ACTION_REMOVED (name_bit v link) None) link else v

-- what the close of the last handle removes: its stream, and then its link
abbrev pub with_swept : Volume → Handle → Volume
with_swept v handle =
    with_link_swept (option_map_or (λ stream. with_stream_swept v handle.link stream) handle.stream v) handle.link

-- its calls end, it is gone with its locks, its oplock and break and its watch; then what was to be
-- deleted with it is marked, and what is marked and has no handle is removed
unfoldable pub with_closed : Volume → ℕ → Handle → Volume
with_closed v id handle =
    with_swept (with_mark_on_close (without_handle (with_calls_ended closed_status (pending_by_turn (is_call_on handle) v) v) id) handle) handle

-- ---- the calls

-- the handle of this number is closed
unfoldable pub close_at : Volume → ℕ → Outcome
close_at v id = option_map_or (λ handle. ends_with (with_closed v id handle) Success) (row_of v.handles id) (refused v InvalidHandle)

-- one try of a close
unfoldable pub try_close : Volume → ℕ → ℕ → Outcome
try_close v client handle = option_map_or (λ id. close_at v id) (handle_of v client handle) (refused v InvalidHandle)

-- the client's handles, by rising number
abbrev pub handles_of_client : Volume → ℕ → List (ℕ × Handle)
handles_of_client v client = in_order (λ a b. nat_lt a.1.number b.1.number) (filter (λ entry. entry.1.client == client) v.handles)

-- these handles are closed in this order
abbrev pub with_all_closed : List (ℕ × Handle) → Volume → Volume
with_all_closed handles v = fold (λ w entry. with_closed w entry.0 entry.1) v handles

-- the client's pending opens and waits end, its handles are closed, and it has left
unfoldable pub with_client_gone : Volume → ℕ → Volume
with_client_gone v client =
    with_left
    (with_all_closed (handles_of_client v client) (with_calls_ended (λ _. Cancelled) (pending_by_turn (is_left_behind client) v) v))
    client

-- one try of a leaving
unfoldable pub try_leave : Volume → ℕ → Outcome
try_leave v client = ends_with (with_client_gone v client) Success
