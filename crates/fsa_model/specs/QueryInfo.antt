-- Information on a file, after [MS-FSA] 'Server Requests a Query of File Information': FileBasicInformation,
-- FileStandardInformation, FileInternalInformation, FileAttributeTagInformation and FileStreamInformation.
use Rattle.std.specs.Prelude.{ℕ, Bool, true, false, ◌==◌, ◌&&◌, not, nat_lt, List, filter, map, take, length, is_some, if◌then◌else◌, Some}
use Rattle.std.specs.Option.{option_map_or}
use Rattle.std.specs.Ordering.{is_lt}
use Rattle.fsa_types.specs.Access.{has_any}
use Rattle.fsa_types.specs.CaseTable.{cmp_name}
use Rattle.fsa_types.specs.FixedBuffers.{basic_bytes, internal_bytes, standard_bytes, tag_bytes}
use Rattle.fsa_types.specs.Masks.{READ_ATTRIBUTES}
use Rattle.fsa_types.specs.PackedRows.{PackRow, stream_row}
use Rattle.fsa_types.specs.Packing.{bytes, fitting}
use Rattle.fsa_types.specs.Rows.{row_of}
use Rattle.fsa_types.specs.Sorting.{in_order}
use Rattle.fsa_types.specs.declared.reply.Body.TheVariants.{Got, Nothing, Packed}
use Rattle.fsa_types.specs.declared.reply.PackKind.TheVariants as pack
use Rattle.fsa_types.specs.declared.reply.Reply.{Reply}
use Rattle.fsa_types.specs.declared.request.InfoKind.{InfoKind}
use Rattle.fsa_types.specs.declared.request.InfoKind.TheVariants.{Basic, Standard, Internal, Tag, Streams}
use Rattle.fsa_types.specs.declared.status.Status.{Status}
use Rattle.fsa_types.specs.declared.status.Status.TheVariants.{Success, InvalidHandle, AccessDenied, InfoLengthMismatch, BufferOverflow}
use Rattle.fsa_model.specs.Close.{named_stream}
use Rattle.fsa_model.specs.Lookups.{access_time, creation_time, file_of_link, handle_of, is_directory, is_link_marked, is_marked, links_of, write_time}
use Rattle.fsa_model.specs.Outcome.{Outcome, Done, refused}
use Rattle.fsa_model.specs.ShownNumbers.{change_time, length_shown, shown_attributes, space_shown}
use Rattle.fsa_model.specs.Volume.{Handle, Stream, Volume}
use Rattle.fsa_model.specs.Walk.{point_of}

-- ---- what is answered

-- with these bytes
abbrev pub got : List ℕ → Reply
got bytes = record { status = Success; body = Got bytes }

-- the four times and the attributes
abbrev pub basic_of : Volume → ℕ → List ℕ
basic_of v file = basic_bytes (creation_time v file) (access_time v file) (write_time v file) (change_time v file) (shown_attributes v file)

-- what the handle was opened on will be deleted: its named stream, or else its link, is marked
abbrev pub is_delete_pending : Volume → Handle → Bool
is_delete_pending v handle = option_map_or (λ stream. is_marked v stream) (named_stream v handle) (is_link_marked v handle.link)

-- the space and the length of the handle's stream, how many links aren't marked, whether a deletion is pending, and
-- whether it is a directory
abbrev pub standard_of : Volume → Handle → ℕ → List ℕ
standard_of v handle file =
    standard_bytes (space_shown v handle.stream) (length_shown v handle.stream) (links_of v file).0 (is_delete_pending v handle) (is_directory v.files file)

-- the attributes, and the tag of the reparse point, 0 where there is none
abbrev pub tag_of : Volume → ℕ → List ℕ
tag_of v file = tag_bytes (shown_attributes v file) (option_map_or (λ point. point.0) (point_of v file) 0)

-- ---- streams

-- one stream stands before another: the default stream, whose name is empty, first, and then in the order of
-- upcased names
abbrev pub is_stream_before : List (ℕ × ℕ) → ℕ × Stream → ℕ × Stream → Bool
is_stream_before table one other = is_lt (cmp_name table one.1.name other.1.name)

-- the streams of a file in order, those too that are marked for deletion
abbrev pub streams_of : Volume → ℕ → List (ℕ × Stream)
streams_of v file = in_order (is_stream_before v.table) (filter (λ entry. entry.1.file == file) v.streams)

abbrev pub stream_rows : Volume → ℕ → List PackRow
stream_rows v file =
    map (λ entry. stream_row (length entry.1.bytes) (space_shown v (Some entry.0)) entry.1.name) (streams_of v file)

-- these rows, packed
abbrev pub streams_reply : Status → List PackRow → Reply
streams_reply status rows = record { status = status; body = Packed pack.Streams (bytes pack.Streams rows) }

-- how many of the streams fit into the room
abbrev pub how_many_streams_fit : Volume → ℕ → ℕ → ℕ
how_many_streams_fit v file room = fitting pack.Streams (stream_rows v file) room

-- all rows; or where not all fit, the whole ones that do
unfoldable pub query_streams : Volume → ℕ → ℕ → Outcome
query_streams v file room =
    if how_many_streams_fit v file room == length (stream_rows v file) then Done v (streams_reply Success (take (how_many_streams_fit v file room) (stream_rows v file)))
    else Done v (streams_reply BufferOverflow (take (how_many_streams_fit v file room) (stream_rows v file)))

-- a directory has no stream, and the answer has no bytes
unfoldable pub query_streams_by : Volume → Handle → ℕ → ℕ → Outcome
query_streams_by v handle file room =
    if is_some handle.stream then query_streams v file room
    else Done v (record { status = Success; body = Nothing })

-- ---- the checks

-- the room that a kind needs at least
abbrev pub fixed_size : InfoKind → ℕ
fixed_size Basic = 40
fixed_size Standard = 24
fixed_size Internal = 8
fixed_size Tag = 8
fixed_size Streams = 24

-- times, attributes and tags need READ_ATTRIBUTES
abbrev pub needs_attributes : InfoKind → Bool
needs_attributes Basic = true
needs_attributes Tag = true
needs_attributes _ = false

unfoldable pub query_file : Volume → Handle → ℕ → InfoKind → ℕ → Outcome
query_file v handle file Basic room = Done v (got (basic_of v file))
query_file v handle file Standard room = Done v (got (standard_of v handle file))
query_file v handle file Internal room = Done v (got (internal_bytes file))
query_file v handle file Tag room = Done v (got (tag_of v file))
query_file v handle file Streams room = query_streams_by v handle file room

-- room for what is fixed, and the right
unfoldable pub query_info_by : Volume → Handle → InfoKind → ℕ → Outcome
query_info_by v handle kind room =
    if nat_lt room (fixed_size kind) then refused v InfoLengthMismatch
    else if needs_attributes kind && not (has_any handle.access READ_ATTRIBUTES) then refused v AccessDenied
    else option_map_or (λ file. query_file v handle file kind room) (file_of_link v.links handle.link) (refused v InvalidHandle)

-- the handle of this number
unfoldable pub query_info_at : Volume → ℕ → InfoKind → ℕ → Outcome
query_info_at v id kind room =
    option_map_or (λ handle. query_info_by v handle kind room) (row_of v.handles id) (refused v InvalidHandle)

-- one try of a query of information
unfoldable pub try_query_info : Volume → ℕ → ℕ → InfoKind → ℕ → Outcome
try_query_info v client handle kind room =
    option_map_or (λ id. query_info_at v id kind room) (handle_of v client handle) (refused v InvalidHandle)
