-- What each try of a history changes of files, links and streams, and which change notifications it notes. Each change is of one of
-- a few kinds, and its kind says what is noted of it. A call that ends SUCCESS makes just the changes that it asks for, in order (an
-- open those of the action that it tells); any other try makes none, and none changes the case table. After [MS-FSA] 'Server Requests
-- an Open of a File' to 'Server Requests Setting of Security Information', and 'Algorithm for Reporting a Change Notification for a
-- Directory'.
use Rattle.std.specs.Cmp.Lexicographic.{pointwise}
use Rattle.std.specs.Int.RustNames.{bit_or}
use Rattle.std.specs.Option.{option_map_or}
use Rattle.std.specs.Prelude.{◌≡◌, ◌+◌, ◌==◌, ◌&&◌, ℕ, Bool, true, false, not, nat_eq, nat_lt, List, [], ◌∷◌, ◌++◌, fold, length, All, Option, Some, None, option_and_then, unwrap_or, if◌then◌else◌}
use Rattle.fsa_types.specs.FixedBuffers.{read_reparse}
use Rattle.fsa_types.specs.Masks.{ARCHIVE, FILE_ACTION_ADDED, FILE_ACTION_ADDED_STREAM, FILE_ACTION_MODIFIED, FILE_ACTION_MODIFIED_STREAM, FILE_ACTION_REMOVED, FILE_ACTION_REMOVED_STREAM, FILE_ACTION_RENAMED_NEW_NAME, FILE_ACTION_RENAMED_OLD_NAME, FILE_NOTIFY_CHANGE_ATTRIBUTES, FILE_NOTIFY_CHANGE_DIR_NAME, FILE_NOTIFY_CHANGE_FILE_NAME, FILE_NOTIFY_CHANGE_LAST_WRITE, FILE_NOTIFY_CHANGE_SECURITY, FILE_NOTIFY_CHANGE_SIZE, FILE_NOTIFY_CHANGE_STREAM_NAME, FILE_NOTIFY_CHANGE_STREAM_SIZE, FILE_NOTIFY_CHANGE_STREAM_WRITE}
use Rattle.fsa_types.specs.Paths.{components}
use Rattle.fsa_types.specs.Rows.{row_of}
use Rattle.fsa_types.specs.declared.reply.Action.TheVariants as action
use Rattle.fsa_types.specs.declared.reply.Body.{Body}
use Rattle.fsa_types.specs.declared.reply.Body.TheVariants.{Opened}
use Rattle.fsa_types.specs.declared.request.DaclChange.{DaclChange}
use Rattle.fsa_types.specs.declared.request.Request.TheVariants as request
use Rattle.fsa_types.specs.declared.request.What.{What}
use Rattle.fsa_types.specs.declared.request.What.TheVariants.{Ask, Leave}
use Rattle.fsa_types.specs.declared.status.Status.{Status}
use Rattle.fsa_types.specs.declared.status.Status.TheVariants.{Success}
use Rattle.fsa_model.specs.Changes.{with_change_noted}
use Rattle.fsa_model.specs.Close.{handles_of_client, is_link_of_parent}
use Rattle.fsa_model.specs.Edits.{with_basic, with_bytes, with_file, with_length, with_link, with_link_marked, with_link_moved, with_point, with_stream, with_stream_marked, without_handle, without_link, without_stream}
use Rattle.fsa_model.specs.History.{HistoryEntry, Run, begun, run}
use Rattle.fsa_model.specs.Lookups.{access_time, attributes_of, bytes_of, child_of, creation_time, file_of_link, file_of_stream, handle_of, has_row, is_directory, is_link_marked, is_marked, is_named_stream, is_open_by, is_open_on, linked_file, parent_of, stream_of, write_time}
use Rattle.fsa_model.specs.Open.{Asked, file_attributes, kept_attributes, names_stream, new_file, stream_name, wants_directory}
use Rattle.fsa_model.specs.Outcome.{Outcome, Done, Stay, Hold}
use Rattle.fsa_model.specs.Rename.{naming_by, replaced_link}
use Rattle.fsa_model.specs.Replacement.{Naming, new_name}
use Rattle.fsa_model.specs.Security.{asks_something, with_dacl_asked, with_owner_asked}
use Rattle.fsa_model.specs.SetBasic.{Basics, basic_bits, with_basics}
use Rattle.fsa_model.specs.Setup.{Setup}
use Rattle.fsa_model.specs.Tries.{Tried, left_by, tries_of}
use Rattle.fsa_model.specs.Try.{try}
use Rattle.fsa_model.specs.Turn.{volume_after}
use Rattle.fsa_model.specs.Volume.{File, Handle, Volume}
use Rattle.fsa_model.specs.Walk.{Walked, Reached, last_name, walk}

-- ---- the kinds of changes

-- a change of files, links and streams
pub data TreeChange : Type 0 where
  -- a directory is made, or a file with its default stream: in this directory, under this name, with these fields
  MakesDirectory : ℕ → List ℕ → File → TreeChange
  MakesFile : ℕ → List ℕ → File → TreeChange
  -- a named stream is made: by this link, of this file, under this name
  MakesStream : ℕ → ℕ → List ℕ → TreeChange
  -- a link is added: in this directory, under this name, of this file
  AddsLink : ℕ → List ℕ → ℕ → TreeChange
  -- the link gets this directory, another or its own, and this name
  MovesLink : ℕ → ℕ → List ℕ → TreeChange
  -- the link is removed, and with a file's last link the file and its streams
  RemovesLink : ℕ → TreeChange
  -- by this link this stream is removed
  RemovesStream : ℕ → ℕ → TreeChange
  -- the link, or the stream, is marked for deletion, or the mark is cleared
  MarksLink : ℕ → Bool → TreeChange
  MarksStream : ℕ → Bool → TreeChange
  -- by this link, to this stream, at this place, these bytes are written
  Writes : ℕ → ℕ → ℕ → List ℕ → TreeChange
  -- by this link this stream has this length
  Resizes : ℕ → ℕ → ℕ → TreeChange
  -- by this link, of this file, this stream, a named one or not, is emptied; the file gets these attributes
  Overwrites : ℕ → ℕ → ℕ → Bool → ℕ → TreeChange
  -- by this link, of this file: times and attributes are set, as asked; the owner and the access list, as asked; a reparse point is
  -- set, or removed
  SetsBasics : ℕ → ℕ → Basics → TreeChange
  SetsSecurity : ℕ → ℕ → Option ℕ → DaclChange → TreeChange
  SetsPoint : ℕ → ℕ → Option (ℕ × List ℕ) → TreeChange
  -- the change time of this file is set to the clock
  SetsChangeTime : ℕ → TreeChange

-- under which filter a link's coming and going is noted
abbrev pub filter_of_name : Volume → ℕ → ℕ
filter_of_name v link =
    option_map_or (λ row. if is_directory v.files row.file then FILE_NOTIFY_CHANGE_DIR_NAME else FILE_NOTIFY_CHANGE_FILE_NAME) (row_of v.links link)
    FILE_NOTIFY_CHANGE_FILE_NAME

-- the link noted under its old name, moved, and noted under its new one, with these two actions
abbrev pub with_move : Volume → ℕ → ℕ → List ℕ → ℕ → ℕ → Volume
with_move v link dir name old new =
    with_change_noted (with_link_moved (with_change_noted v link old (filter_of_name v link) None) link dir name) link new (filter_of_name v link) None

-- other bytes noted: under these filters of the file for its default stream, and under these of a named stream
abbrev pub with_bytes_noted : Volume → ℕ → ℕ → Bool → ℕ → ℕ → Volume
with_bytes_noted v link stream named filters stream_filters =
    if named then with_change_noted v link FILE_ACTION_MODIFIED_STREAM stream_filters (Some stream)
    else with_change_noted v link FILE_ACTION_MODIFIED filters None

-- one filter, and with it a second one where the length changes
abbrev pub filters_where : Bool → ℕ → ℕ → ℕ
filters_where resized filter of_length = if resized then bit_or filter of_length else filter

-- bytes that are written, or a length that is set, noted: of a write and, where it changes the length, of a size
abbrev pub with_write_noted_of : Volume → ℕ → ℕ → Bool → Volume
with_write_noted_of v link stream resized =
    with_bytes_noted v link stream (is_named_stream v stream) (filters_where resized FILE_NOTIFY_CHANGE_LAST_WRITE FILE_NOTIFY_CHANGE_SIZE)
    (filters_where resized FILE_NOTIFY_CHANGE_STREAM_WRITE FILE_NOTIFY_CHANGE_STREAM_SIZE)

-- the file with the clock as its write and change time, and with these attributes
abbrev pub with_write_times : Volume → ℕ → ℕ → Volume
with_write_times v file attributes = with_basic v file (creation_time v file) (access_time v file) v.clock v.clock attributes

-- the file with ARCHIVE too
abbrev pub with_archive : Volume → ℕ → Volume
with_archive v file = with_write_times v file (bit_or (attributes_of v file) ARCHIVE)

-- and with the attributes that it has
abbrev pub with_same_attributes : Volume → ℕ → Volume
with_same_attributes v file = with_write_times v file (attributes_of v file)

-- the file with the clock as its change time
abbrev pub with_time_of_change : Volume → ℕ → Volume
with_time_of_change v file = with_basic v file (creation_time v file) (access_time v file) (write_time v file) v.clock (attributes_of v file)

-- the file with the owner and the access list that are asked for, and the clock as its change time
abbrev pub with_security_of : Volume → ℕ → Option ℕ → DaclChange → Volume
with_security_of v file owner dacl = with_time_of_change (with_dacl_asked (with_owner_asked v file owner) file dacl) file

-- the volume with this change made, and with what is noted of it, by the link that the change names.
-- A file, a directory or a link that comes: FILE_ACTION_ADDED. A link that goes: FILE_ACTION_REMOVED. A link that is renamed in its
-- directory: FILE_ACTION_RENAMED_OLD_NAME, and then FILE_ACTION_RENAMED_NEW_NAME. A link that goes to another directory:
-- FILE_ACTION_REMOVED, and then FILE_ACTION_ADDED. All these are under FILE_NOTIFY_CHANGE_DIR_NAME where the link is a directory's,
-- and else under FILE_NOTIFY_CHANGE_FILE_NAME.
-- A named stream that comes, or is removed by itself: FILE_ACTION_ADDED_STREAM or FILE_ACTION_REMOVED_STREAM, under
-- FILE_NOTIFY_CHANGE_STREAM_NAME. Streams that go with their file aren't noted besides.
-- A stream that is written, resized or overwritten: FILE_ACTION_MODIFIED under FILE_NOTIFY_CHANGE_LAST_WRITE for the default stream,
-- FILE_ACTION_MODIFIED_STREAM under FILE_NOTIFY_CHANGE_STREAM_WRITE for a named one; with FILE_NOTIFY_CHANGE_SIZE or
-- FILE_NOTIFY_CHANGE_STREAM_SIZE too where a write makes it longer, and always where it is resized or overwritten; and for an
-- overwritten default stream with FILE_NOTIFY_CHANGE_ATTRIBUTES too. The times and attributes that this sets aren't noted besides.
-- Times and attributes that are set by a request of their own: FILE_ACTION_MODIFIED under a filter for each that is asked for
-- (`basic_bits`). An owner or an access list that is asked for: the same under FILE_NOTIFY_CHANGE_SECURITY. A reparse point that is
-- set or removed: under FILE_NOTIFY_CHANGE_ATTRIBUTES.
-- A removal, an old name and bytes are noted before they change, all else after. Nothing is noted of the root, which has no link, of a
-- mark for deletion, or of a change time alone
abbrev pub with_tree_change : Volume → TreeChange → Volume
with_tree_change v (MakesDirectory dir name file) =
    with_change_noted (with_link (with_file v file) dir name (v.last_file + 1)) (v.last_link + 1) FILE_ACTION_ADDED FILE_NOTIFY_CHANGE_DIR_NAME None
with_tree_change v (MakesFile dir name file) =
    with_change_noted (with_stream (with_link (with_file v file) dir name (v.last_file + 1)) (v.last_file + 1) []) (v.last_link + 1) FILE_ACTION_ADDED FILE_NOTIFY_CHANGE_FILE_NAME None
with_tree_change v (MakesStream link file name) =
    with_change_noted (with_stream v file name) link FILE_ACTION_ADDED_STREAM FILE_NOTIFY_CHANGE_STREAM_NAME (Some (v.last_stream + 1))
with_tree_change v (AddsLink dir name file) =
    with_change_noted (with_link v dir name file) (v.last_link + 1) FILE_ACTION_ADDED FILE_NOTIFY_CHANGE_FILE_NAME None
with_tree_change v (MovesLink link dir name) =
    if not (parent_of v link == dir) then with_move v link dir name FILE_ACTION_REMOVED FILE_ACTION_ADDED
    else with_move v link dir name FILE_ACTION_RENAMED_OLD_NAME FILE_ACTION_RENAMED_NEW_NAME
with_tree_change v (RemovesLink link) = without_link (with_change_noted v link FILE_ACTION_REMOVED (filter_of_name v link) None) link
with_tree_change v (RemovesStream link stream) =
    without_stream (with_change_noted v link FILE_ACTION_REMOVED_STREAM FILE_NOTIFY_CHANGE_STREAM_NAME (Some stream)) stream
with_tree_change v (MarksLink link marked) = with_link_marked v link marked
with_tree_change v (MarksStream stream marked) = with_stream_marked v stream marked
with_tree_change v (Writes link stream at bytes) =
    with_archive (with_bytes (with_write_noted_of v link stream (nat_lt (length (bytes_of v stream)) (at + length bytes))) stream at bytes) (file_of_stream v stream)
with_tree_change v (Resizes link stream end) = with_same_attributes (with_length (with_write_noted_of v link stream true) stream end) (file_of_stream v stream)
with_tree_change v (Overwrites link file stream named attributes) =
    with_write_times
    (with_length
    (with_bytes_noted v link stream named (bit_or (bit_or FILE_NOTIFY_CHANGE_ATTRIBUTES FILE_NOTIFY_CHANGE_SIZE) FILE_NOTIFY_CHANGE_LAST_WRITE)
    (bit_or FILE_NOTIFY_CHANGE_STREAM_SIZE FILE_NOTIFY_CHANGE_STREAM_WRITE))
    stream 0)
    file attributes
with_tree_change v (SetsBasics link file basics) =
    if basic_bits basics == 0 then with_basics v file basics
    else with_change_noted (with_basics v file basics) link FILE_ACTION_MODIFIED (basic_bits basics) None
with_tree_change v (SetsSecurity link file owner dacl) =
    if asks_something owner dacl then with_change_noted (with_security_of v file owner dacl) link FILE_ACTION_MODIFIED FILE_NOTIFY_CHANGE_SECURITY None
    else with_security_of v file owner dacl
with_tree_change v (SetsPoint link file point) = with_change_noted (with_point v file point) link FILE_ACTION_MODIFIED FILE_NOTIFY_CHANGE_ATTRIBUTES None
with_tree_change v (SetsChangeTime file) = with_time_of_change v file

-- with these changes, one after the other
abbrev pub with_tree_changes : Volume → List TreeChange → Volume
with_tree_changes v changes = fold with_tree_change v changes

-- ---- those that an open makes

-- nothing has the last name: a directory is made where one is asked for, and else a file, and its named stream where the path
-- names one
abbrev pub stream_made : Volume → Asked → List TreeChange
stream_made v asked = if names_stream asked.path then MakesStream (v.last_link + 1) (v.last_file + 1) (stream_name asked.path) ∷ [] else []

abbrev pub made_under : Volume → Asked → ℕ → List ℕ → List TreeChange
made_under v asked dir name =
    if wants_directory asked then MakesDirectory dir name (new_file v asked true (kept_attributes asked.attributes)) ∷ []
    else MakesFile dir name (new_file v asked false (file_attributes asked.attributes)) ∷ stream_made v asked

-- something has the last name, but no such stream: the stream is made; where nothing has the last name, as above
abbrev pub made_in : Volume → Asked → ℕ → List ℕ → List TreeChange
made_in v asked dir name =
    option_map_or (λ link. MakesStream link (linked_file v link) (stream_name asked.path) ∷ []) (child_of v dir name) (made_under v asked dir name)

-- it has both: the stream is overwritten
abbrev pub overwritten_of : Volume → Asked → ℕ → List TreeChange
overwritten_of v asked link =
    option_map_or (λ stream. Overwrites link (linked_file v link) stream (names_stream asked.path) (file_attributes asked.attributes) ∷ [])
    (stream_of v (linked_file v link) (stream_name asked.path)) []

abbrev pub overwritten_in : Volume → Asked → ℕ → List ℕ → List TreeChange
overwritten_in v asked dir name = option_map_or (λ link. overwritten_of v asked link) (child_of v dir name) []

-- what the walk came to
abbrev pub where_reached : Asked → (ℕ → List ℕ → List TreeChange) → Walked → List TreeChange
where_reached asked changes (Reached dir) = changes dir (last_name (components asked.path))
where_reached asked changes _ = []

-- by the action that the open tells
abbrev pub changes_opening : Volume → Asked → Body → List TreeChange
changes_opening v asked (Opened action.Created) = where_reached asked (made_in v asked) (walk v (components asked.path))
changes_opening v asked (Opened action.Superseded) = where_reached asked (overwritten_in v asked) (walk v (components asked.path))
changes_opening v asked (Opened action.Overwritten) = where_reached asked (overwritten_in v asked) (walk v (components asked.path))
changes_opening v asked _ = []

-- ---- those that a close makes; the handle is out of the volume already

-- the stream of the handle, where it is a named one
abbrev pub named_stream_of : Volume → Handle → Option ℕ
named_stream_of v handle = option_and_then (λ stream. if is_named_stream v stream then Some stream else None) handle.stream

-- with DELETE_ON_CLOSE its named stream is marked or, where it has none, its link, unless that is the link of a directory with a link
-- in it
abbrev pub marks_on_close : Volume → Handle → List TreeChange
marks_on_close v handle =
    if not handle.delete_on_close then []
    else option_map_or (λ stream. MarksStream stream true ∷ []) (named_stream_of v handle)
    (if is_link_of_parent v handle.link then [] else MarksLink handle.link true ∷ [])

-- its stream is removed where it's marked and no handle is left on it, and then its link where that is marked and no handle is
-- left by it
abbrev pub removed_stream : Volume → ℕ → ℕ → List TreeChange
removed_stream v link stream = if is_marked v stream && not (has_row (is_open_on stream) v.handles) then RemovesStream link stream ∷ [] else []

abbrev pub removed_link : Volume → ℕ → List TreeChange
removed_link v link = if is_link_marked v link && not (has_row (is_open_by link) v.handles) then RemovesLink link ∷ [] else []

abbrev pub sweeps_stream : Volume → Handle → List TreeChange
sweeps_stream v handle = option_map_or (λ stream. removed_stream v handle.link stream) handle.stream []

abbrev pub sweeps : Volume → Handle → List TreeChange
sweeps v handle = sweeps_stream v handle ++ removed_link (with_tree_changes v (sweeps_stream v handle)) handle.link

abbrev pub changes_closing : Volume → Handle → List TreeChange
changes_closing v handle = marks_on_close v handle ++ sweeps (with_tree_changes v (marks_on_close v handle)) handle

-- of several handles, closed one after the other
abbrev pub changes_closing_all : Volume → List (ℕ × Handle) → List TreeChange
changes_closing_all v [] = []
changes_closing_all v (entry ∷ more) =
    changes_closing (without_handle v entry.0) entry.1
    ++ changes_closing_all (with_tree_changes (without_handle v entry.0) (changes_closing (without_handle v entry.0) entry.1)) more

-- ---- those of a new name

-- the link that has the new name is removed
abbrev pub removed_where : Option ℕ → List TreeChange
removed_where replaced = option_map_or (λ link. RemovesLink link ∷ []) replaced []

-- the link is in this directory under just this name, unit by unit
abbrev pub is_under : Volume → ℕ → ℕ → List ℕ → Bool
is_under v link dir name = option_map_or (λ row. row.parent == dir && pointwise nat_eq row.name name) (row_of v.links link) false

-- a name that is kept changes nothing
abbrev pub changes_renaming : Volume → Naming → Walked → List TreeChange
changes_renaming v naming (Reached dir) =
    if is_under v naming.link dir (new_name naming) then []
    else removed_where (replaced_link v naming dir) ++ MovesLink naming.link dir (new_name naming) ∷ SetsChangeTime naming.file ∷ []
changes_renaming v naming _ = []

-- a link that is the file's own already changes nothing
abbrev pub added_link : Naming → ℕ → List TreeChange
added_link naming dir = AddsLink dir (new_name naming) naming.file ∷ SetsChangeTime naming.file ∷ []

abbrev pub added_over : Volume → Naming → ℕ → ℕ → List TreeChange
added_over v naming dir replaced = if linked_file v replaced == naming.file then [] else RemovesLink replaced ∷ added_link naming dir

abbrev pub changes_linking : Volume → Naming → Walked → List TreeChange
changes_linking v naming (Reached dir) = option_map_or (λ replaced. added_over v naming dir replaced) (child_of v dir (new_name naming)) (added_link naming dir)
changes_linking v naming _ = []

-- ---- those of the other requests, by this handle

abbrev pub changes_marking : Volume → Handle → Bool → List TreeChange
changes_marking v handle delete = option_map_or (λ stream. MarksStream stream delete ∷ []) (named_stream_of v handle) (MarksLink handle.link delete ∷ [])

-- of no bytes nothing changes; without a place it is the end of the stream
abbrev pub changes_writing : Volume → Handle → Option ℕ → List ℕ → List TreeChange
changes_writing v handle at bytes =
    option_map_or (λ stream. if length bytes == 0 then [] else Writes handle.link stream (unwrap_or at (length (bytes_of v stream))) bytes ∷ []) handle.stream []

-- a length that is set as it was changes nothing
abbrev pub changes_resizing : Volume → Handle → ℕ → List TreeChange
changes_resizing v handle end = option_map_or (λ stream. if length (bytes_of v stream) == end then [] else Resizes handle.link stream end ∷ []) handle.stream []

-- of the file of the handle's link
abbrev pub of_file : Volume → Handle → (ℕ → List TreeChange) → List TreeChange
of_file v handle changes = option_map_or changes (file_of_link v.links handle.link) []

abbrev pub changes_with_point : Handle → List ℕ → ℕ → List TreeChange
changes_with_point handle bytes file = option_map_or (λ point. SetsPoint handle.link file (Some (point.0, point.1)) ∷ []) (read_reparse bytes) []

-- ---- those of a call

-- by the client's handle of this number
abbrev pub by_handle : Volume → ℕ → ℕ → (ℕ → Handle → List TreeChange) → List TreeChange
by_handle v client number changes = option_map_or (λ id. option_map_or (changes id) (row_of v.handles id) []) (handle_of v client number) []

-- what a client's call changes that asks this and is answered with this body
abbrev pub changes_asked : Volume → ℕ → ℕ → What → Body → List TreeChange
changes_asked v client number (Ask (request.Create path wanted share disposition options attributes key)) body =
    changes_opening v
    (record { client = client; number = number; path = path; wanted = wanted; share = share; disposition = disposition; options = options; attributes = attributes; key = key })
    body
changes_asked v client number (Ask (request.Close handle)) body = by_handle v client handle (λ id row. changes_closing (without_handle v id) row)
changes_asked v client number (Ask (request.Write handle at bytes)) body = by_handle v client handle (λ id row. changes_writing v row at bytes)
changes_asked v client number (Ask (request.SetEnd handle length)) body = by_handle v client handle (λ id row. changes_resizing v row length)
changes_asked v client number (Ask (request.SetDisposition handle delete)) body = by_handle v client handle (λ id row. changes_marking v row delete)
changes_asked v client number (Ask (request.Rename handle path replace)) body =
    by_handle v client handle (λ id row. changes_renaming v (naming_by v id row path replace) (walk v (components path)))
changes_asked v client number (Ask (request.Link handle path replace)) body =
    by_handle v client handle (λ id row. changes_linking v (naming_by v id row path replace) (walk v (components path)))
changes_asked v client number (Ask (request.SetBasic handle creation access write change attributes)) body =
    by_handle v client handle
    (λ id row. of_file v row
    (λ file. SetsBasics row.link file (record { creation = creation; access = access; write = write; change = change; attributes = attributes }) ∷ []))
changes_asked v client number (Ask (request.SetSecurity handle owner dacl)) body =
    by_handle v client handle (λ id row. of_file v row (λ file. SetsSecurity row.link file owner dacl ∷ []))
changes_asked v client number (Ask (request.SetReparse handle bytes)) body = by_handle v client handle (λ id row. of_file v row (changes_with_point row bytes))
changes_asked v client number (Ask (request.DeleteReparse handle tag)) body = by_handle v client handle (λ id row. of_file v row (λ file. SetsPoint row.link file None ∷ []))
changes_asked v client number Leave body = changes_closing_all v (handles_of_client v client)
changes_asked v client number _ body = []

-- a call makes them only where it ends SUCCESS
abbrev pub where_success : Status → List TreeChange → List TreeChange
where_success Success changes = changes
where_success _ changes = []

abbrev pub changes_of : Volume → ℕ → ℕ → What → Outcome → List TreeChange
changes_of v client number what (Done w reply) = where_success reply.status (changes_asked v client number what reply.body)
changes_of v client number what (Stay w interim) = []
changes_of v client number what (Hold w blockers interim) = []

-- ---- all tries of a history

-- the same case table; the same files, links and streams, and the same last numbers of these three; and the same notes
pub record SameTree (v w : Volume) : Type 0 where
  pub table : w.table ≡ v.table
  pub files : w.files ≡ v.files
  pub links : w.links ≡ v.links
  pub streams : w.streams ≡ v.streams
  pub last_file : w.last_file ≡ v.last_file
  pub last_link : w.last_link ≡ v.last_link
  pub last_stream : w.last_stream ≡ v.last_stream
  pub changes : w.changes ≡ v.changes

-- a try of a client's call of this number that asks this, and came to this, leaves files, links, streams and notes, and the case table,
-- as the changes of the call leave them
abbrev pub LeavesChanges : Volume → ℕ → ℕ → What → Outcome → Type 0
LeavesChanges v client number what outcome = SameTree (with_tree_changes v (changes_of v client number what outcome)) (volume_after outcome)

abbrev pub ChangesAsAsked : Tried → Type 0
ChangesAsAsked t = LeavesChanges t.before t.call.client t.call.number t.call.what (try t.before t.call t.turn)

-- these tries, one after another, lead from one volume to another; of the case table, of files, links and streams, their last numbers,
-- and notes nothing changes before the first of them, between two, or after the last
abbrev pub LeadTree : List Tried → Volume → Volume → Type 0
LeadTree [] v w = SameTree v w
LeadTree (t ∷ more) v w = SameTree v t.before × LeadTree more (left_by t) w

-- over this history
pub record TreeChangesAsAsked (setup : Setup) (history : List HistoryEntry) : Type 0 where
  pub tries : All ChangesAsAsked (tries_of setup history)
  pub between : (r : Run) → run setup history ≡ Some r → LeadTree (tries_of setup history) (begun setup).volume r.volume
