-- The open of a file, after [MS-FSA] 'Server Requests an Open of a File': its checks in order, each by
-- its name, and what an open changes.
use Rattle.std.specs.Prelude.{ℕ, ◌+◌, ◌==◌, ◌&&◌, ◌||◌, not, Bool, true, false, List, [], ◌∷◌, length, Option, Some, None, is_some, if◌then◌else◌, unwrap_or, slice_get}
use Rattle.std.specs.Option.{option_map_or}
use Rattle.std.specs.Int.RustNames.{bit_and, bit_or}
use Rattle.fsa_types.specs.Access.{has_any, has_other, denied, map_generic}
use Rattle.fsa_types.specs.Masks.{APPEND_DATA, ARCHIVE, COMPLETE_IF_OPLOCKED, DELETE, DELETE_ON_CLOSE, DIRECTORY_FILE, FILE_ACTION_ADDED, FILE_ACTION_ADDED_STREAM, FILE_ACTION_MODIFIED, FILE_ACTION_MODIFIED_STREAM, FILE_NOTIFY_CHANGE_ATTRIBUTES, FILE_NOTIFY_CHANGE_DIR_NAME, FILE_NOTIFY_CHANGE_FILE_NAME, FILE_NOTIFY_CHANGE_LAST_WRITE, FILE_NOTIFY_CHANGE_SIZE, FILE_NOTIFY_CHANGE_STREAM_NAME, FILE_NOTIFY_CHANGE_STREAM_SIZE, FILE_NOTIFY_CHANGE_STREAM_WRITE, HIDDEN, IO_REPARSE_TAG_SYMLINK, NON_DIRECTORY_FILE, OPEN_REPARSE_POINT, READONLY, READ_ATTRIBUTES, SYNCHRONIZE, SYSTEM, WRITE_ATTRIBUTES, WRITE_DATA, bits_of, known_attributes, known_options, known_rights, known_shares}
use Rattle.fsa_types.specs.Paths.{path_fault, components, rest_of}
use Rattle.fsa_types.specs.Paths as path
use Rattle.fsa_types.specs.Rows.{row_of}
use Rattle.fsa_types.specs.declared.oplock.Class.{Class}
use Rattle.fsa_types.specs.declared.oplock.Class.TheVariants.{Clash, Change, ReadOpen}
use Rattle.fsa_types.specs.declared.oplock.HandleSet.{HandleSet}
use Rattle.fsa_types.specs.declared.oplock.HandleSet.TheVariants as set
use Rattle.fsa_types.specs.declared.request.Disposition.{Disposition}
use Rattle.fsa_types.specs.declared.request.Disposition.TheVariants.{Supersede, OpenExisting, CreateNew, Overwrite, OverwriteIf}
use Rattle.fsa_types.specs.declared.reply.Action.{Action}
use Rattle.fsa_types.specs.declared.reply.Action.TheVariants as action
use Rattle.fsa_types.specs.declared.reply.Body.TheVariants.{Opened, Stopped}
use Rattle.fsa_types.specs.declared.status.Status.{Status}
use Rattle.fsa_types.specs.declared.status.Status.TheVariants.{Success, Reparse, StoppedOnSymlink, OplockBreakInProgress, ObjectPathNotFound, InvalidParameter, AccessDenied, ObjectNameInvalid, ObjectNameNotFound, ObjectNameCollision, SharingViolation, DeletePending, CannotDelete, NotADirectory, FileIsADirectory}
use Rattle.fsa_model.specs.Volume.{File, Volume}
use Rattle.fsa_model.specs.Edits.{with_file, with_link, with_stream, with_handle, with_length, with_basic}
use Rattle.fsa_model.specs.Lookups.{access_time, attributes_of, child_of, clashes_on, creation_time, is_directory, is_marked, sids_of, stream_of}
use Rattle.fsa_model.specs.Breaks.{with_breaks}
use Rattle.fsa_model.specs.Changes.{with_change_noted}
use Rattle.fsa_model.specs.Outcome.{Outcome, Done, refused}
use Rattle.fsa_model.specs.Waits.{waits_for, held_by}
use Rattle.fsa_model.specs.Walk.{Walked, Reached, Barred, Diverted, point_of, walk, last_name}

-- ---- what is asked for

-- who asks and by which call; the path; the rights wanted and what is shared; how; and the key
pub record Asked : Type 0 where
  pub client : ℕ
  pub number : ℕ
  pub path : List ℕ
  pub wanted : ℕ
  pub share : ℕ
  pub disposition : Disposition
  pub options : ℕ
  pub attributes : ℕ
  pub key : ℕ

-- the options that have an effect
abbrev pub wants_directory : Asked → Bool
wants_directory asked = has_any asked.options DIRECTORY_FILE

abbrev pub wants_file : Asked → Bool
wants_file asked = has_any asked.options NON_DIRECTORY_FILE

abbrev pub completes_if_oplocked : Asked → Bool
completes_if_oplocked asked = has_any asked.options COMPLETE_IF_OPLOCKED

abbrev pub deletes_on_close : Asked → Bool
deletes_on_close asked = has_any asked.options DELETE_ON_CLOSE

abbrev pub opens_point : Asked → Bool
opens_point asked = has_any asked.options OPEN_REPARSE_POINT

-- what is there is overwritten
abbrev pub overwrites : Disposition → Bool
overwrites Supersede = true
overwrites Overwrite = true
overwrites OverwriteIf = true
overwrites _ = false

-- what is missing isn't made
abbrev pub only_opens : Disposition → Bool
only_opens OpenExisting = true
only_opens Overwrite = true
only_opens _ = false

-- what is there isn't opened
abbrev pub only_makes : Disposition → Bool
only_makes CreateNew = true
only_makes _ = false

-- the rights that are wanted, generic ones replaced by what they stand for; the open is granted these and no other
abbrev pub access_of : Asked → ℕ
access_of asked = map_generic asked.wanted

-- a mask with a bit that it can't have, or options that exclude each other or the disposition
abbrev pub is_invalid : Asked → Bool
is_invalid asked =
    has_other asked.share known_shares
    || has_other asked.options known_options
    || has_other asked.attributes known_attributes
    || (wants_directory asked && wants_file asked)
    || (wants_directory asked && overwrites asked.disposition)

-- no right is wanted, or one that there isn't
abbrev pub wants_no_right : Asked → Bool
wants_no_right asked = asked.wanted == 0 || has_other asked.wanted known_rights

-- DELETE_ON_CLOSE without DELETE, which GENERIC_ALL has in it
abbrev pub lacks_delete : Asked → Bool
lacks_delete asked = deletes_on_close asked && not (has_any (access_of asked) DELETE)

-- a path has a stream part, which may be `::$DATA`; the name of its stream, empty for the default stream
-- and without a stream part; it names a stream that isn't the default stream
abbrev pub has_stream_part : List ℕ → Bool
has_stream_part units = is_some (path.stream_part units)

abbrev pub stream_name : List ℕ → List ℕ
stream_name units = unwrap_or (path.stream_part units) []

abbrev pub names_stream : List ℕ → Bool
names_stream units = not (length (stream_name units) == 0)

-- ---- what is there

-- the client's first SID owns what the client makes
abbrev pub first_sid : Volume → ℕ → ℕ
first_sid v client = unwrap_or (slice_get (sids_of v client) 0) 0

-- the access check of a file grants the client these rights
abbrev pub grants : Volume → ℕ → ℕ → ℕ → Bool
grants v file client rights =
    option_map_or (λ row. not (denied row.dacl row.owner (sids_of v client) rights)) (row_of v.files file) false

-- a file may not be written
abbrev pub is_readonly : Volume → ℕ → Bool
is_readonly v file = has_any (attributes_of v file) READONLY

-- HIDDEN or SYSTEM, and a request without that attribute
abbrev pub uncovers : ℕ → ℕ → Bool
uncovers kept asked = (has_any kept HIDDEN && not (has_any asked HIDDEN)) || (has_any kept SYSTEM && not (has_any asked SYSTEM))

-- ---- how it ends

-- how a reparse point of this tag stops an open: as a symbolic link, or as another
abbrev pub stop_status : ℕ → Status
stop_status tag = if tag == IO_REPARSE_TAG_SYMLINK then StoppedOnSymlink else Reparse

-- the reparse point of the file stops the open: its tag and bytes, and these units, which are left of the path
unfoldable pub stopped : Volume → ℕ → List ℕ → Outcome
stopped v file rest =
    option_map_or (λ point. Done v (record { status = stop_status point.0; body = Stopped point.0 point.1 rest })) (point_of v file)
    (refused v ObjectPathNotFound)

-- a handle more, opened by this link, 0 for the root, on this stream, none for a directory
abbrev pub with_open : Volume → Asked → ℕ → Option ℕ → Volume
with_open v asked link stream = with_handle v (record {
  client = asked.client;
  number = asked.number;
  link = link;
  stream = stream;
  access = access_of asked;
  share = asked.share;
  key = asked.key;
  delete_on_close = deletes_on_close asked;
  enumeration = None;
})

-- the open ends with this status and action, and leaves this volume
abbrev pub opens : Volume → Status → Action → Outcome
opens v status action = Done v (record { status = status; body = Opened action })

abbrev pub opened : Volume → Asked → ℕ → Option ℕ → Status → Action → Outcome
opened v asked link stream status action = opens (with_open v asked link stream) status action

-- oplocks of these handles and of other keys are broken by this class, and the call is held until the
-- breaks that it waits for have ended
abbrev pub held : Volume → HandleSet → Class → ℕ → Outcome
held v on class key = held_by v on class None key

-- it waits for some break of this class
abbrev pub open_waits : Volume → HandleSet → Class → ℕ → Bool
open_waits v on class key = waits_for v on class None key

-- ---- the last name is missing

-- what is made: of the client's first SID, with these attributes, no access list, and the clock as all times
abbrev pub new_file : Volume → Asked → Bool → ℕ → File
new_file v asked directory attributes = record {
  directory = directory;
  attributes = attributes;
  creation = v.clock;
  access = v.clock;
  write = v.clock;
  change = v.clock;
  owner = first_sid v asked.client;
  dacl = None;
  point = None;
}

-- those that are kept of the attributes asked for
abbrev pub kept_attributes : ℕ → ℕ
kept_attributes attributes = bit_and attributes (bits_of (READONLY ∷ HIDDEN ∷ SYSTEM ∷ ARCHIVE ∷ []))

-- a file has ARCHIVE
abbrev pub file_attributes : ℕ → ℕ
file_attributes attributes = bit_or (kept_attributes attributes) ARCHIVE

-- the directory made, with its link
abbrev pub with_directory_made : Volume → Asked → ℕ → List ℕ → Volume
with_directory_made v asked dir name =
    with_link (with_file v (new_file v asked true (kept_attributes asked.attributes))) dir name (v.last_file + 1)

-- the file made, with its link and its default stream
abbrev pub with_file_made : Volume → Asked → ℕ → List ℕ → Volume
with_file_made v asked dir name =
    with_stream (with_link (with_file v (new_file v asked false (file_attributes asked.attributes))) dir name (v.last_file + 1)) (v.last_file + 1) []

-- it is opened, and noted: FILE_ACTION_ADDED, under FILE_NOTIFY_CHANGE_DIR_NAME or FILE_NOTIFY_CHANGE_FILE_NAME
abbrev pub with_new_directory : Volume → Asked → ℕ → List ℕ → Volume
with_new_directory v asked dir name =
    with_change_noted (with_open (with_directory_made v asked dir name) asked (v.last_link + 1) None) (v.last_link + 1) FILE_ACTION_ADDED FILE_NOTIFY_CHANGE_DIR_NAME None

abbrev pub with_new_file : Volume → Asked → ℕ → List ℕ → Volume
with_new_file v asked dir name =
    with_change_noted (with_open (with_file_made v asked dir name) asked (v.last_link + 1) (Some (v.last_stream + 1))) (v.last_link + 1) FILE_ACTION_ADDED FILE_NOTIFY_CHANGE_FILE_NAME None

-- a file with a named stream, which is opened; the file is noted, and then the stream:
-- FILE_ACTION_ADDED_STREAM, under FILE_NOTIFY_CHANGE_STREAM_NAME
abbrev pub with_new_file_and_stream : Volume → Asked → ℕ → List ℕ → Volume
with_new_file_and_stream v asked dir name =
    with_change_noted
    (with_change_noted
    (with_open (with_stream (with_file_made v asked dir name) (v.last_file + 1) (stream_name asked.path)) asked (v.last_link + 1) (Some (v.last_stream + 2)))
    (v.last_link + 1) FILE_ACTION_ADDED FILE_NOTIFY_CHANGE_FILE_NAME None)
    (v.last_link + 1) FILE_ACTION_ADDED_STREAM FILE_NOTIFY_CHANGE_STREAM_NAME (Some (v.last_stream + 2))

-- a named stream of a file made, opened by this link, and noted
abbrev pub with_new_stream : Volume → Asked → ℕ → ℕ → Volume
with_new_stream v asked link file =
    with_change_noted (with_open (with_stream v file (stream_name asked.path)) asked link (Some (v.last_stream + 1)))
    link FILE_ACTION_ADDED_STREAM FILE_NOTIFY_CHANGE_STREAM_NAME (Some (v.last_stream + 1))

-- it ends so
unfoldable pub make_directory : Volume → Asked → ℕ → List ℕ → Outcome
make_directory v asked dir name = opens (with_new_directory v asked dir name) Success action.Created

unfoldable pub make_file : Volume → Asked → ℕ → List ℕ → Outcome
make_file v asked dir name =
    if names_stream asked.path then opens (with_new_file_and_stream v asked dir name) Success action.Created
    else opens (with_new_file v asked dir name) Success action.Created

-- what the parent has to grant: ADD_SUBDIRECTORY, which is APPEND_DATA, for a directory, and ADD_FILE,
-- which is WRITE_DATA, for a file
abbrev pub parent_right : Asked → ℕ
parent_right asked = if wants_directory asked then APPEND_DATA else WRITE_DATA

-- nothing has the last name
unfoldable pub create_missing : Volume → Asked → ℕ → List ℕ → Outcome
create_missing v asked dir name =
    if only_opens asked.disposition then refused v ObjectNameNotFound
    else if deletes_on_close asked && has_any asked.attributes READONLY then refused v CannotDelete
    else if not (grants v dir asked.client (parent_right asked)) then refused v AccessDenied
    else if wants_directory asked then make_directory v asked dir name
    else make_file v asked dir name

-- ---- it is there

-- the open clashes with a handle: it is held where it waits for breaks, and else refused
unfoldable pub clashed : Volume → HandleSet → ℕ → Outcome
clashed v on key =
    if open_waits v on Clash key then held v on Clash key else refused (with_breaks v on Clash None key) SharingViolation

-- the rights to a file's attributes alone: an open that wants no more and overwrites nothing breaks no oplock
abbrev pub attribute_rights : ℕ
attribute_rights = bits_of (READ_ATTRIBUTES ∷ WRITE_ATTRIBUTES ∷ SYNCHRONIZE ∷ [])

-- more than these is wanted
abbrev pub wants_more : Asked → Bool
wants_more asked = has_other (access_of asked) attribute_rights

-- it is opened as it is; where more is wanted, once the breaks that this waits for have ended, or beside
-- them with COMPLETE_IF_OPLOCKED
unfoldable pub open_existing : Volume → Asked → ℕ → Option ℕ → HandleSet → Outcome
open_existing v asked link stream on =
    if not (wants_more asked) then opened v asked link stream Success action.Opened
    else if not (open_waits v on ReadOpen asked.key) then opened (with_breaks v on ReadOpen None asked.key) asked link stream Success action.Opened
    else if completes_if_oplocked asked then opened (with_breaks v on ReadOpen None asked.key) asked link stream OplockBreakInProgress action.Opened
    else held v on ReadOpen asked.key

-- a file that is overwritten: these attributes in place of the old ones, write and change time the clock
abbrev pub with_file_overwritten : Volume → ℕ → ℕ → Volume
with_file_overwritten v file attributes = with_basic v file (creation_time v file) (access_time v file) v.clock v.clock attributes

-- the filters of an overwrite, of the default stream and of a named one
abbrev pub overwrite_filters : ℕ
overwrite_filters = bit_or (bit_or FILE_NOTIFY_CHANGE_ATTRIBUTES FILE_NOTIFY_CHANGE_SIZE) FILE_NOTIFY_CHANGE_LAST_WRITE

abbrev pub stream_overwrite_filters : ℕ
stream_overwrite_filters = bit_or FILE_NOTIFY_CHANGE_STREAM_SIZE FILE_NOTIFY_CHANGE_STREAM_WRITE

-- the overwrite noted: of the file for its default stream, and of a named stream
abbrev pub with_overwrite_noted : Volume → ℕ → ℕ → Bool → Volume
with_overwrite_noted v link stream named =
    if named then with_change_noted v link FILE_ACTION_MODIFIED_STREAM stream_overwrite_filters (Some stream)
    else with_change_noted v link FILE_ACTION_MODIFIED overwrite_filters None

-- the stream noted and without bytes, and its file overwritten
abbrev pub with_overwritten : Volume → Asked → ℕ → ℕ → ℕ → Volume
with_overwritten v asked link file stream =
    with_file_overwritten (with_length (with_overwrite_noted v link stream (names_stream asked.path)) stream 0)
    file (file_attributes asked.attributes)

abbrev pub overwrite_action : Disposition → Action
overwrite_action Supersede = action.Superseded
overwrite_action _ = action.Overwritten

-- it is overwritten and opened, once the breaks that this waits for have ended
unfoldable pub overwrite_existing : Volume → Asked → ℕ → ℕ → ℕ → Outcome
overwrite_existing v asked link file stream =
    if open_waits v (set.Stream stream) Change asked.key then held v (set.Stream stream) Change asked.key
    else opens
    (with_overwritten (with_open (with_breaks v (set.Stream stream) Change None asked.key) asked link (Some stream)) asked link file stream)
    Success (overwrite_action asked.disposition)

-- a directory that may be opened so, unless it clashes with a handle
unfoldable pub open_granted : Volume → Asked → ℕ → Outcome
open_granted v asked link =
    if clashes_on v (set.Link link) (access_of asked) asked.share then clashed v (set.Link link) asked.key
    else open_existing v asked link None (set.Link link)

-- a directory is opened by this link
unfoldable pub open_directory : Volume → Asked → ℕ → ℕ → Outcome
open_directory v asked link file =
    if not (grants v file asked.client (access_of asked)) then refused v AccessDenied
    else if deletes_on_close asked && (link == 0 || is_readonly v file) then refused v CannotDelete
    else open_granted v asked link

-- the right to what a disposition does to a stream that is there: DELETE, or WRITE_DATA
abbrev pub replacing_right : Disposition → ℕ
replacing_right Supersede = DELETE
replacing_right Overwrite = WRITE_DATA
replacing_right OverwriteIf = WRITE_DATA
replacing_right _ = 0

-- a stream that may be opened so, unless it clashes with a handle
unfoldable pub open_stream : Volume → Asked → ℕ → ℕ → ℕ → Outcome
open_stream v asked link file stream =
    if clashes_on v (set.Stream stream) (access_of asked) asked.share then clashed v (set.Stream stream) asked.key
    else if overwrites asked.disposition then overwrite_existing v asked link file stream
    else open_existing v asked link (Some stream) (set.Stream stream)

-- a stream that is there
unfoldable pub create_on_stream : Volume → Asked → ℕ → ℕ → ℕ → Outcome
create_on_stream v asked link file stream =
    if names_stream asked.path && is_marked v stream then refused v DeletePending
    else if names_stream asked.path && only_makes asked.disposition then refused v ObjectNameCollision
    else if not (grants v file asked.client (bit_or (access_of asked) (replacing_right asked.disposition))) then refused v AccessDenied
    else if is_readonly v file && (has_any (access_of asked) (bit_or WRITE_DATA APPEND_DATA) || overwrites asked.disposition) then refused v AccessDenied
    else if is_readonly v file && deletes_on_close asked then refused v CannotDelete
    else if overwrites asked.disposition && uncovers (attributes_of v file) asked.attributes then refused v AccessDenied
    else open_stream v asked link file stream

-- a stream that is missing: only a named stream can be, and it is made
unfoldable pub create_stream : Volume → Asked → ℕ → ℕ → Outcome
create_stream v asked link file =
    if only_opens asked.disposition then refused v ObjectNameNotFound
    else if not (grants v file asked.client (bit_or (access_of asked) WRITE_DATA)) then refused v AccessDenied
    else if is_readonly v file then refused v AccessDenied
    else opens (with_new_stream v asked link file) Success action.Created

-- a file that is there: its stream of the name asked for
unfoldable pub create_in_file : Volume → Asked → ℕ → ℕ → Outcome
create_in_file v asked link file =
    option_map_or (λ stream. create_on_stream v asked link file stream) (stream_of v file (stream_name asked.path))
    (create_stream v asked link file)

-- a directory is asked for and it isn't one; what can be asked of a file alone is asked
abbrev pub is_other_kind : Asked → Bool → Bool
is_other_kind asked directory = wants_directory asked && not directory

abbrev pub asks_for_file : Asked → Bool
asks_for_file asked = wants_file asked || has_stream_part asked.path || overwrites asked.disposition

-- a file or a directory that is there and isn't stopped at
unfoldable pub create_there : Volume → Asked → ℕ → ℕ → Outcome
create_there v asked link file =
    if only_makes asked.disposition && not (names_stream asked.path) then refused v ObjectNameCollision
    else if is_other_kind asked (is_directory v.files file) then refused v NotADirectory
    else if is_directory v.files file && asks_for_file asked then refused v FileIsADirectory
    else if is_directory v.files file then open_directory v asked link file
    else create_in_file v asked link file

-- the file of the last name; a reparse point stops the open, unless the point itself is opened
unfoldable pub create_found : Volume → Asked → ℕ → ℕ → Outcome
create_found v asked link file =
    if is_some (point_of v file) && not (opens_point asked) then stopped v file []
    else create_there v asked link file

-- ---- the last name, and the path

-- the link of the last name
unfoldable pub create_by_link : Volume → Asked → ℕ → Outcome
create_by_link v asked link =
    option_map_or (λ row. if row.deleted then refused v DeletePending else create_found v asked link row.file) (row_of v.links link)
    (refused v ObjectNameNotFound)

-- the last name is looked up in this directory
unfoldable pub create_named : Volume → Asked → ℕ → List ℕ → Outcome
create_named v asked dir name =
    option_map_or (λ link. create_by_link v asked link) (child_of v dir name) (create_missing v asked dir name)

-- what the walk came to; the root is file 1, has no name, and is opened by link 0
unfoldable pub create_walked : Volume → Asked → Walked → Outcome
create_walked v asked (Reached dir) =
    if length (components asked.path) == 0 then create_found v asked 0 1
    else create_named v asked dir (last_name (components asked.path))
create_walked v asked (Barred status) = refused v status
create_walked v asked (Diverted file next) = stopped v file (rest_of asked.path next)

-- a path without a fault
unfoldable pub create_at : Volume → Asked → Outcome
create_at v asked =
    if has_stream_part asked.path && wants_directory asked then refused v NotADirectory
    else create_walked v asked (walk v (components asked.path))

-- one try of an open
unfoldable pub try_create : Volume → Asked → Outcome
try_create v asked =
    if is_invalid asked then refused v InvalidParameter
    else if wants_no_right asked then refused v AccessDenied
    else if lacks_delete asked then refused v InvalidParameter
    else if is_some (path_fault asked.path) then refused v ObjectNameInvalid
    else create_at v asked
