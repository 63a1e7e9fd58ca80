-- Renaming a file or a directory, after [MS-FSA] 'Server Requests Setting of File Information',
-- FileRenameInformation: its checks in order, each by its name, and what a new name changes.
use Rattle.std.specs.Prelude.{ℕ, Bool, false, ◌==◌, ◌&&◌, ◌||◌, not, nat_eq, List, Option, Some, None, is_some, option_and_then, if◌then◌else◌}
use Rattle.std.specs.Cmp.Lexicographic.{pointwise}
use Rattle.std.specs.Option.{option_map_or}
use Rattle.fsa_types.specs.Access.{has_any}
use Rattle.fsa_types.specs.Masks.{APPEND_DATA, DELETE, FILE_ACTION_ADDED, FILE_ACTION_REMOVED, FILE_ACTION_RENAMED_NEW_NAME, FILE_ACTION_RENAMED_OLD_NAME, WRITE_DATA}
use Rattle.fsa_types.specs.Paths.{components, rest_of}
use Rattle.fsa_types.specs.Rows.{row_of}
use Rattle.fsa_types.specs.declared.oplock.HandleSet.TheVariants as set
use Rattle.fsa_types.specs.declared.status.Status.TheVariants.{Success, InvalidHandle, InvalidParameter, AccessDenied, ObjectNameInvalid}
use Rattle.fsa_model.specs.Changes.{with_change_noted}
use Rattle.fsa_model.specs.Close.{name_bit, named_stream}
use Rattle.fsa_model.specs.Edits.{with_link_moved}
use Rattle.fsa_model.specs.Lookups.{child_of, handle_of, is_at_or_below, is_directory, is_link_marked, linked_file, parent_of}
use Rattle.fsa_model.specs.Open.{grants, stopped}
use Rattle.fsa_model.specs.Outcome.{Outcome, ends_with, refused}
use Rattle.fsa_model.specs.Replacement.{Naming, is_no_name, new_name, is_any_open, waits_to_name, held_to_name, with_name_breaks, replace_fault, with_replaced}
use Rattle.fsa_model.specs.Security.{with_change_time}
use Rattle.fsa_model.specs.Volume.{Handle, Volume}
use Rattle.fsa_model.specs.Walk.{Walked, Reached, Barred, Diverted, walk}

-- ---- what a new name changes

-- the link goes to another directory
abbrev pub is_elsewhere : Volume → Naming → ℕ → Bool
is_elsewhere v naming dir = not (parent_of v naming.link == dir)

-- the link has these units as its name
abbrev pub has_units : Volume → ℕ → List ℕ → Bool
has_units v link units = option_map_or (λ row. pointwise nat_eq row.name units) (row_of v.links link) false

-- the new name is the old one, unit by unit
abbrev pub keeps_name : Volume → Naming → ℕ → Bool
keeps_name v naming dir = not (is_elsewhere v naming dir) && has_units v naming.link (new_name naming)

-- the link of the new name, unless it is the one that is renamed
abbrev pub replaced_link : Volume → Naming → ℕ → Option ℕ
replaced_link v naming dir =
    option_and_then (λ link. if link == naming.link then None else Some link) (child_of v dir (new_name naming))

-- noted under its old name, moved, and noted under its new one, under FILE_NOTIFY_CHANGE_DIR_NAME or
-- FILE_NOTIFY_CHANGE_FILE_NAME with these two actions
abbrev pub with_move_noted : Volume → Naming → ℕ → ℕ → ℕ → Volume
with_move_noted v naming dir old new =
    with_change_noted
    (with_link_moved (with_change_noted v naming.link old (name_bit v naming.link) None) naming.link dir (new_name naming))
    naming.link new (name_bit v naming.link) None

-- in one directory FILE_ACTION_RENAMED_OLD_NAME and FILE_ACTION_RENAMED_NEW_NAME, from one to another
-- FILE_ACTION_REMOVED and FILE_ACTION_ADDED
abbrev pub with_link_renamed : Volume → Naming → ℕ → Volume
with_link_renamed v naming dir =
    if is_elsewhere v naming dir then with_move_noted v naming dir FILE_ACTION_REMOVED FILE_ACTION_ADDED
    else with_move_noted v naming dir FILE_ACTION_RENAMED_OLD_NAME FILE_ACTION_RENAMED_NEW_NAME

-- the link that is replaced goes first; the change time of the renamed file is the clock
abbrev pub with_renamed : Volume → Naming → ℕ → Option ℕ → Volume
with_renamed v naming dir replaced =
    with_change_time (with_link_renamed (with_replaced v replaced) naming dir) naming.file

-- ---- the checks

-- the handles of the link itself may stay open; where the name is kept nothing else changes
unfoldable pub rename_done : Volume → Naming → ℕ → Option ℕ → Outcome
rename_done v naming dir replaced =
    if keeps_name v naming dir then ends_with v Success else ends_with (with_renamed v naming dir replaced) Success

unfoldable pub rename_free : Volume → Naming → ℕ → Option ℕ → Outcome
rename_free v naming dir replaced =
    if waits_to_name v naming (set.Link naming.link) then held_to_name v naming (set.Link naming.link)
    else rename_done (with_name_breaks v naming (set.Link naming.link)) naming dir replaced

-- the link that is replaced must have no handle
unfoldable pub rename_over_closed : Volume → Naming → ℕ → ℕ → Outcome
rename_over_closed v naming dir replaced =
    if is_any_open v (set.Link replaced) then refused v AccessDenied else rename_free v naming dir (Some replaced)

-- once the breaks that the replacement waits for have ended
unfoldable pub rename_over_broken : Volume → Naming → ℕ → ℕ → Outcome
rename_over_broken v naming dir replaced =
    if waits_to_name v naming (set.Link replaced) then held_to_name v naming (set.Link replaced)
    else rename_over_closed (with_name_breaks v naming (set.Link replaced)) naming dir replaced

-- the new name is another link's
unfoldable pub rename_over : Volume → Naming → ℕ → ℕ → Outcome
rename_over v naming dir replaced =
    option_map_or (λ status. refused v status) (replace_fault v naming replaced) (rename_over_broken v naming dir replaced)

-- what another directory has to grant: ADD_SUBDIRECTORY, which is APPEND_DATA, for a directory, and ADD_FILE,
-- which is WRITE_DATA, for a file
abbrev pub entry_right : Volume → ℕ → ℕ
entry_right v file = if is_directory v.files file then APPEND_DATA else WRITE_DATA

abbrev pub lacks_entry_right : Volume → Naming → ℕ → Bool
lacks_entry_right v naming dir =
    is_elsewhere v naming dir && not (grants v dir naming.client (entry_right v naming.file))

-- the new name is looked up in this directory
unfoldable pub rename_named : Volume → Naming → ℕ → Outcome
rename_named v naming dir =
    if lacks_entry_right v naming dir then refused v AccessDenied
    else option_map_or (λ replaced. rename_over v naming dir replaced) (replaced_link v naming dir) (rename_free v naming dir None)

-- a directory is renamed when no handle below it is open
unfoldable pub rename_below_closed : Volume → Naming → ℕ → Outcome
rename_below_closed v naming dir =
    if is_any_open v (set.Below naming.file) then refused v AccessDenied else rename_named v naming dir

-- it doesn't go into itself; the oplocks below it are broken
unfoldable pub rename_directory : Volume → Naming → ℕ → Outcome
rename_directory v naming dir =
    if is_at_or_below v.links naming.file dir then refused v AccessDenied
    else if waits_to_name v naming (set.Below naming.file) then held_to_name v naming (set.Below naming.file)
    else rename_below_closed (with_name_breaks v naming (set.Below naming.file)) naming dir

-- a directory or a file goes to this directory
unfoldable pub rename_into : Volume → Naming → ℕ → Outcome
rename_into v naming dir =
    if is_directory v.files naming.file then rename_directory v naming dir else rename_named v naming dir

-- what the walk came to
unfoldable pub rename_walked : Volume → Naming → Walked → Outcome
rename_walked v naming (Reached dir) = rename_into v naming dir
rename_walked v naming (Barred status) = refused v status
rename_walked v naming (Diverted file next) = stopped v file (rest_of naming.path next)

-- DELETE is granted to the handle, its link isn't marked, and the path names what a link can name
unfoldable pub rename_link : Volume → Naming → ℕ → Outcome
rename_link v naming access =
    if not (has_any access DELETE) then refused v AccessDenied
    else if is_link_marked v naming.link then refused v AccessDenied
    else if is_no_name naming.path then refused v ObjectNameInvalid
    else rename_walked v naming (walk v (components naming.path))

-- what the handle asks for
abbrev pub naming_by : Volume → ℕ → Handle → List ℕ → Bool → Naming
naming_by v id handle path replace = record {
  client = handle.client;
  handle = id;
  key = handle.key;
  link = handle.link;
  file = linked_file v handle.link;
  path = path;
  replace = replace;
}

-- the root and a named stream have no name to change
unfoldable pub rename_by : Volume → ℕ → Handle → List ℕ → Bool → Outcome
rename_by v id handle path replace =
    if handle.link == 0 || is_some (named_stream v handle) then refused v InvalidParameter
    else rename_link v (naming_by v id handle path replace) handle.access

-- the handle of this number
unfoldable pub rename_at : Volume → ℕ → List ℕ → Bool → Outcome
rename_at v id path replace =
    option_map_or (λ handle. rename_by v id handle path replace) (row_of v.handles id) (refused v InvalidHandle)

-- one try of a rename
unfoldable pub try_rename : Volume → ℕ → ℕ → List ℕ → Bool → Outcome
try_rename v client handle path replace =
    option_map_or (λ id. rename_at v id path replace) (handle_of v client handle) (refused v InvalidHandle)
