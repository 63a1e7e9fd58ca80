-- A further link of a file, after [MS-FSA] 'Server Requests Setting of File Information',
-- FileLinkInformation: its checks in order, each by its name, and what a link changes.
use Rattle.std.specs.Prelude.{ℕ, Bool, ◌+◌, ◌==◌, not, nat_le, List, Option, Some, None, is_some, if◌then◌else◌}
use Rattle.std.specs.Option.{option_map_or}
use Rattle.fsa_types.specs.Masks.{FILE_ACTION_ADDED, FILE_NOTIFY_CHANGE_FILE_NAME, WRITE_DATA}
use Rattle.fsa_types.specs.Paths.{components, rest_of}
use Rattle.fsa_types.specs.Rows.{row_of}
use Rattle.fsa_types.specs.declared.oplock.HandleSet.TheVariants as set
use Rattle.fsa_types.specs.declared.status.Status.TheVariants.{Success, InvalidHandle, InvalidParameter, AccessDenied, ObjectNameInvalid, ObjectNameCollision, FileIsADirectory, TooManyLinks}
use Rattle.fsa_model.specs.Changes.{with_change_noted}
use Rattle.fsa_model.specs.Close.{named_stream}
use Rattle.fsa_model.specs.Edits.{with_link}
use Rattle.fsa_model.specs.Lookups.{child_of, handle_of, is_link_marked, linked_file, links_of}
use Rattle.fsa_model.specs.Open.{grants, stopped}
use Rattle.fsa_model.specs.Outcome.{Outcome, ends_with, refused}
use Rattle.fsa_model.specs.Rename.{naming_by}
use Rattle.fsa_model.specs.Replacement.{Naming, is_no_name, new_name, is_any_open, waits_to_name, held_to_name, with_name_breaks, replace_fault, with_replaced}
use Rattle.fsa_model.specs.Security.{with_change_time}
use Rattle.fsa_model.specs.Volume.{Handle, Volume}
use Rattle.fsa_model.specs.Walk.{Walked, Reached, Barred, Diverted, walk}

-- ---- what a link changes

-- the link added and noted: FILE_ACTION_ADDED, under FILE_NOTIFY_CHANGE_FILE_NAME
abbrev pub with_link_added : Volume → Naming → ℕ → Volume
with_link_added v naming dir =
    with_change_noted (with_link v dir (new_name naming) naming.file) (v.last_link + 1) FILE_ACTION_ADDED FILE_NOTIFY_CHANGE_FILE_NAME None

-- the link that is replaced goes first; the change time of the file is the clock
abbrev pub with_linked : Volume → Naming → ℕ → Option ℕ → Volume
with_linked v naming dir replaced = with_change_time (with_link_added (with_replaced v replaced) naming dir) naming.file

-- ---- the checks

-- the link that is replaced must have no handle
unfoldable pub link_over_closed : Volume → Naming → ℕ → ℕ → Outcome
link_over_closed v naming dir replaced =
    if is_any_open v (set.Link replaced) then refused v AccessDenied
    else ends_with (with_linked v naming dir (Some replaced)) Success

-- once the breaks that the replacement waits for have ended
unfoldable pub link_over_broken : Volume → Naming → ℕ → ℕ → Outcome
link_over_broken v naming dir replaced =
    if waits_to_name v naming (set.Link replaced) then held_to_name v naming (set.Link replaced)
    else link_over_closed (with_name_breaks v naming (set.Link replaced)) naming dir replaced

-- the new name is one of another file
unfoldable pub link_over_other : Volume → Naming → ℕ → ℕ → Outcome
link_over_other v naming dir replaced =
    option_map_or (λ status. refused v status) (replace_fault v naming replaced) (link_over_broken v naming dir replaced)

-- the new name is there; where it is one of the file itself, a replacement has nothing to do
unfoldable pub link_over : Volume → Naming → ℕ → ℕ → Outcome
link_over v naming dir replaced =
    if not (linked_file v replaced == naming.file) then link_over_other v naming dir replaced
    else if naming.replace then ends_with v Success
    else refused v ObjectNameCollision

-- the directory has to grant ADD_FILE, which is WRITE_DATA; the new name is looked up in it
unfoldable pub link_into : Volume → Naming → ℕ → Outcome
link_into v naming dir =
    if not (grants v dir naming.client WRITE_DATA) then refused v AccessDenied
    else option_map_or (λ replaced. link_over v naming dir replaced) (child_of v dir (new_name naming))
    (ends_with (with_linked v naming dir None) Success)

-- what the walk came to
unfoldable pub link_walked : Volume → Naming → Walked → Outcome
link_walked v naming (Reached dir) = link_into v naming dir
link_walked v naming (Barred status) = refused v status
link_walked v naming (Diverted file next) = stopped v file (rest_of naming.path next)

-- as many links as a file can have, marked ones counted
abbrev pub most_links : ℕ
most_links = 1024

abbrev pub has_all_links : Volume → ℕ → Bool
has_all_links v file = nat_le most_links (links_of v file).1

-- the handle's link isn't marked, the file can have one link more, and the path names what a link can name
unfoldable pub link_file : Volume → Naming → Outcome
link_file v naming =
    if is_link_marked v naming.link then refused v AccessDenied
    else if has_all_links v naming.file then refused v TooManyLinks
    else if is_no_name naming.path then refused v ObjectNameInvalid
    else link_walked v naming (walk v (components naming.path))

-- a directory, which has no stream, has one link; a named stream has none of its own
unfoldable pub link_by : Volume → ℕ → Handle → List ℕ → Bool → Outcome
link_by v id handle path replace =
    if not (is_some handle.stream) then refused v FileIsADirectory
    else if is_some (named_stream v handle) then refused v InvalidParameter
    else link_file v (naming_by v id handle path replace)

-- the handle of this number
unfoldable pub link_at : Volume → ℕ → List ℕ → Bool → Outcome
link_at v id path replace =
    option_map_or (λ handle. link_by v id handle path replace) (row_of v.handles id) (refused v InvalidHandle)

-- one try of a link
unfoldable pub try_link : Volume → ℕ → ℕ → List ℕ → Bool → Outcome
try_link v client handle path replace =
    option_map_or (λ id. link_at v id path replace) (handle_of v client handle) (refused v InvalidHandle)
