-- A new name for a file, which a rename and a link ask for: what is asked, the directory that it goes to,
-- and the link of that name that is there already, which is replaced, after [MS-FSA] 'Server Requests
-- Setting of File Information', FileRenameInformation and FileLinkInformation.
use Rattle.std.specs.Prelude.{ℕ, Bool, ◌==◌, ◌||◌, not, List, length, Option, Some, None, is_some, if◌then◌else◌}
use Rattle.std.specs.Option.{option_map_or}
use Rattle.fsa_types.specs.Masks.{DELETE, FILE_ACTION_REMOVED}
use Rattle.fsa_types.specs.Paths.{path_fault, components}
use Rattle.fsa_types.specs.declared.oplock.Class.TheVariants.{NameChange}
use Rattle.fsa_types.specs.declared.oplock.HandleSet.{HandleSet}
use Rattle.fsa_types.specs.declared.status.Status.{Status}
use Rattle.fsa_types.specs.declared.status.Status.TheVariants.{AccessDenied, DeletePending, ObjectNameCollision}
use Rattle.fsa_model.specs.Breaks.{with_breaks}
use Rattle.fsa_model.specs.Changes.{with_change_noted}
use Rattle.fsa_model.specs.Close.{name_bit}
use Rattle.fsa_model.specs.Edits.{without_link}
use Rattle.fsa_model.specs.Lookups.{has_row, is_directory, is_link_marked, is_on, linked_file}
use Rattle.fsa_model.specs.Open.{grants, has_stream_part, is_readonly}
use Rattle.fsa_model.specs.Outcome.{Outcome}
use Rattle.fsa_model.specs.Volume.{Volume}
use Rattle.fsa_model.specs.Waits.{waits_for, held_by}
use Rattle.fsa_model.specs.Walk.{last_name}

-- ---- what is asked for

-- who asks, by which handle, of which key; the link by which the handle was opened, and its file; the path of
-- the new name; and whether a file that is there already is replaced
pub record Naming : Type 0 where
  pub client : ℕ
  pub handle : ℕ
  pub key : ℕ
  pub link : ℕ
  pub file : ℕ
  pub path : List ℕ
  pub replace : Bool

-- a path that is no name for a file or a directory: one with a fault, the root's, or one with a stream part
abbrev pub is_no_name : List ℕ → Bool
is_no_name path = is_some (path_fault path) || length (components path) == 0 || has_stream_part path

-- the name in the new directory
abbrev pub new_name : Naming → List ℕ
new_name naming = last_name (components naming.path)

-- ---- what is there

-- some handle of the set is open
abbrev pub is_any_open : Volume → HandleSet → Bool
is_any_open v on = has_row (is_on v on) v.handles

-- ---- breaks

-- a change of name waits for oplocks of these handles to be broken; it is held until they are; and they are broken
abbrev pub waits_to_name : Volume → Naming → HandleSet → Bool
waits_to_name v naming on = waits_for v on NameChange (Some naming.handle) naming.key

abbrev pub held_to_name : Volume → Naming → HandleSet → Outcome
held_to_name v naming on = held_by v on NameChange (Some naming.handle) naming.key

abbrev pub with_name_breaks : Volume → Naming → HandleSet → Volume
with_name_breaks v naming on = with_breaks v on NameChange (Some naming.handle) naming.key

-- ---- the link that is replaced

-- why the link of the new name isn't replaced, whatever handles it has: it is marked, or no leave is given; a
-- directory is neither replaced nor put in another's place; and the client may delete the file
abbrev pub replace_fault : Volume → Naming → ℕ → Option Status
replace_fault v naming replaced =
    if is_link_marked v replaced then Some DeletePending
    else if not naming.replace then Some ObjectNameCollision
    else if is_directory v.files (linked_file v replaced) then Some AccessDenied
    else if is_directory v.files naming.file then Some AccessDenied
    else if is_readonly v (linked_file v replaced) then Some AccessDenied
    else if not (grants v (linked_file v replaced) naming.client DELETE) then Some AccessDenied
    else None

-- it is noted and removed, and with its last link its file and the file's streams: FILE_ACTION_REMOVED, under
-- FILE_NOTIFY_CHANGE_FILE_NAME
abbrev pub with_link_replaced : Volume → ℕ → Volume
with_link_replaced v replaced = without_link (with_change_noted v replaced FILE_ACTION_REMOVED (name_bit v replaced) None) replaced

abbrev pub with_replaced : Volume → Option ℕ → Volume
with_replaced v replaced = option_map_or (λ link. with_link_replaced v link) replaced v
