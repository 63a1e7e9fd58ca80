-- Marking a file for deletion, after [MS-FSA] 'Server Requests Setting of File Information',
-- FileDispositionInformation: its checks in order, each by its name. What is marked goes with its last handle.
use Rattle.std.specs.Prelude.{ℕ, Bool, true, false, ◌==◌, ◌||◌, not, Some, if◌then◌else◌}
use Rattle.std.specs.Option.{option_map_or}
use Rattle.fsa_types.specs.Access.{has_any}
use Rattle.fsa_types.specs.Masks.{DELETE}
use Rattle.fsa_types.specs.Rows.{row_of}
use Rattle.fsa_types.specs.declared.oplock.Class.TheVariants.{NameChange}
use Rattle.fsa_types.specs.declared.oplock.HandleSet.{HandleSet}
use Rattle.fsa_types.specs.declared.oplock.HandleSet.TheVariants as set
use Rattle.fsa_types.specs.declared.status.Status.TheVariants.{Success, InvalidHandle, AccessDenied, CannotDelete, DirectoryNotEmpty}
use Rattle.fsa_model.specs.Breaks.{with_breaks}
use Rattle.fsa_model.specs.Close.{named_stream, is_link_of_parent}
use Rattle.fsa_model.specs.Edits.{with_link_marked, with_stream_marked}
use Rattle.fsa_model.specs.Lookups.{handle_of, linked_file}
use Rattle.fsa_model.specs.Open.{is_readonly}
use Rattle.fsa_model.specs.Outcome.{Outcome, ends_with, refused}
use Rattle.fsa_model.specs.Volume.{Handle, Volume}
use Rattle.fsa_model.specs.Waits.{waits_for, held_by}

-- ---- what is marked

-- the named stream of the handle, else its link, is marked, or its mark cleared; the root has no link and no mark
abbrev pub with_mark : Volume → Handle → Bool → Volume
with_mark v handle delete =
    option_map_or (λ stream. with_stream_marked v stream delete) (named_stream v handle) (with_link_marked v handle.link delete)

-- the handles of what is marked
abbrev pub marked_handles : Volume → Handle → HandleSet
marked_handles v handle = option_map_or (λ stream. set.Stream stream) (named_stream v handle) (set.Link handle.link)

-- ---- the checks

-- once the breaks that the mark waits for have ended
unfoldable pub delete_marked : Volume → ℕ → Handle → Outcome
delete_marked v id handle =
    if waits_for v (marked_handles v handle) NameChange (Some id) handle.key then held_by v (marked_handles v handle) NameChange (Some id) handle.key
    else ends_with (with_mark (with_breaks v (marked_handles v handle) NameChange (Some id) handle.key) handle true) Success

-- neither the root is deleted, nor what is READONLY, nor a directory with a link in it, marked or not
unfoldable pub delete_by : Volume → ℕ → Handle → Outcome
delete_by v id handle =
    if handle.link == 0 || is_readonly v (linked_file v handle.link) then refused v CannotDelete
    else if is_link_of_parent v handle.link then refused v DirectoryNotEmpty
    else delete_marked v id handle

-- DELETE is granted to the handle; a mark is cleared without more
unfoldable pub set_disposition_by : Volume → ℕ → Handle → Bool → Outcome
set_disposition_by v id handle delete =
    if not (has_any handle.access DELETE) then refused v AccessDenied
    else if not delete then ends_with (with_mark v handle false) Success
    else delete_by v id handle

-- the handle of this number
unfoldable pub set_disposition_at : Volume → ℕ → Bool → Outcome
set_disposition_at v id delete =
    option_map_or (λ handle. set_disposition_by v id handle delete) (row_of v.handles id) (refused v InvalidHandle)

-- one try of setting the disposition
unfoldable pub try_set_disposition : Volume → ℕ → ℕ → Bool → Outcome
try_set_disposition v client handle delete =
    option_map_or (λ id. set_disposition_at v id delete) (handle_of v client handle) (refused v InvalidHandle)
