-- Setting the length of a stream, after [MS-FSA] 'Server Requests Setting of File Information',
-- FileEndOfFileInformation: its checks in order, each by its name, and what a new length changes.
use Rattle.std.specs.Prelude.{ℕ, true, ◌==◌, not, nat_lt, length, Some, if◌then◌else◌}
use Rattle.std.specs.Option.{option_map_or}
use Rattle.fsa_types.specs.Access.{has_any}
use Rattle.fsa_types.specs.Masks.{WRITE_DATA}
use Rattle.fsa_types.specs.Rows.{row_of}
use Rattle.fsa_types.specs.declared.oplock.Class.TheVariants.{Change}
use Rattle.fsa_types.specs.declared.oplock.HandleSet.TheVariants.{Stream}
use Rattle.fsa_types.specs.declared.status.Status.TheVariants.{Success, InvalidHandle, InvalidParameter, AccessDenied}
use Rattle.fsa_model.specs.Breaks.{with_breaks}
use Rattle.fsa_model.specs.Edits.{with_length, with_basic}
use Rattle.fsa_model.specs.Growth.{growth_fault}
use Rattle.fsa_model.specs.Lookups.{handle_of, bytes_of, attributes_of, creation_time, access_time, largest_end, file_of_stream}
use Rattle.fsa_model.specs.Outcome.{Outcome, ends_with, refused}
use Rattle.fsa_model.specs.Volume.{Handle, Volume}
use Rattle.fsa_model.specs.Waits.{waits_for, held_by}
use Rattle.fsa_model.specs.Write.{with_write_noted}

-- ---- what a new length changes

-- a file of which a stream has a new length: write and change time are the clock; ARCHIVE stays
abbrev pub with_file_resized : Volume → ℕ → Volume
with_file_resized v file = with_basic v file (creation_time v file) (access_time v file) v.clock v.clock (attributes_of v file)

-- noted as a write that changes the length, the bytes cut or filled with zeros, and the file resized
abbrev pub with_resized : Volume → ℕ → ℕ → ℕ → Volume
with_resized v link stream end =
    with_file_resized (with_length (with_write_noted v link stream true) stream end) (file_of_stream v stream)

-- a length that is set as it was changes nothing, and nothing is noted
abbrev pub with_end_set : Volume → ℕ → ℕ → ℕ → Volume
with_end_set v link stream end = if length (bytes_of v stream) == end then v else with_resized v link stream end

-- ---- the checks

-- unless the stream would grow past what its owner may have, or past what there is
unfoldable pub set_end_grown : Volume → ℕ → ℕ → ℕ → Outcome
set_end_grown v link stream end =
    option_map_or (λ status. refused v status) (growth_fault v stream end) (ends_with (with_end_set v link stream end) Success)

-- once the breaks that the request waits for have ended; no lock is asked
unfoldable pub set_end_to : Volume → ℕ → ℕ → ℕ → ℕ → ℕ → Outcome
set_end_to v handle key link stream end =
    if waits_for v (Stream stream) Change (Some handle) key then held_by v (Stream stream) Change (Some handle) key
    else set_end_grown (with_breaks v (Stream stream) Change (Some handle) key) link stream end

-- the rights of the handle, and then the end
unfoldable pub set_end_stream : Volume → ℕ → Handle → ℕ → ℕ → Outcome
set_end_stream v id handle stream end =
    if not (has_any handle.access WRITE_DATA) then refused v AccessDenied
    else if nat_lt largest_end end then refused v InvalidParameter
    else set_end_to v id handle.key handle.link stream end

-- a directory has no length
unfoldable pub set_end_by : Volume → ℕ → Handle → ℕ → Outcome
set_end_by v id handle end = option_map_or (λ stream. set_end_stream v id handle stream end) handle.stream (refused v InvalidParameter)

-- the handle of this number
unfoldable pub set_end_at : Volume → ℕ → ℕ → Outcome
set_end_at v id end = option_map_or (λ handle. set_end_by v id handle end) (row_of v.handles id) (refused v InvalidHandle)

-- one try of setting the length
unfoldable pub try_set_end : Volume → ℕ → ℕ → ℕ → Outcome
try_set_end v client handle end = option_map_or (λ id. set_end_at v id end) (handle_of v client handle) (refused v InvalidHandle)
