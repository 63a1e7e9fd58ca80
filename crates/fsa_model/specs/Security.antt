-- Setting the owner and the access list, after [MS-FSA] 'Server Requests Setting of Security
-- Information': its checks in order, each by its name, and what it changes.
use Rattle.std.specs.Prelude.{ℕ, Bool, true, false, ◌+◌, ◌==◌, ◌&&◌, ◌||◌, not, nat_lt, List, map, Option, Some, None, is_some, if◌then◌else◌}
use Rattle.std.specs.Option.{option_map_or}
use Rattle.fsa_types.specs.Access.{has_any, has_sid, map_generic}
use Rattle.fsa_types.specs.Masks.{FILE_ACTION_MODIFIED, FILE_NOTIFY_CHANGE_SECURITY, WRITE_DAC, WRITE_OWNER}
use Rattle.fsa_types.specs.Rows.{row_of}
use Rattle.fsa_types.specs.declared.request.Ace.{Ace}
use Rattle.fsa_types.specs.declared.request.DaclChange.{DaclChange}
use Rattle.fsa_types.specs.declared.request.DaclChange.TheVariants.{Keep, Remove, Put}
use Rattle.fsa_types.specs.declared.status.Status.TheVariants.{Success, InvalidHandle, AccessDenied, QuotaExceeded}
use Rattle.fsa_model.specs.Changes.{with_change_noted}
use Rattle.fsa_model.specs.Charge.{charge, charge_of_file, limit}
use Rattle.fsa_model.specs.Edits.{with_basic, with_dacl, with_owner}
use Rattle.fsa_model.specs.Lookups.{access_time, attributes_of, creation_time, file_of_link, handle_of, owner_of, sids_of, write_time}
use Rattle.fsa_model.specs.Outcome.{Outcome, ends_with, refused}
use Rattle.fsa_model.specs.Volume.{Handle, Volume}

-- ---- what is asked

-- the access list is changed
abbrev pub changes_dacl : DaclChange → Bool
changes_dacl Keep = false
changes_dacl _ = true

-- an owner is asked for, or the access list is changed
abbrev pub asks_something : Option ℕ → DaclChange → Bool
asks_something owner dacl = is_some owner || changes_dacl dacl

-- an owner needs WRITE_OWNER, a change of the access list WRITE_DAC
abbrev pub lacks_right : ℕ → Option ℕ → DaclChange → Bool
lacks_right access owner dacl =
    (is_some owner && not (has_any access WRITE_OWNER)) || (changes_dacl dacl && not (has_any access WRITE_DAC))

-- the owner that is asked for is none of the client's SIDs
abbrev pub is_foreign : Volume → ℕ → Option ℕ → Bool
is_foreign v client owner = option_map_or (λ sid. not (has_sid (sids_of v client) sid)) owner false

-- ---- what the owner is charged

-- the owner that is asked for is another than the present one, and his charge with this file's would
-- pass his limit
abbrev pub passes_limit : Volume → ℕ → Option ℕ → Bool
passes_limit v file owner =
    option_map_or (λ sid. not (sid == owner_of v file) && nat_lt (limit v sid) (charge v sid + charge_of_file v file)) owner false

-- ---- what it changes

-- entries with each generic right replaced by what it stands for
abbrev pub mapped : List Ace → List Ace
mapped entries = map {A = Ace} (λ entry. record entry { mask = map_generic entry.mask }) entries

abbrev pub with_owner_asked : Volume → ℕ → Option ℕ → Volume
with_owner_asked v file owner = option_map_or (λ sid. with_owner v file sid) owner v

abbrev pub with_dacl_asked : Volume → ℕ → DaclChange → Volume
with_dacl_asked v file Keep = v
with_dacl_asked v file Remove = with_dacl v file None
with_dacl_asked v file (Put dacl) = with_dacl v file (Some (mapped dacl.items))

-- the time of the last write stays, and the change time is the clock
abbrev pub with_change_time : Volume → ℕ → Volume
with_change_time v file = with_basic v file (creation_time v file) (access_time v file) (write_time v file) v.clock (attributes_of v file)

-- noted of the file, where something is asked: FILE_ACTION_MODIFIED, under FILE_NOTIFY_CHANGE_SECURITY
abbrev pub with_security_noted : Volume → ℕ → Bool → Volume
with_security_noted v link asks = if asks then with_change_noted v link FILE_ACTION_MODIFIED FILE_NOTIFY_CHANGE_SECURITY None else v

abbrev pub with_security : Volume → ℕ → ℕ → Option ℕ → DaclChange → Volume
with_security v link file owner dacl =
    with_security_noted (with_change_time (with_dacl_asked (with_owner_asked v file owner) file dacl) file) link (asks_something owner dacl)

-- ---- the checks

-- the file's owner and list are set, unless the owner that is asked for, new or not, isn't the client's, or
-- a new one's limit doesn't take the file
unfoldable pub set_security_of : Volume → ℕ → ℕ → ℕ → Option ℕ → DaclChange → Outcome
set_security_of v client link file owner dacl =
    if is_foreign v client owner then refused v AccessDenied
    else if passes_limit v file owner then refused v QuotaExceeded
    else ends_with (with_security v link file owner dacl) Success

-- the file by whose link the handle was opened; the rights of the handle come first
unfoldable pub set_security_by : Volume → ℕ → Handle → Option ℕ → DaclChange → Outcome
set_security_by v client handle owner dacl =
    if lacks_right handle.access owner dacl then refused v AccessDenied
    else option_map_or (λ file. set_security_of v client handle.link file owner dacl) (file_of_link v.links handle.link) (refused v InvalidHandle)

-- the handle of this number
unfoldable pub set_security_at : Volume → ℕ → ℕ → Option ℕ → DaclChange → Outcome
set_security_at v client id owner dacl =
    option_map_or (λ handle. set_security_by v client handle owner dacl) (row_of v.handles id) (refused v InvalidHandle)

-- one try of it
unfoldable pub try_set_security : Volume → ℕ → ℕ → Option ℕ → DaclChange → Outcome
try_set_security v client handle owner dacl =
    option_map_or (λ id. set_security_at v client id owner dacl) (handle_of v client handle) (refused v InvalidHandle)
