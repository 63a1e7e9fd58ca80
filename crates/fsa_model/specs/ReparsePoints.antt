-- Reparse points, after [MS-FSA] 'FSCTL_SET_REPARSE_POINT', 'FSCTL_GET_REPARSE_POINT' and
-- 'FSCTL_DELETE_REPARSE_POINT': their checks in order, each by its name, and what they change.
use Rattle.std.specs.Prelude.{ℕ, Bool, ◌==◌, ◌||◌, not, nat_lt, List, length, take, Option, Some, None, if◌then◌else◌, false}
use Rattle.std.specs.Option.{option_map_or}
use Rattle.fsa_types.specs.Access.{has_any}
use Rattle.fsa_types.specs.FixedBuffers.{read_reparse, reparse_bytes}
use Rattle.fsa_types.specs.Masks.{FILE_ACTION_MODIFIED, FILE_NOTIFY_CHANGE_ATTRIBUTES, IO_REPARSE_TAG_RESERVED_ONE, IO_REPARSE_TAG_RESERVED_ZERO, MICROSOFT_TAG, WRITE_ATTRIBUTES, WRITE_DATA}
use Rattle.fsa_types.specs.Rows.{row_of}
use Rattle.fsa_types.specs.declared.reply.Body.TheVariants.{Got}
use Rattle.fsa_types.specs.declared.status.Status.{Status}
use Rattle.fsa_types.specs.declared.status.Status.TheVariants.{Success, InvalidHandle, InvalidParameter, AccessDenied, BufferOverflow, BufferTooSmall, DirectoryNotEmpty, IoReparseDataInvalid, IoReparseTagInvalid, IoReparseTagMismatch, NotAReparsePoint}
use Rattle.fsa_model.specs.Changes.{with_change_noted}
use Rattle.fsa_model.specs.Close.{is_link_of_parent}
use Rattle.fsa_model.specs.Edits.{with_point}
use Rattle.fsa_model.specs.Lookups.{file_of_link, handle_of}
use Rattle.fsa_model.specs.Outcome.{Outcome, Done, ends_with, refused}
use Rattle.fsa_model.specs.Volume.{Handle, Volume}
use Rattle.fsa_model.specs.Walk.{point_of}

-- ---- what is changed

-- the point set or removed, which is noted as a change of attributes; no time moves
abbrev pub with_point_noted : Volume → ℕ → ℕ → Option (ℕ × List ℕ) → Volume
with_point_noted v link file point =
    with_change_noted (with_point v file point) link FILE_ACTION_MODIFIED FILE_NOTIFY_CHANGE_ATTRIBUTES None

-- ---- checks that a set and a removal share

-- WRITE_DATA or WRITE_ATTRIBUTES
abbrev pub may_set_point : Handle → Bool
may_set_point handle = has_any handle.access WRITE_DATA || has_any handle.access WRITE_ATTRIBUTES

-- a point of another tag is there
abbrev pub has_other_tag : Volume → ℕ → ℕ → Bool
has_other_tag v file tag = option_map_or (λ point. not (point.0 == tag)) (point_of v file) false

-- ---- a point is set

-- the two reserved tags, and one without the bit of tags that Microsoft owns
abbrev pub is_no_tag : ℕ → Bool
is_no_tag tag = tag == IO_REPARSE_TAG_RESERVED_ZERO || tag == IO_REPARSE_TAG_RESERVED_ONE || not (has_any tag MICROSOFT_TAG)

unfoldable pub set_point : Volume → ℕ → ℕ → ℕ → List ℕ → Outcome
set_point v link file tag content =
    if is_no_tag tag then refused v IoReparseTagInvalid
    else if is_link_of_parent v link then refused v DirectoryNotEmpty
    else if has_other_tag v file tag then refused v IoReparseTagMismatch
    else ends_with (with_point_noted v link file (Some (tag, content))) Success

-- the buffer has a header, and the length of its data is right
unfoldable pub set_buffer : Volume → ℕ → ℕ → List ℕ → Outcome
set_buffer v link file bytes =
    option_map_or (λ point. set_point v link file point.0 point.1) (read_reparse bytes) (refused v IoReparseDataInvalid)

-- the root has no reparse point
unfoldable pub set_reparse_by : Volume → Handle → List ℕ → Outcome
set_reparse_by v handle bytes =
    if not (may_set_point handle) then refused v AccessDenied
    else if handle.link == 0 then refused v InvalidParameter
    else option_map_or (λ file. set_buffer v handle.link file bytes) (file_of_link v.links handle.link) (refused v InvalidHandle)

-- the handle of this number
unfoldable pub set_reparse_at : Volume → ℕ → List ℕ → Outcome
set_reparse_at v id bytes = option_map_or (λ handle. set_reparse_by v handle bytes) (row_of v.handles id) (refused v InvalidHandle)

-- one try of setting a reparse point
unfoldable pub try_set_reparse : Volume → ℕ → ℕ → List ℕ → Outcome
try_set_reparse v client handle bytes = option_map_or (λ id. set_reparse_at v id bytes) (handle_of v client handle) (refused v InvalidHandle)

-- ---- a point is asked for

-- the whole buffer of a point
abbrev pub point_buffer : ℕ × List ℕ → List ℕ
point_buffer point = reparse_bytes point.0 0 point.1

-- with this status and these bytes
abbrev pub answers_with : Volume → Status → List ℕ → Outcome
answers_with v status bytes = Done v (record { status = status; body = Got bytes })

-- room for the header; and where there is none for the whole buffer, its first bytes are given
unfoldable pub get_point : Volume → ℕ × List ℕ → ℕ → Outcome
get_point v point room =
    if nat_lt room 8 then refused v BufferTooSmall
    else if nat_lt room (length (point_buffer point)) then answers_with v BufferOverflow (take room (point_buffer point))
    else answers_with v Success (point_buffer point)

unfoldable pub get_reparse_of : Volume → ℕ → ℕ → Outcome
get_reparse_of v file room = option_map_or (λ point. get_point v point room) (point_of v file) (refused v NotAReparsePoint)

unfoldable pub get_reparse_by : Volume → Handle → ℕ → Outcome
get_reparse_by v handle room = option_map_or (λ file. get_reparse_of v file room) (file_of_link v.links handle.link) (refused v InvalidHandle)

-- the handle of this number
unfoldable pub get_reparse_at : Volume → ℕ → ℕ → Outcome
get_reparse_at v id room = option_map_or (λ handle. get_reparse_by v handle room) (row_of v.handles id) (refused v InvalidHandle)

-- one try of asking for a reparse point
unfoldable pub try_get_reparse : Volume → ℕ → ℕ → ℕ → Outcome
try_get_reparse v client handle room = option_map_or (λ id. get_reparse_at v id room) (handle_of v client handle) (refused v InvalidHandle)

-- ---- a point is removed

unfoldable pub remove_point : Volume → ℕ → ℕ → ℕ × List ℕ → ℕ → Outcome
remove_point v link file point tag =
    if point.0 == tag then ends_with (with_point_noted v link file None) Success else refused v IoReparseTagMismatch

unfoldable pub delete_reparse_of : Volume → ℕ → ℕ → ℕ → Outcome
delete_reparse_of v link file tag =
    option_map_or (λ point. remove_point v link file point tag) (point_of v file) (refused v NotAReparsePoint)

unfoldable pub delete_reparse_by : Volume → Handle → ℕ → Outcome
delete_reparse_by v handle tag =
    if not (may_set_point handle) then refused v AccessDenied
    else option_map_or (λ file. delete_reparse_of v handle.link file tag) (file_of_link v.links handle.link) (refused v InvalidHandle)

-- the handle of this number
unfoldable pub delete_reparse_at : Volume → ℕ → ℕ → Outcome
delete_reparse_at v id tag = option_map_or (λ handle. delete_reparse_by v handle tag) (row_of v.handles id) (refused v InvalidHandle)

-- one try of removing a reparse point
unfoldable pub try_delete_reparse : Volume → ℕ → ℕ → ℕ → Outcome
try_delete_reparse v client handle tag = option_map_or (λ id. delete_reparse_at v id tag) (handle_of v client handle) (refused v InvalidHandle)
