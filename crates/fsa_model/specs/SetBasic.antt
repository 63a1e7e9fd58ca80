-- Setting times and attributes, after [MS-FSA] 'Server Requests Setting of File Information', FileBasicInformation:
-- its checks in order, each by its name, and what it changes.
use Rattle.std.specs.Prelude.{ℕ, Bool, ◌+◌, ◌-◌, ◌^◌, ◌==◌, ◌&&◌, ◌||◌, not, nat_le, None, if◌then◌else◌}
use Rattle.std.specs.Option.{option_map_or}
use Rattle.fsa_types.specs.Access.{has_any, has_other}
use Rattle.fsa_types.specs.Masks.{DIRECTORY, FILE_ACTION_MODIFIED, FILE_NOTIFY_CHANGE_ATTRIBUTES, FILE_NOTIFY_CHANGE_CREATION, FILE_NOTIFY_CHANGE_LAST_ACCESS, FILE_NOTIFY_CHANGE_LAST_WRITE, WRITE_ATTRIBUTES, known_attributes}
use Rattle.fsa_types.specs.Rows.{row_of}
use Rattle.fsa_types.specs.declared.status.Status.TheVariants.{Success, InvalidHandle, AccessDenied, InvalidParameter}
use Rattle.fsa_model.specs.Changes.{with_change_noted}
use Rattle.fsa_model.specs.Edits.{with_basic}
use Rattle.fsa_model.specs.Lookups.{access_time, attributes_of, creation_time, file_of_link, handle_of, is_directory, write_time}
use Rattle.fsa_model.specs.Open.{kept_attributes}
use Rattle.fsa_model.specs.Outcome.{Outcome, ends_with, refused}
use Rattle.fsa_model.specs.ShownNumbers.{change_time}
use Rattle.fsa_model.specs.Volume.{Handle, Volume}

-- what is asked: the four times and the attributes
pub record Basics : Type 0 where
  pub creation : ℕ
  pub access : ℕ
  pub write : ℕ
  pub change : ℕ
  pub attributes : ℕ

-- ---- times

-- the two values that leave a time as it is
abbrev pub is_kept : ℕ → Bool
is_kept time = time == 2 ^ 64 - 1 || time == 2 ^ 64 - 2

-- no other value from 2 ^ 63 on is a time
abbrev pub is_no_time : ℕ → Bool
is_no_time time = nat_le (2 ^ 63) time && not (is_kept time)

-- 0 leaves a time too, but for that of the last change
abbrev pub is_left : ℕ → Bool
is_left time = time == 0 || is_kept time

abbrev pub time_set : ℕ → ℕ → ℕ
time_set asked old = if is_left asked then old else asked

-- 0 sets the time of the last change to the clock
abbrev pub change_set : Volume → ℕ → ℕ → ℕ
change_set v asked old = if asked == 0 then v.clock else time_set asked old

-- ---- attributes

-- 0 leaves them; else those that are kept of them
abbrev pub attributes_set : ℕ → ℕ → ℕ
attributes_set asked old = if asked == 0 then old else kept_attributes asked

-- ---- what it changes

abbrev pub with_basics : Volume → ℕ → Basics → Volume
with_basics v file asked =
    with_basic v file (time_set asked.creation (creation_time v file)) (time_set asked.access (access_time v file)) (time_set asked.write (write_time v file))
    (change_set v asked.change (change_time v file)) (attributes_set asked.attributes (attributes_of v file))

-- a bit for each field that isn't left, but none for the time of the last change
abbrev pub bit_if : Bool → ℕ → ℕ
bit_if set bit = if set then bit else 0

abbrev pub basic_bits : Basics → ℕ
basic_bits asked =
    bit_if (not (asked.attributes == 0)) FILE_NOTIFY_CHANGE_ATTRIBUTES + bit_if (not (is_left asked.write)) FILE_NOTIFY_CHANGE_LAST_WRITE
    + bit_if (not (is_left asked.access)) FILE_NOTIFY_CHANGE_LAST_ACCESS + bit_if (not (is_left asked.creation)) FILE_NOTIFY_CHANGE_CREATION

-- noted where there is such a field: FILE_ACTION_MODIFIED
abbrev pub with_basics_noted : Volume → ℕ → ℕ → Basics → Volume
with_basics_noted v link file asked =
    if basic_bits asked == 0 then with_basics v file asked
    else with_change_noted (with_basics v file asked) link FILE_ACTION_MODIFIED (basic_bits asked) None

-- ---- the checks

abbrev pub has_no_time : Basics → Bool
has_no_time asked = is_no_time asked.creation || is_no_time asked.access || is_no_time asked.write || is_no_time asked.change

-- attributes that none has, or DIRECTORY on a file
abbrev pub has_wrong_attributes : Volume → ℕ → ℕ → Bool
has_wrong_attributes v file attributes =
    has_other attributes known_attributes || (has_any attributes DIRECTORY && not (is_directory v.files file))

unfoldable pub set_basic_of : Volume → ℕ → ℕ → Basics → Outcome
set_basic_of v link file asked =
    if has_no_time asked then refused v InvalidParameter
    else if has_wrong_attributes v file asked.attributes then refused v InvalidParameter
    else ends_with (with_basics_noted v link file asked) Success

unfoldable pub set_basic_by : Volume → Handle → Basics → Outcome
set_basic_by v handle asked =
    if not (has_any handle.access WRITE_ATTRIBUTES) then refused v AccessDenied
    else option_map_or (λ file. set_basic_of v handle.link file asked) (file_of_link v.links handle.link) (refused v InvalidHandle)

-- the handle of this number
unfoldable pub set_basic_at : Volume → ℕ → Basics → Outcome
set_basic_at v id asked = option_map_or (λ handle. set_basic_by v handle asked) (row_of v.handles id) (refused v InvalidHandle)

-- one try of setting times and attributes
unfoldable pub try_set_basic : Volume → ℕ → ℕ → Basics → Outcome
try_set_basic v client handle asked = option_map_or (λ id. set_basic_at v id asked) (handle_of v client handle) (refused v InvalidHandle)
