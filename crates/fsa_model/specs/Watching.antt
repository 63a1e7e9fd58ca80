-- Watching a directory for changes, after [MS-FSA] 'Server Requests Change Notifications for a Directory' and 'Algorithm for
-- Reporting a Change Notification for a Directory': what is due to a watch, what a report of it says, and a try of a Notify.
use Rattle.std.specs.Prelude.{ℕ, Bool, false, ◌==◌, ◌&&◌, ◌||◌, not, nat_le, List, [], ◌∷◌, drop, filter, map, find, length, Option, is_some, option_and_then, if◌then◌else◌}
use Rattle.std.specs.List.{list_any}
use Rattle.std.specs.Option.{option_map_or}
use Rattle.fsa_types.specs.Access.{has_any, has_other}
use Rattle.fsa_types.specs.Masks.{READ_DATA, known_filters}
use Rattle.fsa_types.specs.Packing.{bytes}
use Rattle.fsa_types.specs.PackedRows.{change_row}
use Rattle.fsa_types.specs.Rows.{row_of}
use Rattle.fsa_types.specs.declared.reply.Body.TheVariants.{Nothing, Packed}
use Rattle.fsa_types.specs.declared.reply.Interim.TheVariants as interim
use Rattle.fsa_types.specs.declared.reply.PackKind.TheVariants.{Changes}
use Rattle.fsa_types.specs.declared.reply.Reply.{Reply}
use Rattle.fsa_types.specs.declared.status.Status.TheVariants.{Success, NotifyEnumDir, InvalidHandle, InvalidParameter, AccessDenied, DeletePending}
use Rattle.fsa_model.specs.Edits.{with_watch}
use Rattle.fsa_model.specs.Lookups.{file_of_link, handle_of, is_link_marked}
use Rattle.fsa_model.specs.Outcome.{Outcome, Done, Stay, refused}
use Rattle.fsa_model.specs.Volume.{Change, Handle, Watch, Volume}

-- ---- what is due

-- the change was made in this directory, or, where the whole tree counts, somewhere below it
abbrev pub is_seen_from : ℕ → Bool → List (ℕ × List ℕ) → Bool
is_seen_from dir whole [] = false
is_seen_from dir whole (parent ∷ above) = parent.0 == dir || (whole && list_any (λ ancestor. ancestor.0 == dir) above)

-- the watch, of this directory, asks for the change
abbrev pub is_asked_by : Watch → ℕ → Change → Bool
is_asked_by watch dir change = is_seen_from dir watch.tree change.seen_from && has_any change.bits watch.filter

-- the change's action, and the name that it had from this directory
abbrev pub told_from : ℕ → Change → ℕ × List ℕ
told_from dir change =
    (change.action, option_map_or (λ ancestor. ancestor.1) (find (λ ancestor. ancestor.0 == dir) change.seen_from) [])

-- the changes that this watch of this directory asks for, of those from its place on, in order
abbrev pub due_to : List Change → ℕ → Watch → List (ℕ × List ℕ)
due_to changes dir watch = map (told_from dir) (filter (is_asked_by watch dir) (drop watch.from changes))

-- the watch of this handle, once a Notify has passed its checks
abbrev pub watch_of : Volume → ℕ → Option Watch
watch_of v id = find (λ watch. watch.handle == id) v.watches

-- the directory that the handle is of
abbrev pub dir_of : Volume → ℕ → Option ℕ
dir_of v id = option_and_then (λ handle. file_of_link v.links handle.link) (row_of v.handles id)

-- what is due to the watch of this handle; nothing where there is none
abbrev pub due : Volume → ℕ → List (ℕ × List ℕ)
due v id = option_map_or (λ watch. option_map_or (λ dir. due_to v.changes dir watch) (dir_of v id) []) (watch_of v id) []

abbrev pub is_something_due : Volume → ℕ → Bool
is_something_due v id = not (length (due v id) == 0)

-- ---- reports

-- actions and names, packed
abbrev pub packed_changes : List (ℕ × List ℕ) → List ℕ
packed_changes changes = bytes Changes (map (λ change. change_row change.0 change.1) changes)

-- how many bytes what is due takes
abbrev pub due_size : Volume → ℕ → ℕ
due_size v id = length (packed_changes (due v id))

-- with all that is due, packed, where the room is enough; else without bytes, and the directory is to be listed
abbrev pub report : Volume → ℕ → ℕ → Reply
report v id room =
    if nat_le (due_size v id) room then record { status = Success; body = Packed Changes (packed_changes (due v id)) }
    else record { status = NotifyEnumDir; body = Nothing }

-- the watch, where it is this handle's, from this place on
abbrev pub begun_at : ℕ → ℕ → Watch → Watch
begun_at id place watch = if watch.handle == id then record watch { from = place } else watch

-- only what is noted from now on is due to the watch of this handle
abbrev pub with_watch_seen : Volume → ℕ → Volume
with_watch_seen v id = record v { watches = map (begun_at id (length v.changes)) v.watches }

-- ---- a Notify

-- what is due is reported at once; where nothing is, the call waits
abbrev pub notify_due : Volume → ℕ → ℕ → Outcome
notify_due v id room =
    if is_something_due v id then Done (with_watch_seen v id) (report v id room) else Stay v interim.Watch

-- the handle's first Notify makes its watch, from this moment on; later ones leave that as it is
abbrev pub with_watch_begun : Volume → ℕ → ℕ → Bool → Volume
with_watch_begun v id filter tree = if is_some (watch_of v id) then v else with_watch v id filter tree (length v.changes)

-- some of the bits that a watch may ask for, and no other
abbrev pub is_notify_filter : ℕ → Bool
is_notify_filter filter = not (filter == 0) && not (has_other filter known_filters)

-- a directory, READ_DATA, a filter, and no mark
abbrev pub notify_by : Volume → ℕ → Handle → ℕ → Bool → ℕ → Outcome
notify_by v id handle filter tree room =
    if is_some handle.stream then refused v InvalidParameter
    else if not (has_any handle.access READ_DATA) then refused v AccessDenied
    else if not (is_notify_filter filter) then refused v InvalidParameter
    else if is_link_marked v handle.link then refused v DeletePending
    else notify_due (with_watch_begun v id filter tree) id room

-- the handle of this number
unfoldable pub notify_at : Volume → ℕ → ℕ → Bool → ℕ → Outcome
notify_at v id filter tree room = option_map_or (λ handle. notify_by v id handle filter tree room) (row_of v.handles id) (refused v InvalidHandle)

-- one try of a Notify
unfoldable pub try_notify : Volume → ℕ → ℕ → ℕ → Bool → ℕ → Outcome
try_notify v client handle filter tree room =
    option_map_or (λ id. notify_at v id filter tree room) (handle_of v client handle) (refused v InvalidHandle)
