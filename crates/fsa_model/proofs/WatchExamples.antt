-- Watches, worked by hand from the rules and shown by computation: what is due, what a report says, which Notify
-- reports, and what is recorded of a history.
use Rattle.std.specs.Prelude.{◌≡◌, ℕ, true, false, List, [], ◌∷◌, Option, Some, None, length, map, option_map, codes, refl}
use Rattle.fsa_types.specs.CaseTable.{ascii_pairs}
use Rattle.fsa_types.specs.LittleEndian.{zeros}
use Rattle.fsa_types.specs.Packing.{head, name_field, entry_bytes}
use Rattle.fsa_types.specs.declared.reply.Action.TheVariants.{Created, Opened as WasOpened}
use Rattle.fsa_types.specs.declared.reply.Answer.{Answer}
use Rattle.fsa_types.specs.declared.reply.Answer.TheVariants.{Ended, Pending}
use Rattle.fsa_types.specs.declared.reply.Body.TheVariants.{Nothing, Opened, Count, Packed}
use Rattle.fsa_types.specs.declared.reply.EndOf.{EndOf}
use Rattle.fsa_types.specs.declared.reply.Interim.TheVariants.{Watch}
use Rattle.fsa_types.specs.declared.reply.PackKind.TheVariants.{Changes}
use Rattle.fsa_types.specs.declared.reply.Reply.{Reply}
use Rattle.fsa_types.specs.declared.request.CallId.{CallId}
use Rattle.fsa_types.specs.declared.request.Disposition.TheVariants.{CreateNew, OpenExisting}
use Rattle.fsa_types.specs.declared.request.Request.{Request}
use Rattle.fsa_types.specs.declared.request.Request.TheVariants as request
use Rattle.fsa_types.specs.declared.request.What.TheVariants.{Ask}
use Rattle.fsa_types.specs.declared.status.Status.{Status}
use Rattle.fsa_types.specs.declared.status.Status.TheVariants.{Success, NotifyEnumDir, NotifyCleanup, Cancelled, NoMemory, InvalidParameter, AccessDenied}
use Rattle.fsa_model.specs.Close.{try_close, close_at, with_closed}
use Rattle.fsa_model.specs.History.{HistoryEntry, run}
use Rattle.fsa_model.specs.Open.{try_create, create_at, create_walked, create_named, create_by_link, create_found, create_there, create_in_file, create_stream, create_on_stream, open_stream, open_directory, open_granted, overwrite_existing, open_existing, clashed, create_missing, make_file, make_directory, stopped}
use Rattle.fsa_model.specs.Setup.{Setup}
use Rattle.fsa_model.specs.Waiting.{try_cancel}
use Rattle.fsa_model.specs.Watched.{Notice, ends_in, matching, noted_between, notices_of, watch_fixed}
use Rattle.fsa_model.specs.Watching.{packed_changes, try_notify, notify_at}
use Rattle.fsa_model.specs.Write.{try_write, write_at, write_by, write_stream, write_at_place, write_range, write_unlocked, write_grown, write_bytes}

-- ---- packing

-- each entry but the last is filled up to a multiple of 4
pub packed_two : packed_changes ((3, codes "f") ∷ (2, codes "abc") ∷ [])
    ≡ 16 ∷ 0 ∷ 0 ∷ 0 ∷ 3 ∷ 0 ∷ 0 ∷ 0 ∷ 2 ∷ 0 ∷ 0 ∷ 0 ∷ 102 ∷ 0 ∷ 0 ∷ 0
    ∷ 0 ∷ 0 ∷ 0 ∷ 0 ∷ 2 ∷ 0 ∷ 0 ∷ 0 ∷ 6 ∷ 0 ∷ 0 ∷ 0 ∷ 97 ∷ 0 ∷ 98 ∷ 0 ∷ 99 ∷ 0 ∷ []
unfolding head name_field entry_bytes zeros
packed_two = refl

pub packed_none : packed_changes [] ≡ []
packed_none = refl

-- ---- histories

abbrev setup : Setup
setup = record { table = ascii_pairs; clients = record { name = codes "a"; sids = 7 ∷ [] } ∷ [] }

abbrev asks : ℕ → Request → List CallId → HistoryEntry
asks number request starved = record { call = record { client = 0; number = number; what = Ask request }; starved = starved }

abbrev opens : List ℕ → ℕ → Request
opens path wanted = request.Create path wanted 0x7 OpenExisting 0x1 0x0 0

abbrev makes : List ℕ → Request
makes path = request.Create path 0x3 0x7 CreateNew 0x0 0x0 0

abbrev makes_directory : List ℕ → Request
makes_directory path = request.Create path 0x1 0x7 CreateNew 0x1 0x0 0

-- the answer of each turn, and the calls that ended besides
abbrev outs : List HistoryEntry → Option (List (Answer × List EndOf))
outs history = option_map (λ r. map (λ out. (out.answer, out.ended)) r.outs) (run setup history)

abbrev opened : Answer × List EndOf
opened = (Ended (record { status = Success; body = Opened WasOpened }), [])

abbrev made : List EndOf → Answer × List EndOf
made ended = (Ended (record { status = Success; body = Opened Created }), ended)

abbrev done : Status → List EndOf → Answer × List EndOf
done status ended = (Ended (record { status = status; body = Nothing }), ended)

abbrev watches : Answer × List EndOf
watches = (Pending Watch, [])

abbrev ends : ℕ → Status → EndOf
ends number status = record { client = 0; number = number; reply = record { status = status; body = Nothing } }

abbrev says : List (ℕ × List ℕ) → Reply
says changes = record { status = Success; body = Packed Changes (packed_changes changes) }

abbrev told : ℕ → List (ℕ × List ℕ) → EndOf
told number changes = record { client = 0; number = number; reply = says changes }

-- a change that is added, as 14 bytes
abbrev added : ℕ → List ℕ
added unit = 0 ∷ 0 ∷ 0 ∷ 0 ∷ 1 ∷ 0 ∷ 0 ∷ 0 ∷ 2 ∷ 0 ∷ 0 ∷ 0 ∷ unit ∷ 0 ∷ []

-- a report that just fits its room; one whose room is a byte short; and one after that, which says nothing of
-- what overflowed
pub room_just_enough_and_one_short :
    outs (
    asks 1 (opens (codes "\\") 0x1) []
    ∷ asks 2 (request.Notify 1 0x1 false 14) []
    ∷ asks 3 (makes (codes "\\n")) []
    ∷ asks 4 (request.Notify 1 0x1 false 13) []
    ∷ asks 5 (makes (codes "\\m")) []
    ∷ asks 6 (request.Notify 1 0x1 false 14) []
    ∷ asks 7 (makes (codes "\\k")) []
    ∷ [])
    ≡ Some (
    opened
    ∷ watches
    ∷ made (record { client = 0; number = 2; reply = record { status = Success; body = Packed Changes (added 110) } } ∷ [])
    ∷ watches
    ∷ made (ends 4 NotifyEnumDir ∷ [])
    ∷ watches
    ∷ made (record { client = 0; number = 6; reply = record { status = Success; body = Packed Changes (added 107) } } ∷ [])
    ∷ [])
unfolding try_create create_at create_walked create_named create_by_link create_found create_there create_in_file create_stream create_on_stream open_stream open_directory open_granted overwrite_existing open_existing clashed create_missing make_file make_directory stopped try_write write_at write_by write_stream write_at_place write_range write_unlocked write_grown write_bytes try_close close_at with_closed try_notify notify_at try_cancel head name_field entry_bytes zeros
room_just_enough_and_one_short = refl

-- after a cancelled Notify the watch goes on, with the filter and the tree flag of the first
pub cancelled_keeps_its_watch :
    outs (
    asks 1 (makes_directory (codes "\\t")) []
    ∷ asks 2 (makes (codes "\\t\\f")) []
    ∷ asks 3 (request.Notify 1 0x11 true 100) []
    ∷ asks 4 (request.Cancel 3) []
    ∷ asks 5 (request.Write 2 (Some 0) (65 ∷ [])) []
    ∷ asks 6 (makes (codes "\\t\\g")) []
    ∷ asks 7 (request.Notify 1 0x4 false 100) []
    ∷ [])
    ≡ Some (
    made []
    ∷ made []
    ∷ watches
    ∷ done Success (ends 3 Cancelled ∷ [])
    ∷ (Ended (record { status = Success; body = Count 1 }), [])
    ∷ made []
    ∷ (Ended (says ((3, codes "f") ∷ (1, codes "g") ∷ [])), [])
    ∷ [])
unfolding try_create create_at create_walked create_named create_by_link create_found create_there create_in_file create_stream create_on_stream open_stream open_directory open_granted overwrite_existing open_existing clashed create_missing make_file make_directory stopped try_write write_at write_by write_stream write_at_place write_range write_unlocked write_grown write_bytes try_close close_at with_closed try_notify notify_at try_cancel head name_field entry_bytes zeros
cancelled_keeps_its_watch = refl

-- the close of its handle ends a Notify
pub close_ends_notify :
    outs (asks 1 (opens (codes "\\") 0x1) [] ∷ asks 2 (request.Notify 1 0x1 false 14) [] ∷ asks 3 (request.Close 1) [] ∷ [])
    ≡ Some (opened ∷ watches ∷ done Success (ends 2 NotifyCleanup ∷ []) ∷ [])
unfolding try_create create_at create_walked create_named create_by_link create_found create_there create_in_file create_stream create_on_stream open_stream open_directory open_granted overwrite_existing open_existing clashed create_missing make_file make_directory stopped try_write write_at write_by write_stream write_at_place write_range write_unlocked write_grown write_bytes try_close close_at with_closed try_notify notify_at try_cancel head name_field entry_bytes zeros
close_ends_notify = refl

-- of two that are pending on a handle the earliest reports, and the other waits for the next change
pub earliest_reports :
    outs (
    asks 1 (opens (codes "\\") 0x1) []
    ∷ asks 2 (request.Notify 1 0x1 false 100) []
    ∷ asks 3 (request.Notify 1 0x1 false 100) []
    ∷ asks 4 (makes (codes "\\n")) []
    ∷ asks 5 (makes (codes "\\m")) []
    ∷ [])
    ≡ Some (opened ∷ watches ∷ watches ∷ made (told 2 ((1, codes "n") ∷ []) ∷ []) ∷ made (told 3 ((1, codes "m") ∷ []) ∷ []) ∷ [])
unfolding try_create create_at create_walked create_named create_by_link create_found create_there create_in_file create_stream create_on_stream open_stream open_directory open_granted overwrite_existing open_existing clashed create_missing make_file make_directory stopped try_write write_at write_by write_stream write_at_place write_range write_unlocked write_grown write_bytes try_close close_at with_closed try_notify notify_at try_cancel head name_field entry_bytes zeros
earliest_reports = refl

-- where the earliest finds no memory what is due stays due, and the other reports it in the same turn
pub starved_leaves_what_is_due :
    outs (
    asks 1 (opens (codes "\\") 0x1) []
    ∷ asks 2 (request.Notify 1 0x1 false 100) []
    ∷ asks 3 (request.Notify 1 0x1 false 100) []
    ∷ asks 4 (makes (codes "\\n")) (record { client = 0; number = 2 } ∷ [])
    ∷ [])
    ≡ Some (opened ∷ watches ∷ watches ∷ made (ends 2 NoMemory ∷ told 3 ((1, codes "n") ∷ []) ∷ []) ∷ [])
unfolding try_create create_at create_walked create_named create_by_link create_found create_there create_in_file create_stream create_on_stream open_stream open_directory open_granted overwrite_existing open_existing clashed create_missing make_file make_directory stopped try_write write_at write_by write_stream write_at_place write_range write_unlocked write_grown write_bytes try_close close_at with_closed try_notify notify_at try_cancel head name_field entry_bytes zeros
starved_leaves_what_is_due = refl

-- a report without bytes takes no memory: there is no turn in which it starves
pub overflow_never_starves :
    outs (
    asks 1 (opens (codes "\\") 0x1) []
    ∷ asks 2 (request.Notify 1 0x1 false 13) []
    ∷ asks 4 (makes (codes "\\n")) (record { client = 0; number = 2 } ∷ [])
    ∷ []) ≡ None
unfolding try_create create_at create_walked create_named create_by_link create_found create_there create_in_file create_stream create_on_stream open_stream open_directory open_granted overwrite_existing open_existing clashed create_missing make_file make_directory stopped try_write write_at write_by write_stream write_at_place write_range write_unlocked write_grown write_bytes try_close close_at with_closed try_notify notify_at try_cancel head name_field entry_bytes zeros
overflow_never_starves = refl

-- a change below a directory is due to a watch of the tree, with its path from there, and not to a flat one
pub tree_and_flat :
    outs (
    asks 1 (makes_directory (codes "\\t")) []
    ∷ asks 2 (opens (codes "\\") 0x1) []
    ∷ asks 3 (opens (codes "\\") 0x1) []
    ∷ asks 4 (request.Notify 2 0x1 true 100) []
    ∷ asks 5 (request.Notify 3 0x1 false 100) []
    ∷ asks 6 (makes (codes "\\t\\f")) []
    ∷ [])
    ≡ Some (made [] ∷ opened ∷ opened ∷ watches ∷ watches ∷ made (told 4 ((1, codes "t\\f") ∷ []) ∷ []) ∷ [])
unfolding try_create create_at create_walked create_named create_by_link create_found create_there create_in_file create_stream create_on_stream open_stream open_directory open_granted overwrite_existing open_existing clashed create_missing make_file make_directory stopped try_write write_at write_by write_stream write_at_place write_range write_unlocked write_grown write_bytes try_close close_at with_closed try_notify notify_at try_cancel head name_field entry_bytes zeros
tree_and_flat = refl

-- what is refused: a file, a handle without READ_DATA, and filters without a bit or with others
pub refusals :
    outs (
    asks 1 (makes (codes "\\f")) []
    ∷ asks 2 (opens (codes "\\") 0x20000) []
    ∷ asks 3 (opens (codes "\\") 0x1) []
    ∷ asks 4 (request.Notify 1 0x1 true 100) []
    ∷ asks 5 (request.Notify 2 0x0 true 100) []
    ∷ asks 6 (request.Notify 3 0x0 true 100) []
    ∷ asks 7 (request.Notify 3 0x1001 true 100) []
    ∷ [])
    ≡ Some (made [] ∷ opened ∷ opened ∷ done InvalidParameter [] ∷ done AccessDenied [] ∷ done InvalidParameter [] ∷ done InvalidParameter [] ∷ [])
unfolding try_create create_at create_walked create_named create_by_link create_found create_there create_in_file create_stream create_on_stream open_stream open_directory open_granted overwrite_existing open_existing clashed create_missing make_file make_directory stopped try_write write_at write_by write_stream write_at_place write_range write_unlocked write_grown write_bytes try_close close_at with_closed try_notify notify_at try_cancel head name_field entry_bytes zeros
refusals = refl

-- ---- what is recorded of a history

-- a report, an overflow, a Notify that starves, and a report at once
abbrev told_twice : List HistoryEntry
told_twice =
    asks 1 (opens (codes "\\") 0x1) []
    ∷ asks 2 (request.Notify 1 0x1 false 14) []
    ∷ asks 3 (makes (codes "\\n")) []
    ∷ asks 4 (request.Notify 1 0x1 false 13) []
    ∷ asks 5 (makes (codes "\\m")) []
    ∷ asks 6 (request.Notify 1 0x1 false 14) []
    ∷ asks 7 (makes (codes "\\k")) (record { client = 0; number = 6 } ∷ [])
    ∷ asks 8 (request.Notify 1 0x1 false 14) []
    ∷ []

-- of each notice the call, how many changes had been noted, and the reply
abbrev shown : Notice → ℕ × ℕ × Option Reply
shown notice = (notice.call.number, length notice.before.changes, notice.reply)

-- the second call fixes the watch before any change; the fourth is told nothing of the change that exceeds its room;
-- the sixth makes no report, so that the eighth says what it would have said
pub notices_of_told_twice :
    map shown (notices_of setup told_twice)
    ≡ (2, 0, None)
    ∷ (2, 1, Some (says ((1, codes "n") ∷ [])))
    ∷ (4, 2, Some (record { status = NotifyEnumDir; body = Nothing }))
    ∷ (8, 3, Some (says ((1, codes "k") ∷ [])))
    ∷ []
unfolding try_create create_at create_walked create_named create_by_link create_found create_there create_in_file create_stream create_on_stream open_stream open_directory open_granted overwrite_existing open_existing clashed create_missing make_file make_directory stopped try_write write_at write_by write_stream write_at_place write_range write_unlocked write_grown write_bytes try_close close_at with_closed try_notify notify_at try_cancel head name_field entry_bytes zeros
notices_of_told_twice = refl

-- what there is to say of the changes noted from each notice to the next
abbrev matching_since : Notice → List Notice → List (List (ℕ × List ℕ))
matching_since last [] = []
matching_since last (notice ∷ more) = matching (watch_fixed 1 last last) 1 (noted_between last notice) ∷ matching_since notice more

abbrev all_matching : List Notice → List (List (ℕ × List ℕ))
all_matching [] = []
all_matching (notice ∷ more) = matching_since notice more

pub noted_in_told_twice : all_matching (notices_of setup told_twice) ≡ ((1, codes "n") ∷ []) ∷ ((1, codes "m") ∷ []) ∷ ((1, codes "k") ∷ []) ∷ []
unfolding try_create create_at create_walked create_named create_by_link create_found create_there create_in_file create_stream create_on_stream open_stream open_directory open_granted overwrite_existing open_existing clashed create_missing make_file make_directory stopped try_write write_at write_by write_stream write_at_place write_range write_unlocked write_grown write_bytes try_close close_at with_closed try_notify notify_at try_cancel head name_field entry_bytes zeros
noted_in_told_twice = refl

-- the ends of the three calls to which it reported
pub ends_in_told_twice :
    ends_in (notices_of setup told_twice) ≡ told 2 ((1, codes "n") ∷ []) ∷ ends 4 NotifyEnumDir ∷ told 8 ((1, codes "k") ∷ []) ∷ []
unfolding try_create create_at create_walked create_named create_by_link create_found create_there create_in_file create_stream create_on_stream open_stream open_directory open_granted overwrite_existing open_existing clashed create_missing make_file make_directory stopped try_write write_at write_by write_stream write_at_place write_range write_unlocked write_grown write_bytes try_close close_at with_closed try_notify notify_at try_cancel head name_field entry_bytes zeros
ends_in_told_twice = refl
