-- What watches report over a history: each time that a Notify fixes a watch or has it report, in order; and what each
-- report says, after [MS-FSA] 'Server Requests Change Notifications for a Directory' and 'Algorithm for Reporting a
-- Change Notification for a Directory'.
use Rattle.std.specs.List.{list_any}
use Rattle.std.specs.Option.{option_map_or}
use Rattle.std.specs.Prelude.{◌≡◌, ◌==◌, ◌&&◌, not, nat_le, ℕ, Bool, true, false, zero, suc, List, [], ◌∷◌, ◌++◌, drop, filter, map, length, Option, Some, None, is_some, if◌then◌else◌}
use Rattle.fsa_types.specs.declared.reply.Body.TheVariants.{Nothing, Packed}
use Rattle.fsa_types.specs.declared.reply.EndOf.{EndOf}
use Rattle.fsa_types.specs.declared.reply.PackKind.TheVariants.{Changes}
use Rattle.fsa_types.specs.declared.reply.Reply.{Reply}
use Rattle.fsa_types.specs.declared.request.Call.{Call}
use Rattle.fsa_types.specs.declared.request.CallId.{CallId}
use Rattle.fsa_types.specs.declared.request.Request.TheVariants.{Notify}
use Rattle.fsa_types.specs.declared.request.What.{What}
use Rattle.fsa_types.specs.declared.request.What.TheVariants.{Ask}
use Rattle.fsa_types.specs.declared.status.Status.{Status}
use Rattle.fsa_types.specs.declared.status.Status.TheVariants.{Success, NotifyEnumDir}
use Rattle.fsa_model.specs.Engine.{CallsDiffer, is_entry_of, own_tried}
use Rattle.fsa_model.specs.History.{HistoryEntry, Run, begun, run, turn_on}
use Rattle.fsa_model.specs.Lookups.{handle_of}
use Rattle.fsa_model.specs.Outcome.{Outcome, Done, Stay, Hold}
use Rattle.fsa_model.specs.Settle.{Settling, starves, taken_up}
use Rattle.fsa_model.specs.Settling.{asks_report}
use Rattle.fsa_model.specs.Setup.{Setup}
use Rattle.fsa_model.specs.Try.{try}
use Rattle.fsa_model.specs.Turn.{turn_number}
use Rattle.fsa_model.specs.Volume.{Change, Pending, Volume, Watch}
use Rattle.fsa_model.specs.Waiting.{is_held, next_ready}
use Rattle.fsa_model.specs.Watching.{dir_of, due_size, is_asked_by, packed_changes, report, told_from, watch_of}

-- ---- watches that are fixed, and reports

-- the two statuses with which a Notify ends in a report
abbrev pub is_report_status : Status → Bool
is_report_status Success = true
is_report_status NotifyEnumDir = true
is_report_status _ = false

-- a Notify that fixes the watch of its handle, or to which that watch reports: the volume before it, the call, the
-- number of the handle, what it asks for, and the reply, where the watch reports
pub record Notice : Type 0 where
  pub before : Volume
  pub call : Call
  pub handle : ℕ
  pub filter : ℕ
  pub tree : Bool
  pub room : ℕ
  pub reply : Option Reply

-- a Notify's own try: it ends in a report, or it stays and fixes the watch, where the handle has none
abbrev pub notices_by : Volume → Call → ℕ → ℕ → Bool → ℕ → Outcome → List Notice
notices_by v call id filter whole room (Done w reply) =
    if is_report_status reply.status
    then record { before = v; call = call; handle = id; filter = filter; tree = whole; room = room; reply = Some reply } ∷ []
    else []
notices_by v call id filter whole room (Stay w interim) =
    if is_some (watch_of v id) then []
    else record { before = v; call = call; handle = id; filter = filter; tree = whole; room = room; reply = None } ∷ []
notices_by v call id filter whole room (Hold w blockers interim) = []

abbrev pub notices_asked : Volume → Call → What → Outcome → List Notice
notices_asked v call (Ask (Notify handle filter whole room)) outcome =
    option_map_or (λ id. notices_by v call id filter whole room outcome) (handle_of v call.client handle) []
notices_asked v call _ outcome = []

-- a Notify that is taken up: its watch reports, unless the call finds no memory
abbrev pub notices_reported : Settling → Pending → ℕ → ℕ → Bool → ℕ → List Notice
notices_reported s pending id filter whole room =
    if starves s.starved pending && nat_le (due_size s.volume id) room then []
    else record { before = s.volume; call = pending.call; handle = id; filter = filter; tree = whole; room = room; reply = Some (report s.volume id room) } ∷ []

abbrev pub notices_come : Settling → Pending → What → List Notice
notices_come s pending (Ask (Notify handle filter whole room)) =
    option_map_or (λ id. notices_reported s pending id filter whole room) (handle_of s.volume pending.call.client handle) []
notices_come s pending _ = []

-- what is taken up: a held call is tried, where it finds memory
abbrev pub notices_in : Settling → ℕ × Pending → List Notice
notices_in s entry =
    if is_held entry.1
    then (if starves s.starved entry.1 then [] else notices_asked s.volume entry.1.call entry.1.call.what (try s.volume entry.1.call entry.0))
    else notices_come s entry.1 entry.1.call.what

-- those of so many steps of a settlement from here on
abbrev pub notices_of_steps : ℕ → Settling → List Notice
notices_of_steps zero s = []
notices_of_steps (suc more) s = option_map_or (λ entry. notices_in s entry ++ notices_of_steps more (taken_up s entry)) (next_ready s.volume) []

-- those of the turn of this call, in which these calls found no memory
abbrev pub notices_of_turn : Volume → Call → List CallId → List Notice
notices_of_turn v call starved =
    notices_asked v call call.what (try v call (turn_number v))
    ++ notices_of_steps (length (own_tried v call).pending) (record { volume = own_tried v call; starved = starved; taken = [] })

-- those of these turns
abbrev pub notices_from : Run → List HistoryEntry → List Notice
notices_from r [] = []
notices_from r (entry ∷ more) =
    notices_of_turn r.volume entry.call entry.starved ++ option_map_or (λ next. notices_from next more) (turn_on r entry) []

-- those of a history from a fresh volume
abbrev pub notices_of : Setup → List HistoryEntry → List Notice
notices_of setup history = notices_from (begun setup) history

-- ---- what a report says

-- the last of these that passes
abbrev pub last_such : (Notice → Bool) → List Notice → Option Notice → Option Notice
last_such test [] last = last
last_such test (notice ∷ more) last = last_such test more (if test notice then Some notice else last)

-- the last report of the handle's watch or, before the first, the Notify that fixed it; and the last that fixed it
abbrev pub is_notice_of : ℕ → Notice → Bool
is_notice_of handle notice = notice.handle == handle

abbrev pub fixes_watch_of : ℕ → Notice → Bool
fixes_watch_of handle notice = notice.handle == handle && not (is_some notice.reply)

-- the changes noted from the one to the other
abbrev pub noted_between : Notice → Notice → List Change
noted_between earlier later = drop (length earlier.before.changes) later.before.changes

-- the watch of this handle, as this Notify fixed it, and with this place
abbrev pub watch_fixed : ℕ → Notice → Notice → Watch
watch_fixed handle fixed last = record { handle = handle; filter = fixed.filter; tree = fixed.tree; from = length last.before.changes }

-- what there is to say of these changes, of those that the watch of this directory asks for, in order
abbrev pub matching : Watch → ℕ → List Change → List (ℕ × List ℕ)
matching watch dir changes = map (told_from dir) (filter (is_asked_by watch dir) changes)

-- all of it, packed, where the room is enough; else no bytes, and the directory is to be listed
abbrev pub report_of : ℕ → List (ℕ × List ℕ) → Reply
report_of room changes =
    if nat_le (length (packed_changes changes)) room then record { status = Success; body = Packed Changes (packed_changes changes) }
    else record { status = NotifyEnumDir; body = Nothing }

-- after these the watch reports exactly the changes noted since its last report, or since it was fixed, that are of
-- its handle's directory, or below that where the whole tree counts, and under its filter; and there are some
pub record IsReport (earlier : List Notice) (notice : Notice) (reply : Reply) : Type 0 where
  pub fixed : Notice
  pub was_fixed : last_such (fixes_watch_of notice.handle) earlier None ≡ Some fixed
  pub last : Notice
  pub was_last : last_such (is_notice_of notice.handle) earlier None ≡ Some last
  pub dir : ℕ
  pub of_dir : dir_of notice.before notice.handle ≡ Some dir
  pub some : (length (matching (watch_fixed notice.handle fixed last) dir (noted_between last notice)) == 0) ≡ false
  pub says : reply ≡ report_of notice.room (matching (watch_fixed notice.handle fixed last) dir (noted_between last notice))

-- each of these that is a report is such, after those before it
abbrev pub EachReports : List Notice → List Notice → Type 0
EachReports earlier [] = Unit {0}
EachReports earlier (notice ∷ more) =
    ((reply : Reply) → notice.reply ≡ Some reply → IsReport earlier notice reply) × EachReports (earlier ++ notice ∷ []) more

-- ---- the ends of Notifies

-- the client's call of this number is a Notify of this history
abbrev pub is_notify_in : List HistoryEntry → ℕ → ℕ → Bool
is_notify_in history client number = list_any (λ entry. is_entry_of client number entry && asks_report entry.call.what) history

-- the end of a Notify with one of the two statuses
abbrev pub is_end_in_report : (ℕ → ℕ → Bool) → EndOf → Bool
is_end_in_report is_notify end = is_report_status end.reply.status && is_notify end.client end.number

-- the ends of the calls to which watches have reported, in order
abbrev pub ends_in : List Notice → List EndOf
ends_in [] = []
ends_in (notice ∷ more) =
    option_map_or (λ reply. record { client = notice.call.client; number = notice.call.number; reply = reply } ∷ ends_in more) notice.reply (ends_in more)

-- ---- the list of changes

-- changes were only added
pub record Adds (v w : Volume) : Type 0 where
  pub more : List Change
  pub is : w.changes ≡ v.changes ++ more

-- and so all along, from one volume to another
abbrev pub AddAlong : List Notice → Volume → Volume → Type 0
AddAlong [] v w = Adds v w
AddAlong (notice ∷ more) v w = Adds v notice.before × AddAlong more notice.before w

-- ---- all of a history

-- over this history each watch reports exactly the matching changes since its last report
pub record WatchesReport (setup : Setup) (history : List HistoryEntry) : Type 0 where
  pub reports : EachReports [] (notices_of setup history)
  pub adds : (r : Run) → run setup history ≡ Some r → AddAlong (notices_of setup history) (begun setup).volume r.volume
  -- and a Notify ends SUCCESS or NOTIFY_ENUM_DIR just where a watch reports to it
  pub ends : (r : Run) → CallsDiffer history → run setup history ≡ Some r → filter (is_end_in_report (is_notify_in history)) r.volume.ended ≡ ends_in (notices_of setup history)
