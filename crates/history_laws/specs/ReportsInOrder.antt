-- To which Notify a watch reports: to the earliest pending one of its handle, or to one that is just made where none is pending.
-- After [MS-FSA] 'Server Requests Change Notifications for a Directory' and 'Algorithm for Reporting a Change Notification for a
-- Directory'.
use Rattle.std.specs.Option.{option_map_or}
use Rattle.std.specs.Prelude.{◌≡◌, ◌≤◌, ℕ, Bool, true, false, All, List, ◌∷◌, ◌++◌, Option, Some, None, is_some}
use Rattle.fsa_types.specs.Rows.{row_of}
use Rattle.fsa_types.specs.declared.request.Call.{Call}
use Rattle.fsa_types.specs.declared.request.Request.TheVariants.{Notify}
use Rattle.fsa_types.specs.declared.request.What.{What}
use Rattle.fsa_types.specs.declared.request.What.TheVariants.{Ask}
use Rattle.fsa_model.specs.History.{HistoryEntry, Run, run}
use Rattle.fsa_model.specs.Reports.{settling_after}
use Rattle.fsa_model.specs.Setup.{Setup}
use Rattle.fsa_model.specs.Volume.{Pending, Volume}
use Rattle.fsa_model.specs.Waiting.{is_notify_on, next_ready}
use Rattle.fsa_model.specs.Watched.{Notice, notices_of}

-- the number of the handle that a Notify names; other calls give none
abbrev pub notify_handle : What → Option ℕ
notify_handle (Ask (Notify handle filter tree room)) = Some handle
notify_handle _ = None

-- the pending call is a Notify of the same client and handle as this call, which is a Notify
abbrev pub is_of_its_handle : Call → Pending → Bool
is_of_its_handle call pending = option_map_or (λ handle. is_notify_on call.client handle pending) (notify_handle call.what) false

-- a call that is taken up or reported to in this volume: where it is a Notify, either no Notify of its handle is pending (then it is
-- just made), or it is pending itself, and no Notify of its handle is so under an earlier turn
pub data IsEarliest (v : Volume) (call : Call) : Type 0 where
  JustMade : All (λ entry. is_of_its_handle call entry.1 ≡ false) v.pending → IsEarliest v call
  Pends : (turn : ℕ) (pending : Pending) → row_of v.pending turn ≡ Some pending → pending.call ≡ call → All (λ entry. is_of_its_handle call entry.1 ≡ true → turn ≤ entry.0) v.pending → IsEarliest v call

-- over this history: each report goes to such a Notify, and each Notify that a settlement takes up is such a one, also where it finds no
-- memory for its report
pub record ReportsGoToEarliest (setup : Setup) (history : List HistoryEntry) : Type 0 where
  pub reported : All (λ (notice : Notice). is_some notice.reply ≡ true → IsEarliest notice.before notice.call) (notices_of setup history)
  pub taken_up : (front later : List HistoryEntry) (entry : HistoryEntry) (r : Run) (steps : ℕ) (next : ℕ × Pending) → history ≡ front ++ entry ∷ later → run setup front ≡ Some r
      → next_ready (settling_after r.volume entry.call entry.starved steps).volume ≡ Some next → IsEarliest (settling_after r.volume entry.call entry.starved steps).volume next.1.call
