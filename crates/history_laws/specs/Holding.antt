-- How long a pending call stays so, and that what is called off ends, and with which status.
use Rattle.std.specs.List.{All, filter, list_any}
use Rattle.std.specs.Option.{option_map_or}
use Rattle.std.specs.Prelude.{◌≡◌, ◌==◌, ◌&&◌, not, ℕ, suc, Bool, true, false, List, [], ◌∷◌, ◌++◌, Some, is_some}
use Rattle.fsa_types.specs.Rows.{row_of}
use Rattle.fsa_types.specs.declared.reply.Body.TheVariants.{Nothing}
use Rattle.fsa_types.specs.declared.reply.EndOf.{EndOf}
use Rattle.fsa_types.specs.declared.request.Call.{Call}
use Rattle.fsa_types.specs.declared.request.CallId.{CallId}
use Rattle.fsa_types.specs.declared.request.Request.TheVariants.{Ack, Cancel, Close, Notify, Oplock as OplockRequest}
use Rattle.fsa_types.specs.declared.request.What.{What}
use Rattle.fsa_types.specs.declared.request.What.TheVariants.{Ask, Leave}
use Rattle.fsa_types.specs.declared.status.Status.{Status}
use Rattle.fsa_types.specs.declared.status.Status.TheVariants.{Cancelled, NotifyCleanup, OplockHandleClosed}
use Rattle.fsa_model.specs.Close.{is_call_on}
use Rattle.fsa_model.specs.Edits.{is_call}
use Rattle.fsa_model.specs.Engine.{handle_granted, own_tried}
use Rattle.fsa_model.specs.History.{HistoryEntry, Run, run}
use Rattle.fsa_model.specs.Lookups.{handle_of}
use Rattle.fsa_model.specs.Once.{is_end}
use Rattle.fsa_model.specs.Reports.{settling_after}
use Rattle.fsa_model.specs.Settle.{taken_up_all}
use Rattle.fsa_model.specs.Setup.{Setup}
use Rattle.fsa_model.specs.Turn.{settlement}
use Rattle.fsa_model.specs.Volume.{Pending, Volume}
use Rattle.fsa_model.specs.Waiting.{all_wait, blocker_lives, is_blocked, is_held, is_ready, is_wait, next_ready}

-- what the client asks calls off the pending call, which is its own: it is a cancellation of that call, a close of the handle
-- that the call names, or the client's leaving
abbrev pub asks_off : Volume → ℕ → What → Pending → Bool
asks_off v client (Ask (Cancel number)) pending = is_call client number pending
asks_off v client (Ask (Close handle)) pending =
    option_map_or (λ id. option_map_or (λ row. is_call_on row pending) (row_of v.handles id) false) (handle_of v client handle) false
asks_off v client Leave pending = pending.call.client == client
asks_off v client _ pending = false

-- the call calls it off
abbrev pub calls_off : Volume → Call → Pending → Bool
calls_off v call pending = asks_off v call.client call.what pending

-- the pending call under this turn is the one that a settlement takes up next
abbrev pub is_next : Volume → ℕ → Bool
is_next v turn = option_map_or (λ entry. entry.0 == turn) (next_ready v) false

-- the pending call asks for an oplock or answers a break. Such a call is pending as granted, and ends also where a break of
-- its oplock tells it, or where another oplock of its key is granted on its stream
abbrev pub asks_oplock : Pending → Bool
asks_oplock pending = is_some (handle_granted pending.call.what)

-- which pending calls stay pending as they are, with the same turn, call and blockers. It's said by tests: where some entry of
-- the kind passes a test, an entry that passes it is there afterwards
pub record KeepsPending (v : Volume) (call : Call) (starved : List CallId) : Type 0 where
  -- at the turn's beginning no held call asks for an oplock or answers a break
  pub held_ask_for_none : list_any (λ entry. is_held entry.1 && asks_oplock entry.1) v.pending ≡ false
  -- in the try of the turn's call each pending call stays that neither asks for an oplock nor answers a break, be it held, a
  -- Notify or a wait, unless the turn's call calls it off
  pub tried : (test : ℕ × Pending → Bool) → list_any (λ entry. (not (asks_oplock entry.1) && not (calls_off v call entry.1)) && test entry) v.pending ≡ true
      → list_any (λ entry. not (asks_oplock entry.1) && test entry) (own_tried v call).pending ≡ true
  -- in each step of the settlement each such call stays but the one that the step takes up
  pub stepped : (steps : ℕ) (test : ℕ × Pending → Bool)
      → list_any (λ entry. (not (asks_oplock entry.1) && not (is_next (settling_after v call starved steps).volume entry.0)) && test entry) (settling_after v call starved steps).volume.pending ≡ true
      → list_any (λ entry. not (asks_oplock entry.1) && test entry) (settling_after v call starved (suc steps)).volume.pending ≡ true
  -- a held call that waits, after any step, for a break or a lock that lives then, stays so to the turn's end
  pub settled : (steps : ℕ) (test : ℕ × Pending → Bool)
      → list_any (λ entry. (is_held entry.1 && is_blocked (blocker_lives (settling_after v call starved steps).volume) entry.1) && test entry) (settling_after v call starved steps).volume.pending ≡ true
      → list_any (λ entry. is_held entry.1 && test entry) (settlement v call starved).volume.pending ≡ true
  -- after the last step, once all that is ready has been taken up, all stays but waits, and these too unless every client that
  -- hasn't left waits
  pub stalled : (test : ℕ × Pending → Bool)
      → list_any (λ entry. not (is_wait entry.1.call.what && all_wait (taken_up_all (own_tried v call) starved).volume) && test entry) (taken_up_all (own_tried v call) starved).volume.pending ≡ true
      → list_any test (settlement v call starved).volume.pending ≡ true
  -- so what neither asks for an oplock nor answers a break, is pending once the turn's call has been tried, and is ready after
  -- no step of the settlement, stays to the turn's end, unless it's a wait and every client that hasn't left waits once all
  -- that is ready has been taken up
  pub unready : (turn : ℕ) (test : Pending → Bool)
      → ((steps : ℕ) → list_any (λ entry. entry.0 == turn && is_ready (settling_after v call starved steps).volume entry.1) (settling_after v call starved steps).volume.pending ≡ false)
      → list_any (λ entry. entry.0 == turn && not (asks_oplock entry.1) && not (is_wait entry.1.call.what && all_wait (taken_up_all (own_tried v call) starved).volume) && test entry.1) (own_tried v call).pending ≡ true
      → list_any (λ entry. entry.0 == turn && not (asks_oplock entry.1) && test entry.1) (settlement v call starved).volume.pending ≡ true

-- so it is in each turn of a history
abbrev pub PendingStay : Setup → List HistoryEntry → Type 0
PendingStay setup history = (front later : List HistoryEntry) (entry : HistoryEntry) (r : Run) → history ≡ front ++ entry ∷ later → run setup front ≡ Some r
    → KeepsPending r.volume entry.call entry.starved

-- the status with which a pending call ends that is called off, for what calls it off and what it asks. A cancellation ends
-- each CANCELLED. A close, and a leaving, which closes all its client's handles, ends a Notify NOTIFY_CLEANUP, a call that asks
-- for an oplock or answers a break OPLOCK_HANDLE_CLOSED, and any other CANCELLED; a leaving also its opens and waits, which
-- name no handle
abbrev pub called_off_status : What → What → Status
called_off_status (Ask (Cancel number)) asked = Cancelled
called_off_status by (Ask (Notify handle filter tree room)) = NotifyCleanup
called_off_status by (Ask (OplockRequest handle level)) = OplockHandleClosed
called_off_status by (Ask (Ack handle level)) = OplockHandleClosed
called_off_status by asked = Cancelled

-- the end of the pending call that this one calls off: with that status, and no body
abbrev pub called_off_end : What → Pending → EndOf
called_off_end by pending = record {
  client = pending.call.client;
  number = pending.call.number;
  reply = record { status = called_off_status by pending.call.what; body = Nothing };
}

-- each pending call that the turn's call calls off, held or not, has just one end once the turn's call has been tried: with the
-- status for what calls it off and what it asks, and with no body. And none of these calls is pending then, nor at the turn's end
pub record EndsWhatItCallsOff (v : Volume) (call : Call) (starved : List CallId) : Type 0 where
  pub ended : All (λ entry. calls_off v call entry.1 ≡ true
      → filter (is_end entry.1.call.client entry.1.call.number) (own_tried v call).ended ≡ called_off_end call.what entry.1 ∷ []) v.pending
  pub tried : list_any (λ entry. calls_off v call entry.1) (own_tried v call).pending ≡ false
  pub settled : list_any (λ entry. calls_off v call entry.1) (settlement v call starved).volume.pending ≡ false

-- so it is in each turn of a history
abbrev pub CalledOffEnd : Setup → List HistoryEntry → Type 0
CalledOffEnd setup history = (front later : List HistoryEntry) (entry : HistoryEntry) (r : Run) → history ≡ front ++ entry ∷ later → run setup front ≡ Some r
    → EndsWhatItCallsOff r.volume entry.call entry.starved
