-- In each turn an oplock whose call is told of a break is as was told.
use Rattle.std.proofs.Common.{◌≡◌, ℕ, zero, suc, ◌≤◌, Bool, true, false, List, [], ◌∷◌, refl, arith, inl, inr, Option, Some, None}
use Rattle.std.specs.List.{fold}
use Rattle.std.specs.Option.{option_map_or}
use Rattle.std.specs.Prelude.{◌&&◌, nat_le, option_and_then, if◌then◌else◌}
use Rattle.std.proofs.lemmas.Bool.{cases_Bool}
use Rattle.fsa_types.specs.Oplocks.{has_read, in_both}
use Rattle.fsa_types.specs.Rows.{row_of}
use Rattle.fsa_types.specs.declared.reply.Body.TheVariants.{Nothing}
use Rattle.fsa_types.specs.declared.reply.Interim.TheVariants.{Granted}
use Rattle.fsa_types.specs.declared.reply.Reply.{Reply}
use Rattle.fsa_types.specs.declared.request.Call.{Call}
use Rattle.fsa_types.specs.declared.request.Level.{Level}
use Rattle.fsa_types.specs.declared.request.Request.TheVariants as request
use Rattle.fsa_types.specs.declared.request.What.{What}
use Rattle.fsa_types.specs.declared.request.What.TheVariants.{Ask, Leave}
use Rattle.fsa_types.specs.declared.status.Status.{Status}
use Rattle.fsa_types.specs.declared.status.Status.TheVariants.{Cancelled, InvalidHandle, InvalidParameter, NoMemory, OplockNotGranted, OplockSwitchedToNewHandle, Stalled}
use Rattle.fsa_model.specs.Close.{close_at, closed_status, handles_of_client, is_call_on, is_left_behind, pending_by_turn, try_close, try_leave, with_all_closed, with_calls_ended, with_client_gone, with_closed, with_mark_on_close}
use Rattle.fsa_model.specs.Edits.{is_call, is_lock_on, with_end, without_handle, without_oplock}
use Rattle.fsa_model.specs.Engine.{CallsDiffer, own_tried}
use Rattle.fsa_model.specs.Grant.{ack_at, ack_keeping, is_not_granted, oplock_at, oplock_by, oplock_on, switched, target_of, try_ack, try_oplock, with_granted, with_switched}
use Rattle.fsa_model.specs.History.{HistoryEntry}
use Rattle.fsa_model.specs.Locking.{try_unlock, unlock_at, unlock_by, unlock_range}
use Rattle.fsa_model.specs.Lookups.{handle_of, has_left, number_of}
use Rattle.fsa_model.specs.Outcome.{Outcome, Done, Stay, Hold, refused}
use Rattle.fsa_model.specs.Settle.{Settling, come_over, repeated, settle_step, starves, taken_up, taken_up_all, with_tried}
use Rattle.fsa_model.specs.Setup.{Setup}
use Rattle.fsa_model.specs.Try.{try, try_what}
use Rattle.fsa_model.specs.Turn.{answered, turn_number, volume_after}
use Rattle.fsa_model.specs.Volume.{Handle, Oplock, Pending, Volume}
use Rattle.fsa_model.specs.Waiting.{all_wait, is_held, next_ready, try_cancel, waits_in_order, with_oplock_given_up, with_stalled}
use Rattle.fsa_model.specs.Watching.{due_size, report, with_watch_seen}
use Rattle.fsa_model.proofs.KeepLaws.{Untouched-mark_on_close, Untouched-swept}
use Rattle.fsa_model.proofs.RowLaws.{option_cases}
use Rattle.fsa_model.proofs.TryLaws.{Untouched, Untouched-next}
use Rattle.history_laws.specs.Telling.{IsAsTold, LeftAsTold, asks_ack, tells_of_break, times_told}
use Rattle.history_laws.proofs.AsToldBreaks.{by-as_told, same-left}
use Rattle.history_laws.proofs.ByBreaks.{TriesByBreaks}
use Rattle.history_laws.proofs.OwnReplies.{EndsUntold, report-untold, try-untold}
use Rattle.history_laws.proofs.TargetRuns.{AreApart}
use Rattle.history_laws.proofs.ToldBreaks.{end-times}
use Rattle.history_laws.proofs.TriesByBreaks.{changes_otherwise, what-by_breaks}
use Rattle.history_laws.proofs.TurnTargets.{turn-apart}

-- ---- no call is told

-- no more ends tell of a break
record TellsNone (v w : Volume) : Type 0 where
  fewer : (test : Reply → Bool) (client number : ℕ) → times_told test client number w ≤ times_told test client number v

none-same : (v w : Volume) → w.ended ≡ v.ended → TellsNone v w
none-same v w ended = record { fewer = λ test client number. rw ended (omega arith) }

none-next : {u v w : Volume} → TellsNone u v → TellsNone v w → TellsNone u w
none-next first second = record { fewer = λ test client number. (let one = first.fewer test client number in let two = second.fewer test client number in omega arith) }

none-end : (v : Volume) (client number : ℕ) (reply : Reply) → tells_of_break reply ≡ false → TellsNone v (with_end v client number reply)
none-end v client number reply other = record { fewer = λ test by count. (let same = end-times v client number reply other test by count in omega arith) }

-- so the oplocks are as told
none-as_told : (v w : Volume) → TellsNone v w → IsAsTold v w
none-as_told v w none handle turn client number asked held pends more = absurd (let few = none.fewer (asks_ack asked) client number in omega arith)

-- these calls end
calls_ended : (status_of : What → Status) (calls : List (ℕ × Pending)) (v : Volume) → TellsNone v (with_calls_ended status_of calls v)
calls_ended status_of [] v = none-same v v refl
calls_ended status_of (entry ∷ calls) v =
    none-next (none-end v entry.1.call.client entry.1.call.number (record { status = status_of entry.1.call.what; body = Nothing }) refl)
    (calls_ended status_of calls (with_end v entry.1.call.client entry.1.call.number (record { status = status_of entry.1.call.what; body = Nothing })))

-- a handle is closed
closed : (v : Volume) (id : ℕ) (handle : Handle) → TellsNone v (with_closed v id handle)
unfolding with_closed
closed v id handle =
    let ended : Volume = with_calls_ended closed_status (pending_by_turn (is_call_on handle) v) v in
    let gone : Volume = without_handle ended id in
    let swept : Untouched gone (with_closed v id handle) = Untouched-next (Untouched-mark_on_close gone handle) (Untouched-swept (with_mark_on_close gone handle) handle) in
    none-next (calls_ended closed_status (pending_by_turn (is_call_on handle) v) v) (none-same ended (with_closed v id handle) swept.ended)

all_closed : (handles : List (ℕ × Handle)) (v : Volume) → TellsNone v (with_all_closed handles v)
all_closed [] v = none-same v v refl
all_closed (entry ∷ handles) v = none-next (closed v entry.0 entry.1) (all_closed handles (with_closed v entry.0 entry.1))

-- the oplocks of a key are switched
switches : (v : Volume) (o : Oplock) → TellsNone v (with_switched v o)
switches v o = elim (option_cases (option_and_then (row_of v.pending) o.call)) [
  | inl none ↦ rw none (none-same v (without_oplock v o.handle) refl)
  | inr row ↦ rw row.1 (none-next (none-same v (without_oplock v o.handle) refl)
      (none-end (without_oplock v o.handle) row.0.call.client row.0.call.number (record { status = OplockSwitchedToNewHandle; body = Nothing }) refl))
]

all_switched : (oplocks : List Oplock) (v : Volume) → TellsNone v (fold with_switched v oplocks)
all_switched [] v = none-same v v refl
all_switched (o ∷ oplocks) v = none-next (switches v o) (all_switched oplocks (with_switched v o))

-- ---- any try

record AsTold (v : Volume) (outcome : Outcome) : Type 0 where
  so : IsAsTold v (volume_after outcome)

goes-if : {v : Volume} (test : Bool) (one other : Outcome) → AsTold v one → AsTold v other → AsTold v (if test then one else other)
goes-if true one other holds fails = holds
goes-if false one other holds fails = fails

goes-option : {X : Type 0} {v : Volume} (found : Option X) (some : X → Outcome) (none : Outcome) → ((x : X) → AsTold v (some x)) → AsTold v none → AsTold v (option_map_or some found none)
goes-option None some none with_some with_none = with_none
goes-option (Some x) some none with_some with_none = with_some x

goes-none : (v : Volume) (outcome : Outcome) → TellsNone v (volume_after outcome) → AsTold v outcome
goes-none v outcome none = record { so = none-as_told v (volume_after outcome) none }

goes-same : (v : Volume) (outcome : Outcome) → (volume_after outcome).ended ≡ v.ended → AsTold v outcome
goes-same v outcome ended = goes-none v outcome (none-same v (volume_after outcome) ended)

granted : (v : Volume) (id key stream : ℕ) (level : Level) (turn : ℕ) → TellsNone v (with_granted v id key stream level turn)
granted v id key stream level turn = record { fewer = TellsNone.fewer (all_switched (switched v id key stream) v) }

oplock : (v : Volume) (client handle : ℕ) (level : Level) (turn : ℕ) → AsTold v (try_oplock v client handle level turn)
unfolding try_oplock oplock_at oplock_by oplock_on
oplock v client handle level turn =
    goes-option (handle_of v client handle) _ (refused v InvalidHandle) (λ id. goes-option (row_of v.handles id) _ (refused v InvalidHandle) (λ row. goes-option row.stream _ (refused v InvalidParameter)
    (λ stream. goes-if (is_not_granted v id row.key stream level) (refused v OplockNotGranted) _ (goes-same v _ refl) (goes-none v (Stay (with_granted v id row.key stream level turn) (Granted level)) (granted v id row.key stream level turn))) (goes-same v _ refl)) (goes-same v _ refl)) (goes-same v _ refl)

ack : (v : Volume) (client handle : ℕ) (level : Level) (turn : ℕ) → AsTold v (try_ack v client handle level turn)
unfolding try_ack ack_at ack_keeping
ack v client handle level turn =
    goes-option (handle_of v client handle) _ _
    (λ id. goes-option (target_of v id) _ _ (λ target. goes-if (has_read (in_both level target)) _ _ (goes-same v _ refl) (goes-same v _ refl)) (goes-same v _ refl)) (goes-same v _ refl)

unlock : (v : Volume) (client handle at count : ℕ) → AsTold v (try_unlock v client handle at count)
unfolding try_unlock unlock_at unlock_by unlock_range
unlock v client handle at count =
    goes-option (handle_of v client handle) _ _ (λ id. goes-option (row_of v.handles id) _ _ (λ row. goes-option row.stream _ _
    (λ stream. goes-option (number_of (is_lock_on id at count) v.locks) _ _ (λ number. goes-same v _ refl) (goes-same v _ refl)) (goes-same v _ refl)) (goes-same v _ refl)) (goes-same v _ refl)

close : (v : Volume) (client handle : ℕ) → AsTold v (try_close v client handle)
unfolding try_close close_at
close v client handle =
    goes-option (handle_of v client handle) _ _ (λ id. goes-option (row_of v.handles id) _ _ (λ row. goes-none v _ (closed v id row)) (goes-same v _ refl)) (goes-same v _ refl)

cancel : (v : Volume) (client number : ℕ) → AsTold v (try_cancel v client number)
unfolding try_cancel
cancel v client number =
    goes-option (number_of (is_call client number) v.pending) _ _
    (λ turn. goes-none v _ (none-next (none-same v (with_oplock_given_up v turn) refl)
    (none-end (with_oplock_given_up v turn) client number (record { status = Cancelled; body = Nothing }) refl))) (goes-same v _ refl)

leave : (v : Volume) (client : ℕ) → AsTold v (try_leave v client)
unfolding try_leave with_client_gone
leave v client =
    let ended : Volume = with_calls_ended (λ _. Cancelled) (pending_by_turn (is_left_behind client) v) v in
    goes-none v _ (none-next (calls_ended (λ _. Cancelled) (pending_by_turn (is_left_behind client) v) v)
    (none-next (all_closed (handles_of_client v client) ended) (none-same (with_all_closed (handles_of_client v client) ended) _ refl)))

what-as_told : (v : Volume) (turn client number : ℕ) (what : What) → AreApart v → AsTold v (try_what v turn client number what)
what-as_told v turn client number what apart = elim (cases_Bool (changes_otherwise what)) [
  | inr breaks ↦ record { so = by-as_told v _ (TriesByBreaks.so (what-by_breaks v turn client number what breaks)) apart }
  | inl more ↦ own what more
]
  where
    own : (what : What) → changes_otherwise what ≡ true → AsTold v (try_what v turn client number what)
    own (Ask (request.Oplock handle level)) more = oplock v client handle level turn
    own (Ask (request.Ack handle level)) more = ack v client handle level turn
    own (Ask (request.Unlock handle at count)) more = unlock v client handle at count
    own (Ask (request.Close handle)) more = close v client handle
    own (Ask (request.Cancel cancelled)) more = cancel v client cancelled
    own Leave more = leave v client
    own _ more = cc

try-as_told : (v : Volume) (call : Call) (turn : ℕ) → AreApart v → AsTold v (try v call turn)
try-as_told v call turn apart = goes-if (has_left v call.client) _ _ (goes-same v _ refl) (what-as_told v turn call.client call.number call.what apart)

-- ---- a turn

-- where no more calls are told, and oplocks stay
later : (u v w : Volume) → w.oplocks ≡ v.oplocks → TellsNone v w → IsAsTold u v → IsAsTold u w
later u v w oplocks none told handle turn client number asked held pends more =
    same-left handle asked v w oplocks (told handle turn client number asked held pends (let few = none.fewer (asks_ack asked) client number in omega arith))

as-tried : (u v : Volume) (client number : ℕ) (reply : Reply) → tells_of_break reply ≡ false → IsAsTold u v → IsAsTold u (with_end v client number reply)
as-tried u v client number reply other told = later u v (with_end v client number reply) refl (none-end v client number reply other) told

own-as_told : (v : Volume) (call : Call) → AreApart v → IsAsTold v (own_tried v call)
own-as_told v call apart = by (try v call (turn_number v)) (try-as_told v call (turn_number v) apart).so (try-untold v call (turn_number v)).so
  where
    by : (outcome : Outcome) → IsAsTold v (volume_after outcome) → EndsUntold outcome → IsAsTold v (answered call (turn_number v) outcome)
    by (Done w reply) told other = as-tried v w call.client call.number reply other told
    by (Stay w interim) told other = later v w (answered call (turn_number v) (Stay w interim)) refl (none-same w (answered call (turn_number v) (Stay w interim)) refl) told
    by (Hold w blockers interim) told other = later v w (answered call (turn_number v) (Hold w blockers interim)) refl (none-same w (answered call (turn_number v) (Hold w blockers interim)) refl) told

-- a call that is taken up
taken_up-as_told : (s : Settling) (entry : ℕ × Pending) → AreApart s.volume → IsAsTold s.volume (taken_up s entry).volume
taken_up-as_told s entry apart = elim (cases_Bool (is_held entry.1)) [
  | inr free ↦ rw free (none-as_told s.volume (come_over s entry.1 entry.1.call.what).volume (comes entry.1.call.what))
  | inl held ↦ rw held (elim (cases_Bool (starves s.starved entry.1)) [
    | inl starving ↦ rw starving (none-as_told s.volume _ (ended s.volume (record { status = NoMemory; body = Nothing }) refl))
    | inr plenty ↦ rw plenty (tried (try s.volume entry.1.call entry.0) (try-as_told s.volume entry.1.call entry.0 apart).so (try-untold s.volume entry.1.call entry.0).so)
  ])
]
  where
    ended : (w : Volume) (reply : Reply) → tells_of_break reply ≡ false → TellsNone w (with_end w entry.1.call.client entry.1.call.number reply)
    ended w reply other = none-end w entry.1.call.client entry.1.call.number reply other

    comes : (what : What) → TellsNone s.volume (come_over s entry.1 what).volume
    comes (Ask (request.Notify handle filter tree room)) = elim (option_cases (handle_of s.volume entry.1.call.client handle)) [
      | inl none ↦ rw none (none-same s.volume s.volume refl)
      | inr id ↦ rw id.1 (elim (cases_Bool (starves s.starved entry.1 && nat_le (due_size s.volume id.0) room)) [
        | inl starving ↦ rw starving (ended s.volume (record { status = NoMemory; body = Nothing }) refl)
        | inr plenty ↦ rw plenty (none-next (none-same s.volume (with_watch_seen s.volume id.0) refl) (ended (with_watch_seen s.volume id.0) (report s.volume id.0 room) (report-untold s.volume id.0 room)))
      ])
    ]
    comes _ = ended s.volume _ refl

    tried : (outcome : Outcome) → IsAsTold s.volume (volume_after outcome) → EndsUntold outcome → IsAsTold s.volume (with_tried entry.0 entry.1 outcome)
    tried (Done w reply) told other = as-tried s.volume w entry.1.call.client entry.1.call.number reply other told
    tried (Stay w interim) told other = later s.volume w (with_tried entry.0 entry.1 (Stay w interim)) refl (none-same w (with_tried entry.0 entry.1 (Stay w interim)) refl) told
    tried (Hold w blockers interim) told other = later s.volume w (with_tried entry.0 entry.1 (Hold w blockers interim)) refl (none-same w (with_tried entry.0 entry.1 (Hold w blockers interim)) refl) told

-- the step of a settlement after so many
step-as_told : (steps : ℕ) (s : Settling) → ((steps : ℕ) → AreApart (repeated settle_step steps s).volume) → IsAsTold (repeated settle_step steps s).volume (repeated settle_step (suc steps) s).volume
step-as_told zero s apart = elim (option_cases (next_ready s.volume)) [
  | inl none ↦ rw none (none-as_told s.volume s.volume (none-same s.volume s.volume refl))
  | inr found ↦ rw found.1 (taken_up-as_told s found.0 (apart 0))
]
step-as_told (suc steps) s apart = elim (option_cases (next_ready s.volume)) [
  | inl none ↦ rw none (none-as_told s.volume s.volume (none-same s.volume s.volume refl))
  | inr found ↦ rw found.1 (step-as_told steps (taken_up s found.0) (λ n. rw found.1 at (apart (suc n))))
]

-- and at last, where all clients wait
stalled-as_told : (v : Volume) → IsAsTold v (with_stalled v)
stalled-as_told v = elim (cases_Bool (all_wait v)) [
  | inl all ↦ rw all (none-as_told v _ (calls_ended (λ _. Stalled) (waits_in_order v) v))
  | inr some ↦ rw some (none-as_told v v (none-same v v refl))
]

pub left-as_told : (setup : Setup) (history : List HistoryEntry) → CallsDiffer history → LeftAsTold setup history
left-as_told setup history differ front later entry r is runs =
    let apart = turn-apart setup history front later entry r differ is runs in
    record {
      tried = own-as_told r.volume entry.call apart.before;
      stepped = λ steps. step-as_told steps (record { volume = own_tried r.volume entry.call; starved = entry.starved; taken = [] }) apart.so_far;
      stalled = stalled-as_told (taken_up_all (own_tried r.volume entry.call) entry.starved).volume;
    }
