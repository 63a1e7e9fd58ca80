-- In each turn a call ends in what tells of a break only where an oplock is granted to it, and is told what a break of that tells.
use Rattle.std.proofs.Common.{◌≡◌, ℕ, zero, suc, ◌≤◌, Bool, true, false, not, List, [], ◌∷◌, refl, arith, inl, inr, Option, Some, None}
use Rattle.std.specs.List.{filter, fold}
use Rattle.std.specs.Option.{option_map_or}
use Rattle.std.specs.Prelude.{◌==◌, ◌&&◌, nat_le, option_and_then, if◌then◌else◌}
use Rattle.std.proofs.lemmas.Bool.{cases_Bool}
use Rattle.fsa_types.specs.Oplocks.{has_read, in_both}
use Rattle.fsa_types.specs.Rows.{row_of}
use Rattle.fsa_types.specs.declared.oplock.Class.TheVariants.{Clash}
use Rattle.fsa_types.specs.declared.reply.Body.TheVariants.{Nothing}
use Rattle.fsa_types.specs.declared.reply.Interim.TheVariants.{Granted}
use Rattle.fsa_types.specs.declared.reply.Reply.{Reply}
use Rattle.fsa_types.specs.declared.request.Call.{Call}
use Rattle.fsa_types.specs.declared.request.Level.{Level}
use Rattle.fsa_types.specs.declared.request.Request.TheVariants as request
use Rattle.fsa_types.specs.declared.request.What.{What}
use Rattle.fsa_types.specs.declared.request.What.TheVariants.{Ask, Leave}
use Rattle.fsa_types.specs.declared.status.Status.{Status}
use Rattle.fsa_types.specs.declared.status.Status.TheVariants.{Cancelled, NoMemory, OplockSwitchedToNewHandle, Stalled}
use Rattle.fsa_model.specs.Close.{close_at, closed_status, handles_of_client, is_call_on, is_left_behind, pending_by_turn, try_close, try_leave, with_all_closed, with_calls_ended, with_client_gone, with_closed, with_mark_on_close}
use Rattle.fsa_model.specs.Edits.{is_call, is_lock_on, with_end, without_handle, without_oplock}
use Rattle.fsa_model.specs.Engine.{own_tried}
use Rattle.fsa_model.specs.Grant.{ack_at, ack_keeping, oplock_at, oplock_by, oplock_on, switched, target_of, try_ack, try_oplock, with_granted, with_switched}
use Rattle.fsa_model.specs.History.{HistoryEntry}
use Rattle.fsa_model.specs.Locking.{try_unlock, unlock_at, unlock_by, unlock_range}
use Rattle.fsa_model.specs.Lookups.{handle_of, has_left, number_of}
use Rattle.fsa_model.specs.Outcome.{Outcome, Done, Stay, Hold}
use Rattle.fsa_model.specs.Settle.{Settling, come_over, repeated, settle_step, starves, taken_up, taken_up_all, with_tried}
use Rattle.fsa_model.specs.Setup.{Setup}
use Rattle.fsa_model.specs.Try.{try, try_what}
use Rattle.fsa_model.specs.Turn.{answered, turn_number, volume_after}
use Rattle.fsa_model.specs.Volume.{Handle, Oplock, Pending, Volume}
use Rattle.fsa_model.specs.Waiting.{all_wait, is_granted_under, is_held, next_ready, try_cancel, waits_in_order, with_oplock_given_up, with_stalled}
use Rattle.fsa_model.specs.Watching.{due_size, report, with_watch_seen}
use Rattle.fsa_model.proofs.CountLaws.{how_many-filter_le}
use Rattle.fsa_model.proofs.RowLaws.{option_cases}
use Rattle.history_laws.specs.Telling.{TellsOfOplock, ToldOfOplocks, tells_of_break, times_told}
use Rattle.history_laws.proofs.ByBreaks.{TriesByBreaks}
use Rattle.history_laws.proofs.OwnReplies.{EndsUntold, report-untold, try-untold}
use Rattle.history_laws.proofs.ToldBreaks.{Tells, by-tells, end-times, is_whole, none-told, tells-end, tells-next, tells-same}
use Rattle.history_laws.proofs.TriesByBreaks.{changes_otherwise, marked_on_close, swept, what-by_breaks}

-- ---- closes, leavings, cancellations, switches

-- these calls end
calls_ended-tells : (status_of : What → Status) (calls : List (ℕ × Pending)) (v : Volume) → Tells v (with_calls_ended status_of calls v)
calls_ended-tells status_of [] v = tells-same v v refl refl refl
calls_ended-tells status_of (entry ∷ calls) v =
    tells-next (tells-end v entry.1.call.client entry.1.call.number (record { status = status_of entry.1.call.what; body = Nothing }) refl)
    (calls_ended-tells status_of calls (with_end v entry.1.call.client entry.1.call.number (record { status = status_of entry.1.call.what; body = Nothing })))

-- oplocks go
without-tells : (v w : Volume) (keep : Oplock → Bool) → w.oplocks ≡ filter keep v.oplocks → w.pending ≡ v.pending → w.ended ≡ v.ended → Tells v w
without-tells v w keep oplocks pending ended = record {
  pending = λ test. rw pending (omega arith);
  whole = λ test. rw oplocks (how_many-filter_le (is_whole test) keep v.oplocks);
  told = none-told v w (λ test client number. rw ended (omega arith));
}

-- a handle is closed
closed-tells : (v : Volume) (id : ℕ) (handle : Handle) → Tells v (with_closed v id handle)
unfolding with_closed
closed-tells v id handle =
    let ended : Volume = with_calls_ended closed_status (pending_by_turn (is_call_on handle) v) v in
    let gone : Volume = without_handle ended id in
    let marked : Volume = with_mark_on_close gone handle in
    tells-next (calls_ended-tells closed_status (pending_by_turn (is_call_on handle) v) v)
    (tells-next (without-tells ended gone (λ oplock. not (oplock.handle == id)) refl refl refl) (tells-next (by-tells (marked_on_close {kind = Clash} gone handle)) (by-tells (swept {kind = Clash} marked handle))))

all_closed-tells : (handles : List (ℕ × Handle)) (v : Volume) → Tells v (with_all_closed handles v)
all_closed-tells [] v = tells-same v v refl refl refl
all_closed-tells (entry ∷ handles) v = tells-next (closed-tells v entry.0 entry.1) (all_closed-tells handles (with_closed v entry.0 entry.1))

-- the oplocks of a key are switched
switched-tells : (v : Volume) (o : Oplock) → Tells v (with_switched v o)
switched-tells v o = elim (option_cases (option_and_then (row_of v.pending) o.call)) [
  | inl none ↦ rw none (without-tells v (without_oplock v o.handle) (λ oplock. not (oplock.handle == o.handle)) refl refl refl)
  | inr row ↦ rw row.1 (tells-next (without-tells v (without_oplock v o.handle) (λ oplock. not (oplock.handle == o.handle)) refl refl refl)
      (tells-end (without_oplock v o.handle) row.0.call.client row.0.call.number (record { status = OplockSwitchedToNewHandle; body = Nothing }) refl))
]

all_switched-tells : (oplocks : List Oplock) (v : Volume) → Tells v (fold with_switched v oplocks)
all_switched-tells [] v = tells-same v v refl refl refl
all_switched-tells (o ∷ oplocks) v = tells-next (switched-tells v o) (all_switched-tells oplocks (with_switched v o))

-- ---- any try

-- a try that comes to this tells of breaks so
pub record Telling (v : Volume) (outcome : Outcome) : Type 0 where
  pub so : TellsOfOplock v (volume_after outcome)

goes-if : {v : Volume} (test : Bool) (one other : Outcome) → Telling v one → Telling v other → Telling v (if test then one else other)
goes-if true one other holds fails = holds
goes-if false one other holds fails = fails

goes-option : {X : Type 0} {v : Volume} (found : Option X) (some : X → Outcome) (none : Outcome) → ((x : X) → Telling v (some x)) → Telling v none → Telling v (option_map_or some found none)
goes-option None some none with_some with_none = with_none
goes-option (Some x) some none with_some with_none = with_some x

goes-done : {v w : Volume} (reply : Reply) → Tells v w → Telling v (Done w reply)
goes-done reply tells = record { so = tells.told }

-- what no call has ended in
goes-quiet : (v : Volume) (outcome : Outcome) → (volume_after outcome).ended ≡ v.ended → Telling v outcome
goes-quiet v outcome ended = record { so = none-told v (volume_after outcome) (λ test client number. rw ended (omega arith)) }

same : (v : Volume) → Tells v v
same v = tells-same v v refl refl refl

-- the oplock is granted
granted : (v : Volume) (id key stream : ℕ) (level : Level) (turn : ℕ) → Telling v (Stay (with_granted v id key stream level turn) (Granted level))
granted v id key stream level turn = record { so = Tells.told (all_switched-tells (switched v id key stream) v) }

ruleset going = (goes-if, goes-option, goes-done, same)

oplock : (v : Volume) (client handle : ℕ) (level : Level) (turn : ℕ) → Telling v (try_oplock v client handle level turn)
unfolding try_oplock oplock_at oplock_by oplock_on
oplock v client handle level turn = search (going, granted) depth 40 fits 4000

ack : (v : Volume) (client handle : ℕ) (level : Level) (turn : ℕ) → Telling v (try_ack v client handle level turn)
unfolding try_ack ack_at ack_keeping
ack v client handle level turn =
    goes-option (handle_of v client handle) _ _
    (λ id. goes-option (target_of v id) _ _ (λ target. goes-if (has_read (in_both level target)) _ _ (goes-quiet v _ refl) (goes-quiet v _ refl)) (goes-quiet v _ refl)) (goes-quiet v _ refl)

unlock : (v : Volume) (client handle at count : ℕ) → Telling v (try_unlock v client handle at count)
unfolding try_unlock unlock_at unlock_by unlock_range
unlock v client handle at count =
    goes-option (handle_of v client handle) _ _ (λ id. goes-option (row_of v.handles id) _ _ (λ row. goes-option row.stream _ _
    (λ stream. goes-option (number_of (is_lock_on id at count) v.locks) _ _ (λ number. goes-quiet v _ refl) (goes-quiet v _ refl)) (goes-quiet v _ refl)) (goes-quiet v _ refl)) (goes-quiet v _ refl)

close : (v : Volume) (client handle : ℕ) → Telling v (try_close v client handle)
unfolding try_close close_at
close v client handle = search (going, closed-tells) depth 40 fits 4000

cancel : (v : Volume) (client number : ℕ) → Telling v (try_cancel v client number)
unfolding try_cancel
cancel v client number =
    goes-option (number_of (is_call client number) v.pending) _ _
    (λ turn. goes-done _ (tells-next (without-tells v (with_oplock_given_up v turn) (λ oplock. not (is_granted_under turn oplock)) refl refl refl)
    (tells-end (with_oplock_given_up v turn) client number (record { status = Cancelled; body = Nothing }) refl))) (goes-quiet v _ refl)

leave : (v : Volume) (client : ℕ) → Telling v (try_leave v client)
unfolding try_leave with_client_gone
leave v client =
    let ended : Volume = with_calls_ended (λ _. Cancelled) (pending_by_turn (is_left_behind client) v) v in
    goes-done _ (tells-next (calls_ended-tells (λ _. Cancelled) (pending_by_turn (is_left_behind client) v) v)
    (tells-next (all_closed-tells (handles_of_client v client) ended) (tells-same (with_all_closed (handles_of_client v client) ended) _ refl refl refl)))

what-tells : (v : Volume) (turn client number : ℕ) (what : What) → Telling v (try_what v turn client number what)
what-tells v turn client number what = elim (cases_Bool (changes_otherwise what)) [
  | inr breaks ↦ record { so = Tells.told (by-tells (TriesByBreaks.so (what-by_breaks v turn client number what breaks))) }
  | inl more ↦ own what more
]
  where
    own : (what : What) → changes_otherwise what ≡ true → Telling v (try_what v turn client number what)
    own (Ask (request.Oplock handle level)) more = oplock v client handle level turn
    own (Ask (request.Ack handle level)) more = ack v client handle level turn
    own (Ask (request.Unlock handle at count)) more = unlock v client handle at count
    own (Ask (request.Close handle)) more = close v client handle
    own (Ask (request.Cancel cancelled)) more = cancel v client cancelled
    own Leave more = leave v client
    own _ more = cc

pub try-tells : (v : Volume) (call : Call) (turn : ℕ) → Telling v (try v call turn)
try-tells v call turn = goes-if (has_left v call.client) _ _ (goes-quiet v _ refl) (what-tells v turn call.client call.number call.what)

-- ---- a turn

-- where no more calls are told than a try has told
as-tried : (u v w : Volume) → TellsOfOplock u v → ((test : Reply → Bool) (client number : ℕ) → times_told test client number w ≤ times_told test client number v) → TellsOfOplock u w
as-tried u v w told fewer test client number more = told test client number (let few = fewer test client number in omega arith)

-- the turn's own call
pub own-tells : (v : Volume) (call : Call) → TellsOfOplock v (own_tried v call)
own-tells v call = by (try v call (turn_number v)) (try-tells v call (turn_number v)).so (try-untold v call (turn_number v)).so
  where
    by : (outcome : Outcome) → TellsOfOplock v (volume_after outcome) → EndsUntold outcome → TellsOfOplock v (answered call (turn_number v) outcome)
    by (Done w reply) told other = as-tried v w (with_end w call.client call.number reply) told (λ test client number. (let equal = end-times w call.client call.number reply other test client number in omega arith))
    by (Stay w interim) told other = told
    by (Hold w blockers interim) told other = told

-- a call that is taken up
pub taken_up-tells : (s : Settling) (entry : ℕ × Pending) → TellsOfOplock s.volume (taken_up s entry).volume
taken_up-tells s entry = elim (cases_Bool (is_held entry.1)) [
  | inr free ↦ rw free (comes entry.1.call.what)
  | inl held ↦ rw held (elim (cases_Bool (starves s.starved entry.1)) [
    | inl starving ↦ rw starving (ended s.volume (record { status = NoMemory; body = Nothing }) refl)
    | inr plenty ↦ rw plenty (tried (try s.volume entry.1.call entry.0) (try-tells s.volume entry.1.call entry.0).so (try-untold s.volume entry.1.call entry.0).so)
  ])
]
  where
    ended : (w : Volume) (reply : Reply) → tells_of_break reply ≡ false → TellsOfOplock w (with_end w entry.1.call.client entry.1.call.number reply)
    ended w reply other = Tells.told (tells-end w entry.1.call.client entry.1.call.number reply other)

    comes : (what : What) → TellsOfOplock s.volume (come_over s entry.1 what).volume
    comes (Ask (request.Notify handle filter tree room)) = elim (option_cases (handle_of s.volume entry.1.call.client handle)) [
      | inl none ↦ rw none (none-told s.volume s.volume (λ test client number. omega arith))
      | inr id ↦ rw id.1 (elim (cases_Bool (starves s.starved entry.1 && nat_le (due_size s.volume id.0) room)) [
        | inl starving ↦ rw starving (ended s.volume (record { status = NoMemory; body = Nothing }) refl)
        | inr plenty ↦ rw plenty (Tells.told (tells-next (tells-same s.volume (with_watch_seen s.volume id.0) refl refl refl)
            (tells-end (with_watch_seen s.volume id.0) entry.1.call.client entry.1.call.number (report s.volume id.0 room) (report-untold s.volume id.0 room))))
      ])
    ]
    comes _ = ended s.volume _ refl

    tried : (outcome : Outcome) → TellsOfOplock s.volume (volume_after outcome) → EndsUntold outcome → TellsOfOplock s.volume (with_tried entry.0 entry.1 outcome)
    tried (Done w reply) told other = as-tried s.volume w (with_end w entry.1.call.client entry.1.call.number reply) told (λ test client number. (let equal = end-times w entry.1.call.client entry.1.call.number reply other test client number in omega arith))
    tried (Stay w interim) told other = told
    tried (Hold w blockers interim) told other = told

-- the step of a settlement after so many
step-tells : (steps : ℕ) (s : Settling) → TellsOfOplock (repeated settle_step steps s).volume (repeated settle_step (suc steps) s).volume
step-tells zero s = elim (option_cases (next_ready s.volume)) [
  | inl none ↦ rw none (none-told s.volume s.volume (λ test client number. omega arith))
  | inr found ↦ rw found.1 (taken_up-tells s found.0)
]
step-tells (suc steps) s = elim (option_cases (next_ready s.volume)) [
  | inl none ↦ rw none (none-told s.volume s.volume (λ test client number. omega arith))
  | inr found ↦ rw found.1 (step-tells steps (taken_up s found.0))
]

-- and at last, where all clients wait
stalled-tells : (v : Volume) → TellsOfOplock v (with_stalled v)
stalled-tells v = elim (cases_Bool (all_wait v)) [
  | inl all ↦ rw all (Tells.told (calls_ended-tells (λ _. Stalled) (waits_in_order v) v))
  | inr some ↦ rw some (none-told v v (λ test client number. omega arith))
]

-- in each turn, of whatever volume
pub told-of_oplocks : (setup : Setup) (history : List HistoryEntry) → ToldOfOplocks setup history
told-of_oplocks setup history front later entry r is runs = record {
  tried = own-tells r.volume entry.call;
  stepped = λ steps. step-tells steps (record { volume = own_tried r.volume entry.call; starved = entry.starved; taken = [] });
  stalled = stalled-tells (taken_up_all (own_tried r.volume entry.call) entry.starved).volume;
}
