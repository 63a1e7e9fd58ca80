-- A try of any call stays within its frame: closes, leavings, unlocks, cancellations, waits
-- and the clock, and then all calls.
use Rattle.std.proofs.Common.{◌≡◌, ℕ, Bool, true, not, List, [], ◌∷◌, get_or, refl, arith, inl, inr, Option, Some, None}
use Rattle.std.specs.List.{filter, find, list_any, All}
use Rattle.std.specs.Option.{option_map_or}
use Rattle.std.specs.Prelude.{◌==◌, nat_lt, IsTrue}
use Rattle.std.proofs.lemmas.Bool.{cases_Bool}
use Rattle.std.proofs.lemmas.List.Elements.{All-head, All-tail, All-cons, All-filter}
use Rattle.std.proofs.lemmas.List.Folds.{list_any_at}
use Rattle.fsa_types.specs.Rows.{row_of, without_row}
use Rattle.fsa_types.specs.Sorting.{put_in_order, in_order}
use Rattle.fsa_types.specs.declared.reply.Body.TheVariants.{Nothing}
use Rattle.fsa_types.specs.declared.request.Call.{Call}
use Rattle.fsa_types.specs.declared.request.Request.{Request}
use Rattle.fsa_types.specs.declared.request.Request.TheVariants.{Close, Unlock, Oplock as OplockOf, Ack, Notify, Cancel}
use Rattle.fsa_types.specs.declared.request.What.{What}
use Rattle.fsa_types.specs.declared.request.What.TheVariants.{Ask, Tick, WaitFor, Leave}
use Rattle.fsa_types.specs.declared.status.Status.{Status}
use Rattle.fsa_types.specs.declared.status.Status.TheVariants.{Success, InvalidHandle, InvalidParameter, RangeNotLocked, Cancelled}
use Rattle.fsa_model.specs.Close.{is_call_on, closed_status, is_left_behind, pending_by_turn, with_calls_ended, named_stream, is_link_of_parent, with_mark_on_close, is_stream_over, with_stream_swept, is_link_over, name_bit, with_link_swept, with_swept, with_closed, close_at, try_close, handles_of_client, with_all_closed, with_client_gone, try_leave}
use Rattle.fsa_model.specs.Edits.{is_lock_on, with_end, with_left, with_stream_marked, with_ticks, without_lock, without_file_unless_linked, without_handle, without_link, is_call}
use Rattle.fsa_model.specs.Frame.{PointsFit, KeepsFrame, InFrame}
use Rattle.fsa_model.specs.Locking.{unlock_range, unlock_by, unlock_at, try_unlock}
use Rattle.fsa_model.specs.Lookups.{handle_of, has_left, has_row, number_of}
use Rattle.fsa_model.specs.Outcome.{ends_with}
use Rattle.fsa_model.specs.Try.{try_request, try_what, try}
use Rattle.fsa_model.specs.Volume.{Handle, Link, Lock, Pending, Volume}
use Rattle.fsa_model.specs.Waiting.{has_ended, is_pending, try_wait, with_oplock_given_up, with_cancelled, try_cancel}
use Rattle.fsa_model.proofs.FrameLaws.{AddsNothing, AddsNothing-same, AddsNothing-next, AddsNothing-alike, AddsNothing-fewer, AddsNothing-without_file, AddsNothing-end, AddsNothing-if, AddsNothing-option, AddsNothing-noted, EndsPending-equal, KeepsFrame-adds_nothing, KeepsFrame-after, InFrame-refused, InFrame-ends, InFrame-if, InFrame-option}
use Rattle.fsa_model.proofs.FrameOplocks.{try_oplock-frame, try_ack-frame}
use Rattle.fsa_model.proofs.FrameWatches.{try_notify-frame}
use Rattle.fsa_model.proofs.ObeyLaws.{Obeys}
use Rattle.fsa_model.proofs.OnceLaws.{is_same-refl}
use Rattle.fsa_model.proofs.RowLaws.{option_cases, find-any}
use Rattle.fsa_model.proofs.TryObeys.{asks, has_own_laws, try_request-obeys}
use Rattle.fsa_model.proofs.WaitLaws.{find-passes}

-- ---- closes, and clients that leave

-- pending calls, in any order
All-put_in_order : {T : Type 0} (P : T → Type 0) (before : T → T → Bool) (item : T) (items : List T) → P item → All P items → All P (put_in_order before item items)
All-put_in_order P before item [] holds all = All-cons P item [] holds all
All-put_in_order P before item (first ∷ items) holds all = elim (cases_Bool (before item first)) [
  | inl here ↦ rw here (All-cons P item (first ∷ items) holds all)
  | inr later ↦ rw later (All-cons P first (put_in_order before item items) (All-head P first items all) (All-put_in_order P before item items holds (All-tail P first items all)))
]

All-in_order : {T : Type 0} (P : T → Type 0) (before : T → T → Bool) (items : List T) → All P items → All P (in_order before items)
All-in_order P before [] all = all
All-in_order P before (item ∷ items) all = All-put_in_order P before item (in_order before items) (All-head P item items all) (All-in_order P before items (All-tail P item items all))

abbrev ArePendingIn : Volume → List (ℕ × Pending) → Type 0
ArePendingIn v calls = All (λ entry. IsTrue (is_pending v entry.1.call.client entry.1.call.number)) calls

pending_by_turn-pending : (v : Volume) (test : Pending → Bool) → ArePendingIn v (pending_by_turn test v)
pending_by_turn-pending v test =
    All-in_order (λ (entry : ℕ × Pending). IsTrue (is_pending v entry.1.call.client entry.1.call.number)) (λ a b. nat_lt a.0 b.0) (filter (λ entry. test entry.1) v.pending)
    (All-filter (λ (entry : ℕ × Pending). test entry.1) (λ entry. IsTrue (is_pending v entry.1.call.client entry.1.call.number)) v.pending
    (λ k d within. list_any_at (λ (other : ℕ × Pending). is_call (get_or v.pending k d).1.call.client (get_or v.pending k d).1.call.number other.1) v.pending k d within
    (is_same-refl (get_or v.pending k d).1.call.client (get_or v.pending k d).1.call.number)))

-- they end
ends_all : {v : Volume} (status_of : What → Status) (calls : List (ℕ × Pending)) (w : Volume) → AddsNothing v w → ArePendingIn v calls → AddsNothing v (with_calls_ended status_of calls w)
ends_all status_of [] w nothing were = nothing
ends_all {v} status_of (entry ∷ calls) w nothing were =
    ends_all status_of calls (with_end w entry.1.call.client entry.1.call.number (record { status = status_of entry.1.call.what; body = Nothing }))
    (AddsNothing-end entry.1.call.client entry.1.call.number (record { status = status_of entry.1.call.what; body = Nothing }) nothing
    (All-head (λ (e : ℕ × Pending). IsTrue (is_pending v e.1.call.client e.1.call.number)) entry calls were) (record { bytes = refl; units = refl }))
    (All-tail (λ (e : ℕ × Pending). IsTrue (is_pending v e.1.call.client e.1.call.number)) entry calls were)

AddsNothing-calls_ended : (status_of : What → Status) (test : Pending → Bool) (v : Volume) → AddsNothing v (with_calls_ended status_of (pending_by_turn test v) v)
AddsNothing-calls_ended status_of test v = ends_all status_of (pending_by_turn test v) v (AddsNothing-same v) (pending_by_turn-pending v test)

AddsNothing-without_handle : (v : Volume) (id : ℕ) → AddsNothing v (without_handle v id)
AddsNothing-without_handle v id =
    let fewer : Volume = record v { handles = without_row v.handles id; locks = filter (λ entry. not (entry.1.handle == id)) v.locks } in
    AddsNothing-next {v = fewer} (AddsNothing-fewer v (λ entry. not (entry.0 == id)) (λ entry. not (entry.1.handle == id))) (AddsNothing-alike fewer (without_handle v id) refl)

AddsNothing-mark_on_close : (v : Volume) (handle : Handle) → AddsNothing v (with_mark_on_close v handle)
AddsNothing-mark_on_close v handle =
    AddsNothing-if (not handle.delete_on_close) v _ (AddsNothing-same v)
    (AddsNothing-option (named_stream v handle) (λ stream. with_stream_marked v stream true) _ (λ stream. AddsNothing-alike v _ refl)
    (AddsNothing-if (is_link_of_parent v handle.link) v _ (AddsNothing-same v) (AddsNothing-alike v _ refl)))

AddsNothing-stream_swept : (v : Volume) (link stream : ℕ) → AddsNothing v (with_stream_swept v link stream)
AddsNothing-stream_swept v link stream =
    AddsNothing-if (is_stream_over v stream) _ v (AddsNothing-next (AddsNothing-noted v link 7 0x200 (Some stream)) (AddsNothing-alike _ _ refl)) (AddsNothing-same v)

AddsNothing-without_link : (v : Volume) (link : ℕ) → AddsNothing v (without_link v link)
AddsNothing-without_link v link =
    AddsNothing-option (row_of v.links link) (λ (row : Link). without_file_unless_linked (record v { links = without_row v.links link }) row.file) v
    (λ (row : Link). AddsNothing-if (has_row (λ (other : Link). other.file == row.file) (without_row v.links link)) _ _ (AddsNothing-alike v _ refl)
    (AddsNothing-next (AddsNothing-without_file v row.file) (AddsNothing-alike _ _ refl)))
    (AddsNothing-same v)

AddsNothing-link_swept : (v : Volume) (link : ℕ) → AddsNothing v (with_link_swept v link)
AddsNothing-link_swept v link =
    AddsNothing-if (is_link_over v link) _ v (AddsNothing-next (AddsNothing-noted v link 2 (name_bit v link) None) (AddsNothing-without_link _ link)) (AddsNothing-same v)

AddsNothing-swept : (v : Volume) (handle : Handle) → AddsNothing v (with_swept v handle)
AddsNothing-swept v handle =
    AddsNothing-next (AddsNothing-option handle.stream (λ stream. with_stream_swept v handle.link stream) v (λ stream. AddsNothing-stream_swept v handle.link stream) (AddsNothing-same v))
    (AddsNothing-link_swept _ handle.link)

AddsNothing-closed : (v : Volume) (id : ℕ) (handle : Handle) → AddsNothing v (with_closed v id handle)
unfolding with_closed
AddsNothing-closed v id handle =
    let ended : Volume = with_calls_ended closed_status (pending_by_turn (is_call_on handle) v) v in
    let gone : Volume = without_handle ended id in
    let marked : Volume = with_mark_on_close gone handle in
    AddsNothing-next (AddsNothing-calls_ended closed_status (is_call_on handle) v)
    (AddsNothing-next (AddsNothing-without_handle ended id) (AddsNothing-next (AddsNothing-mark_on_close gone handle) (AddsNothing-swept marked handle)))

close_at-frame : (call : Call) (v : Volume) (id : ℕ) → InFrame call v (close_at v id)
unfolding close_at
close_at-frame call v id =
    InFrame-option (row_of v.handles id) (λ handle. ends_with (with_closed v id handle) Success) _
    (λ handle found. InFrame-ends call v _ Success (KeepsFrame-adds_nothing (AddsNothing-closed v id handle)) refl) (InFrame-refused call v InvalidHandle)

pub try_close-frame : (call : Call) (v : Volume) (client handle : ℕ) → InFrame call v (try_close v client handle)
unfolding try_close
try_close-frame call v client handle = InFrame-option (handle_of v client handle) (λ id. close_at v id) _ (λ id found. close_at-frame call v id) (InFrame-refused call v InvalidHandle)

AddsNothing-all_closed : (handles : List (ℕ × Handle)) (v : Volume) → AddsNothing v (with_all_closed handles v)
AddsNothing-all_closed [] v = AddsNothing-same v
AddsNothing-all_closed (entry ∷ handles) v = AddsNothing-next (AddsNothing-closed v entry.0 entry.1) (AddsNothing-all_closed handles (with_closed v entry.0 entry.1))

-- the call's client has left
KeepsFrame-left : (v : Volume) (client number : ℕ) → KeepsFrame (record { client = client; number = number; what = Leave }) v (with_left v client)
KeepsFrame-left v client number = record {
  table = refl;
  clients = refl;
  left = inr (refl, refl);
  clock = inl refl;
  handles = λ test all own. all;
  locks = λ test all own. all;
  numbers = record {
    files = omega arith;
    links = omega arith;
    streams = omega arith;
    handles = omega arith;
    locks = omega arith;
    handles_of_creates = λ other. refl;
    locks_of_locks = λ other. refl;
  };
  pending = λ client number is. is;
  ended = EndsPending-equal refl;
  points = λ fits fit. fit;
}

pub try_leave-frame : (v : Volume) (client number : ℕ) → InFrame (record { client = client; number = number; what = Leave }) v (try_leave v client)
unfolding try_leave with_client_gone
try_leave-frame v client number =
    let ended : Volume = with_calls_ended (λ _. Cancelled) (pending_by_turn (is_left_behind client) v) v in
    let closed : Volume = with_all_closed (handles_of_client v client) ended in
    InFrame-ends (record { client = client; number = number; what = Leave }) v (with_left closed client) Success
    (KeepsFrame-after (AddsNothing-next (AddsNothing-calls_ended (λ _. Cancelled) (is_left_behind client) v) (AddsNothing-all_closed (handles_of_client v client) ended))
    (KeepsFrame-left closed client number)) refl

-- ---- unlocks

without_lock-found : (v : Volume) (found : Option ℕ) → AddsNothing v (record v { locks = option_map_or (λ (number : ℕ). without_row v.locks number) found v.locks })
without_lock-found v None = AddsNothing-same v
without_lock-found v (Some number) = record {
  table = refl;
  clients = refl;
  left = refl;
  clock = refl;
  handles = λ test all. all;
  locks = λ test all. All-filter (λ (entry : ℕ × Lock). not (entry.0 == number)) (λ entry. IsTrue (test entry)) v.locks all;
  last_file = refl;
  last_link = refl;
  last_stream = refl;
  last_handle = refl;
  last_lock = refl;
  pending = λ client number is. is;
  ended = EndsPending-equal refl;
  points = λ fit. fit;
}

unlock_range-frame : (call : Call) (v : Volume) (id at count : ℕ) → InFrame call v (unlock_range v id at count)
unfolding unlock_range
unlock_range-frame call v id at count =
    InFrame-option (number_of (is_lock_on id at count) v.locks) (λ _. ends_with (without_lock v id at count) Success) _
    (λ number found. InFrame-ends call v (without_lock v id at count) Success (KeepsFrame-adds_nothing (without_lock-found v (number_of (is_lock_on id at count) v.locks))) refl) (InFrame-refused call v RangeNotLocked)

unlock_by-frame : (call : Call) (v : Volume) (id : ℕ) (handle : Handle) (at count : ℕ) → InFrame call v (unlock_by v id handle at count)
unfolding unlock_by
unlock_by-frame call v id handle at count = InFrame-option handle.stream (λ _. unlock_range v id at count) _ (λ stream is. unlock_range-frame call v id at count) (InFrame-refused call v InvalidParameter)

unlock_at-frame : (call : Call) (v : Volume) (id at count : ℕ) → InFrame call v (unlock_at v id at count)
unfolding unlock_at
unlock_at-frame call v id at count =
    InFrame-option (row_of v.handles id) (λ handle. unlock_by v id handle at count) _ (λ handle found. unlock_by-frame call v id handle at count) (InFrame-refused call v InvalidHandle)

pub try_unlock-frame : (call : Call) (v : Volume) (client handle at count : ℕ) → InFrame call v (try_unlock v client handle at count)
unfolding try_unlock
try_unlock-frame call v client handle at count =
    InFrame-option (handle_of v client handle) (λ id. unlock_at v id at count) _ (λ id found. unlock_at-frame call v id at count) (InFrame-refused call v InvalidHandle)

-- ---- waits, cancellations and the clock

pub try_wait-frame : (v : Volume) (client number earlier : ℕ) → InFrame (record { client = client; number = number; what = WaitFor earlier }) v (try_wait v client earlier)
unfolding try_wait
try_wait-frame v client number earlier =
    InFrame-if (has_ended v client earlier) _ _ (λ is. InFrame-refused call v Success)
    (λ no. InFrame-if (is_pending v client earlier) _ _ (λ is. record { so = (KeepsFrame-adds_nothing (AddsNothing-same v), (is, refl)) }) (λ isnt. InFrame-refused call v InvalidParameter))
  where
    call : Call
    call = record { client = client; number = number; what = WaitFor earlier }

is_pending-numbered : (rows : List (ℕ × Pending)) (client number turn : ℕ) → number_of (is_call client number) rows ≡ Some turn → list_any (λ (entry : ℕ × Pending). is_call client number entry.1) rows ≡ true
is_pending-numbered rows client number turn found = elim (option_cases (find (λ (entry : ℕ × Pending). is_call client number entry.1) rows)) [
  | inl none ↦ (let impossible : None ≡ Some turn = rw none at found in cc)
  | inr some ↦ find-any (λ (entry : ℕ × Pending). is_call client number entry.1) (λ entry. is_call client number entry.1) rows some.0 some.1 (find-passes (λ (entry : ℕ × Pending). is_call client number entry.1) rows some.0 some.1)
]

AddsNothing-cancelled : (v : Volume) (client number turn : ℕ) → IsTrue (is_pending v client number) → AddsNothing v (with_cancelled v client number turn)
AddsNothing-cancelled v client number turn was =
    AddsNothing-end client number (record { status = Cancelled; body = Nothing }) (AddsNothing-alike v (with_oplock_given_up v turn) refl) was (record { bytes = refl; units = refl })

pub try_cancel-frame : (call : Call) (v : Volume) (client number : ℕ) → InFrame call v (try_cancel v client number)
unfolding try_cancel
try_cancel-frame call v client number =
    InFrame-option (number_of (is_call client number) v.pending) (λ turn. ends_with (with_cancelled v client number turn) Success) _
    (λ turn found. InFrame-ends call v _ Success (KeepsFrame-adds_nothing (AddsNothing-cancelled v client number turn (is_pending-numbered v.pending client number turn found))) refl) (InFrame-refused call v InvalidParameter)

KeepsFrame-ticks : (v : Volume) (client number ticks : ℕ) → KeepsFrame (record { client = client; number = number; what = Tick ticks }) v (with_ticks v ticks)
KeepsFrame-ticks v client number ticks = record {
  table = refl;
  clients = refl;
  left = inl refl;
  clock = inr refl;
  handles = λ test all own. all;
  locks = λ test all own. all;
  numbers = record {
    files = omega arith;
    links = omega arith;
    streams = omega arith;
    handles = omega arith;
    locks = omega arith;
    handles_of_creates = λ other. refl;
    locks_of_locks = λ other. refl;
  };
  pending = λ client number is. is;
  ended = EndsPending-equal refl;
  points = λ fits fit. fit;
}

-- ---- any call

try_own-frame : (v : Volume) (turn client number : ℕ) (request : Request) → has_own_laws request ≡ true → InFrame (asks client number (Ask request)) v (try_request v turn client number request)
try_own-frame v turn client number (Close handle) own = try_close-frame _ v client handle
try_own-frame v turn client number (Unlock handle at count) own = try_unlock-frame _ v client handle at count
try_own-frame v turn client number (OplockOf handle level) own = try_oplock-frame v client number handle level turn
try_own-frame v turn client number (Ack handle level) own = try_ack-frame v client number handle level turn
try_own-frame v turn client number (Notify handle filter whole room) own = try_notify-frame v client number handle filter whole room
try_own-frame v turn client number (Cancel cancelled) own = try_cancel-frame _ v client cancelled
try_own-frame v turn client number _ own = cc

try_request-frame : (v : Volume) (turn client number : ℕ) (request : Request) → PointsFit v → InFrame (asks client number (Ask request)) v (try_request v turn client number request)
try_request-frame v turn client number request fit = elim (cases_Bool (has_own_laws request)) [
  | inl own ↦ try_own-frame v turn client number request own
  | inr none ↦ Obeys.frame (try_request-obeys v turn client number request none) fit
]

try_what-frame : (v : Volume) (turn client number : ℕ) (what : What) → PointsFit v → InFrame (record { client = client; number = number; what = what }) v (try_what v turn client number what)
try_what-frame v turn client number (Ask request) fit = try_request-frame v turn client number request fit
try_what-frame v turn client number (Tick ticks) fit = InFrame-ends _ v (with_ticks v ticks) Success (KeepsFrame-ticks v client number ticks) refl
try_what-frame v turn client number (WaitFor earlier) fit = try_wait-frame v client number earlier
try_what-frame v turn client number Leave fit = try_leave-frame v client number

-- each try of each call stays within its frame
pub try-frame : (v : Volume) (call : Call) (turn : ℕ) → PointsFit v → InFrame call v (try v call turn)
try-frame v call turn fit =
    InFrame-if (has_left v call.client) _ _ (λ is. InFrame-refused call v InvalidHandle) (λ no. try_what-frame v turn call.client call.number call.what fit)
