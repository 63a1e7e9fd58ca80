-- No try ends a call for want of memory, or since all clients wait: closes, leavings, unlocks, notifications,
-- cancellations, waits and the clock, and then all calls.
use Rattle.std.proofs.Common.{◌≡◌, ℕ, Bool, true, false, not, List, [], ◌∷◌, refl, inl, inr, Some, None}
use Rattle.std.specs.List.{filter}
use Rattle.std.specs.Prelude.{◌==◌}
use Rattle.std.proofs.lemmas.Bool.{cases_Bool}
use Rattle.fsa_types.specs.Rows.{row_of, without_row}
use Rattle.fsa_types.specs.declared.reply.Body.TheVariants.{Nothing}
use Rattle.fsa_types.specs.declared.request.Call.{Call}
use Rattle.fsa_types.specs.declared.request.Request.{Request}
use Rattle.fsa_types.specs.declared.request.Request.TheVariants.{Close, Unlock, Oplock as OplockOf, Ack, Notify, Cancel}
use Rattle.fsa_types.specs.declared.request.What.{What}
use Rattle.fsa_types.specs.declared.request.What.TheVariants.{Ask, Tick, WaitFor, Leave}
use Rattle.fsa_types.specs.declared.status.Status.{Status}
use Rattle.fsa_types.specs.declared.status.Status.TheVariants.{Success, InvalidHandle, InvalidParameter, AccessDenied, Cancelled, RangeNotLocked}
use Rattle.fsa_model.specs.Close.{is_call_on, closed_status, is_left_behind, pending_by_turn, with_calls_ended, named_stream, is_link_of_parent, with_mark_on_close, is_stream_over, with_stream_swept, is_link_over, name_bit, with_link_swept, with_swept, with_closed, close_at, try_close, handles_of_client, with_all_closed, with_client_gone, try_leave}
use Rattle.fsa_model.specs.Edits.{with_end, with_left, with_stream_marked, with_ticks, without_file_unless_linked, without_handle, without_link, is_call, is_lock_on, without_lock}
use Rattle.fsa_model.specs.Lookups.{handle_of, has_left, has_row, is_link_marked, number_of}
use Rattle.fsa_model.specs.Outcome.{ends_with}
use Rattle.fsa_model.specs.Try.{try_request, try_what, try}
use Rattle.fsa_model.specs.Volume.{Handle, Link, Pending, Volume}
use Rattle.fsa_model.specs.Waiting.{has_ended, is_pending, try_wait, with_oplock_given_up, with_cancelled, try_cancel}
use Rattle.std.specs.Prelude.{is_some}
use Rattle.fsa_types.specs.Access.{has_any}
use Rattle.fsa_types.specs.declared.status.Status.TheVariants.{DeletePending}
use Rattle.fsa_model.specs.Watching.{due_size, is_notify_filter, is_something_due, notify_at, notify_by, notify_due, report, try_notify, watch_of, with_watch_begun, with_watch_seen}
use Rattle.std.specs.Prelude.{nat_le}
use Rattle.fsa_model.specs.Starving.{EndsPlain, TriesPlain, only_settlements_give}
use Rattle.fsa_model.proofs.PlainLaws.{EndsPlain-same, EndsPlain-next, EndsPlain-end, EndsPlain-if, EndsPlain-option, EndsPlain-noted, TriesPlain-refused, TriesPlain-done, TriesPlain-ends, TriesPlain-if, TriesPlain-option}
use Rattle.history_laws.proofs.PlainOplocks.{try_oplock-plain, try_ack-plain}
use Rattle.fsa_model.proofs.ObeyLaws.{Obeys}
use Rattle.fsa_model.proofs.TryObeys.{has_own_laws, try_request-obeys}
use Rattle.fsa_model.specs.Locking.{unlock_range, unlock_by, unlock_at, try_unlock}

-- ---- closes, and clients that leave

-- these calls end, by a status that isn't a settlement's alone
EndsPlain-calls_ended : (status_of : What → Status) → ((what : What) → only_settlements_give (status_of what) ≡ false) → (calls : List (ℕ × Pending)) (v : Volume) → EndsPlain v (with_calls_ended status_of calls v)
EndsPlain-calls_ended status_of plain [] v = EndsPlain-same refl
EndsPlain-calls_ended status_of plain (entry ∷ calls) v =
    let ended : Volume = with_end v entry.1.call.client entry.1.call.number (record { status = status_of entry.1.call.what; body = Nothing }) in
    EndsPlain-next (EndsPlain-end {v = v} {w = v} entry.1.call.client entry.1.call.number (record { status = status_of entry.1.call.what; body = Nothing }) (EndsPlain-same refl) (plain entry.1.call.what))
    (EndsPlain-calls_ended status_of plain calls ended)

closed_status-plain : (what : What) → only_settlements_give (closed_status what) ≡ false
closed_status-plain (Ask (Notify handle filter whole room)) = refl
closed_status-plain (Ask (OplockOf handle level)) = refl
closed_status-plain (Ask (Ack handle level)) = refl
closed_status-plain _ = refl

EndsPlain-mark_on_close : (v : Volume) (handle : Handle) → EndsPlain v (with_mark_on_close v handle)
EndsPlain-mark_on_close v handle =
    EndsPlain-if (not handle.delete_on_close) v _ (EndsPlain-same refl)
    (EndsPlain-option (named_stream v handle) (λ stream. with_stream_marked v stream true) _ (λ stream. EndsPlain-same refl)
    (EndsPlain-if (is_link_of_parent v handle.link) v _ (EndsPlain-same refl) (EndsPlain-same refl)))

EndsPlain-stream_swept : (v : Volume) (link stream : ℕ) → EndsPlain v (with_stream_swept v link stream)
EndsPlain-stream_swept v link stream =
    EndsPlain-if (is_stream_over v stream) _ v (EndsPlain-next (EndsPlain-noted v link 7 0x200 (Some stream)) (EndsPlain-same refl)) (EndsPlain-same refl)

EndsPlain-without_link : (v : Volume) (link : ℕ) → EndsPlain v (without_link v link)
EndsPlain-without_link v link =
    EndsPlain-option (row_of v.links link) (λ (row : Link). without_file_unless_linked (record v { links = without_row v.links link }) row.file) v
    (λ (row : Link). EndsPlain-if (has_row (λ (other : Link). other.file == row.file) (without_row v.links link)) _ _ (EndsPlain-same refl) (EndsPlain-same refl))
    (EndsPlain-same refl)

EndsPlain-link_swept : (v : Volume) (link : ℕ) → EndsPlain v (with_link_swept v link)
EndsPlain-link_swept v link =
    EndsPlain-if (is_link_over v link) _ v (EndsPlain-next (EndsPlain-noted v link 2 (name_bit v link) None) (EndsPlain-without_link _ link)) (EndsPlain-same refl)

EndsPlain-swept : (v : Volume) (handle : Handle) → EndsPlain v (with_swept v handle)
EndsPlain-swept v handle =
    EndsPlain-next (EndsPlain-option handle.stream (λ stream. with_stream_swept v handle.link stream) v (λ stream. EndsPlain-stream_swept v handle.link stream) (EndsPlain-same refl))
    (EndsPlain-link_swept _ handle.link)

EndsPlain-closed : (v : Volume) (id : ℕ) (handle : Handle) → EndsPlain v (with_closed v id handle)
unfolding with_closed
EndsPlain-closed v id handle =
    let ended : Volume = with_calls_ended closed_status (pending_by_turn (is_call_on handle) v) v in
    let gone : Volume = without_handle ended id in
    let marked : Volume = with_mark_on_close gone handle in
    EndsPlain-next (EndsPlain-calls_ended closed_status closed_status-plain (pending_by_turn (is_call_on handle) v) v)
    (EndsPlain-next (EndsPlain-same {v = ended} {w = gone} refl) (EndsPlain-next (EndsPlain-mark_on_close gone handle) (EndsPlain-swept marked handle)))

close_at-plain : (v : Volume) (id : ℕ) → TriesPlain v (close_at v id)
unfolding close_at
close_at-plain v id =
    TriesPlain-option (row_of v.handles id) (λ handle. ends_with (with_closed v id handle) Success) _
    (λ handle found. TriesPlain-ends v _ Success (EndsPlain-closed v id handle) refl) (TriesPlain-refused v InvalidHandle refl)

pub try_close-plain : (v : Volume) (client handle : ℕ) → TriesPlain v (try_close v client handle)
unfolding try_close
try_close-plain v client handle = TriesPlain-option (handle_of v client handle) (λ id. close_at v id) _ (λ id found. close_at-plain v id) (TriesPlain-refused v InvalidHandle refl)

EndsPlain-all_closed : (handles : List (ℕ × Handle)) (v : Volume) → EndsPlain v (with_all_closed handles v)
EndsPlain-all_closed [] v = EndsPlain-same refl
EndsPlain-all_closed (entry ∷ handles) v = EndsPlain-next (EndsPlain-closed v entry.0 entry.1) (EndsPlain-all_closed handles (with_closed v entry.0 entry.1))

pub try_leave-plain : (v : Volume) (client : ℕ) → TriesPlain v (try_leave v client)
unfolding try_leave with_client_gone
try_leave-plain v client =
    let ended : Volume = with_calls_ended (λ _. Cancelled) (pending_by_turn (is_left_behind client) v) v in
    let closed : Volume = with_all_closed (handles_of_client v client) ended in
    TriesPlain-ends v (with_left closed client) Success
    (EndsPlain-next (EndsPlain-calls_ended (λ _. Cancelled) (λ what. refl) (pending_by_turn (is_left_behind client) v) v)
    (EndsPlain-next (EndsPlain-all_closed (handles_of_client v client) ended) (EndsPlain-same {v = closed} refl))) refl

-- ---- unlocks

unlock_range-plain : (v : Volume) (id at count : ℕ) → TriesPlain v (unlock_range v id at count)
unfolding unlock_range
unlock_range-plain v id at count =
    TriesPlain-option (number_of (is_lock_on id at count) v.locks) (λ _. ends_with (without_lock v id at count) Success) _
    (λ number found. TriesPlain-ends v (without_lock v id at count) Success (EndsPlain-same refl) refl) (TriesPlain-refused v RangeNotLocked refl)

unlock_by-plain : (v : Volume) (id : ℕ) (handle : Handle) (at count : ℕ) → TriesPlain v (unlock_by v id handle at count)
unfolding unlock_by
unlock_by-plain v id handle at count = TriesPlain-option handle.stream (λ _. unlock_range v id at count) _ (λ stream is. unlock_range-plain v id at count) (TriesPlain-refused v InvalidParameter refl)

unlock_at-plain : (v : Volume) (id at count : ℕ) → TriesPlain v (unlock_at v id at count)
unfolding unlock_at
unlock_at-plain v id at count =
    TriesPlain-option (row_of v.handles id) (λ handle. unlock_by v id handle at count) _ (λ handle found. unlock_by-plain v id handle at count) (TriesPlain-refused v InvalidHandle refl)

pub try_unlock-plain : (v : Volume) (client handle at count : ℕ) → TriesPlain v (try_unlock v client handle at count)
unfolding try_unlock
try_unlock-plain v client handle at count =
    TriesPlain-option (handle_of v client handle) (λ id. unlock_at v id at count) _ (λ id found. unlock_at-plain v id at count) (TriesPlain-refused v InvalidHandle refl)

-- ---- waits, cancellations and the clock

pub try_wait-plain : (v : Volume) (client earlier : ℕ) → TriesPlain v (try_wait v client earlier)
unfolding try_wait
try_wait-plain v client earlier =
    TriesPlain-if (has_ended v client earlier) _ _ (λ is. TriesPlain-refused v Success refl)
    (λ no. TriesPlain-if (is_pending v client earlier) _ _ (λ is. record { so = EndsPlain-same refl }) (λ isnt. TriesPlain-refused v InvalidParameter refl))

pub try_cancel-plain : (v : Volume) (client number : ℕ) → TriesPlain v (try_cancel v client number)
unfolding try_cancel
try_cancel-plain v client number =
    TriesPlain-option (number_of (is_call client number) v.pending) (λ turn. ends_with (with_cancelled v client number turn) Success) _
    (λ turn found. TriesPlain-ends v _ Success (EndsPlain-end client number (record { status = Cancelled; body = Nothing }) (EndsPlain-same {v = v} {w = with_oplock_given_up v turn} refl) refl) refl)
    (TriesPlain-refused v InvalidParameter refl)

-- ---- notifications

EndsPlain-begun : (v : Volume) (id filter : ℕ) (whole : Bool) → EndsPlain v (with_watch_begun v id filter whole)
EndsPlain-begun v id filter whole = elim (cases_Bool (is_some (watch_of v id))) [ inl there ↦ rw there (EndsPlain-same refl) | inr new ↦ rw new (EndsPlain-same refl) ]

pub report-plain : (v : Volume) (id room : ℕ) → only_settlements_give (report v id room).status ≡ false
report-plain v id room = elim (cases_Bool (nat_le (due_size v id) room)) [ inl within ↦ rw within refl | inr more ↦ rw more refl ]

notify_due-plain : (v u : Volume) (id room : ℕ) → EndsPlain v u → TriesPlain v (notify_due u id room)
notify_due-plain v u id room ends =
    TriesPlain-if (is_something_due u id) _ _
    (λ is. TriesPlain-done v (with_watch_seen u id) (report u id room) (EndsPlain-next ends (EndsPlain-same {v = u} refl)) (report-plain u id room))
    (λ no. record { so = ends })

notify_by-plain : (v : Volume) (id : ℕ) (handle : Handle) (filter : ℕ) (whole : Bool) (room : ℕ) → TriesPlain v (notify_by v id handle filter whole room)
notify_by-plain v id handle filter whole room =
    TriesPlain-if (is_some handle.stream) _ _ (λ is. TriesPlain-refused v InvalidParameter refl)
    (λ no. TriesPlain-if (not (has_any handle.access 0x1)) _ _ (λ is. TriesPlain-refused v AccessDenied refl)
    (λ no. TriesPlain-if (not (is_notify_filter filter)) _ _ (λ is. TriesPlain-refused v InvalidParameter refl)
    (λ no. TriesPlain-if (is_link_marked v handle.link) _ _ (λ is. TriesPlain-refused v DeletePending refl)
    (λ no. notify_due-plain v (with_watch_begun v id filter whole) id room (EndsPlain-begun v id filter whole)))))

notify_at-plain : (v : Volume) (id filter : ℕ) (whole : Bool) (room : ℕ) → TriesPlain v (notify_at v id filter whole room)
unfolding notify_at
notify_at-plain v id filter whole room =
    TriesPlain-option (row_of v.handles id) (λ handle. notify_by v id handle filter whole room) _ (λ handle found. notify_by-plain v id handle filter whole room) (TriesPlain-refused v InvalidHandle refl)

pub try_notify-plain : (v : Volume) (client handle filter : ℕ) (whole : Bool) (room : ℕ) → TriesPlain v (try_notify v client handle filter whole room)
unfolding try_notify
try_notify-plain v client handle filter whole room =
    TriesPlain-option (handle_of v client handle) (λ id. notify_at v id filter whole room) _ (λ id found. notify_at-plain v id filter whole room) (TriesPlain-refused v InvalidHandle refl)

-- ---- any call

try_own-plain : (v : Volume) (turn client number : ℕ) (request : Request) → has_own_laws request ≡ true → TriesPlain v (try_request v turn client number request)
try_own-plain v turn client number (Close handle) own = try_close-plain v client handle
try_own-plain v turn client number (Unlock handle at count) own = try_unlock-plain v client handle at count
try_own-plain v turn client number (OplockOf handle level) own = try_oplock-plain v client handle level turn
try_own-plain v turn client number (Ack handle level) own = try_ack-plain v client handle level turn
try_own-plain v turn client number (Notify handle filter whole room) own = try_notify-plain v client handle filter whole room
try_own-plain v turn client number (Cancel cancelled) own = try_cancel-plain v client cancelled
try_own-plain v turn client number _ own = cc

try_request-plain : (v : Volume) (turn client number : ℕ) (request : Request) → TriesPlain v (try_request v turn client number request)
try_request-plain v turn client number request = elim (cases_Bool (has_own_laws request)) [
  | inl own ↦ try_own-plain v turn client number request own
  | inr none ↦ Obeys.plain (try_request-obeys v turn client number request none)
]

try_what-plain : (v : Volume) (turn client number : ℕ) (what : What) → TriesPlain v (try_what v turn client number what)
try_what-plain v turn client number (Ask request) = try_request-plain v turn client number request
try_what-plain v turn client number (Tick ticks) = TriesPlain-ends v (with_ticks v ticks) Success (EndsPlain-same refl) refl
try_what-plain v turn client number (WaitFor earlier) = try_wait-plain v client earlier
try_what-plain v turn client number Leave = try_leave-plain v client

-- no try ends a call for want of memory, or since all clients wait
pub try-plain : (v : Volume) (call : Call) (turn : ℕ) → TriesPlain v (try v call turn)
try-plain v call turn =
    TriesPlain-if (has_left v call.client) _ _ (λ is. TriesPlain-refused v InvalidHandle refl) (λ no. try_what-plain v turn call.client call.number call.what)
