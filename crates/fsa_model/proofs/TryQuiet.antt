-- A try of any call but a Notify leaves watches as they stood, but for those of handles that it closes, only adds
-- changes, and ends no Notify in a report.
use Rattle.std.proofs.Common.{◌≡◌, ℕ, Bool, true, false, not, List, [], ◌∷◌, append-nil, refl, sym, ◌∙◌, arith, inl, inr, Option, Some, None}
use Rattle.std.specs.List.{filter, find, fold}
use Rattle.std.specs.Option.{option_map_or}
use Rattle.std.specs.Prelude.{◌==◌, if◌then◌else◌}
use Rattle.std.proofs.lemmas.Bool.{cases_Bool, eqb-true}
use Rattle.std.proofs.lemmas.List.Elements.{All-cons, All-nil}
use Rattle.fsa_types.specs.Oplocks.{has_read, in_both}
use Rattle.fsa_types.specs.Rows.{row_of, without_row}
use Rattle.fsa_types.specs.declared.reply.Body.TheVariants.{Left, Nothing}
use Rattle.fsa_types.specs.declared.reply.Interim.TheVariants.{Granted}
use Rattle.fsa_types.specs.declared.reply.Reply.{Reply}
use Rattle.fsa_types.specs.declared.request.Call.{Call}
use Rattle.fsa_types.specs.declared.request.Level.{Level}
use Rattle.fsa_types.specs.declared.request.Level.TheVariants.{Nil}
use Rattle.fsa_types.specs.declared.request.Request.{Request}
use Rattle.fsa_types.specs.declared.request.Request.TheVariants as request
use Rattle.fsa_types.specs.declared.request.What.{What}
use Rattle.fsa_types.specs.declared.request.What.TheVariants.{Ask, Tick, WaitFor, Leave}
use Rattle.fsa_types.specs.declared.status.Status.{Status}
use Rattle.fsa_types.specs.declared.status.Status.TheVariants.{Success, Cancelled, InvalidHandle, InvalidParameter, OplockSwitchedToNewHandle}
use Rattle.fsa_model.specs.Close.{is_call_on, closed_status, is_left_behind, pending_by_turn, with_calls_ended, named_stream, is_link_of_parent, with_mark_on_close, is_stream_over, with_stream_swept, is_link_over, name_bit, with_link_swept, with_swept, with_closed, close_at, try_close, handles_of_client, with_all_closed, with_client_gone, try_leave}
use Rattle.fsa_model.specs.Changes.{with_change_noted}
use Rattle.fsa_model.specs.Edits.{is_call, is_lock_on, with_end, with_left, with_link_marked, with_stream_marked, with_ticks, without_file_unless_linked, without_handle, without_link, without_lock, without_oplock}
use Rattle.fsa_model.specs.Grant.{ack_at, ack_keeping, is_not_granted, oplock_at, oplock_by, oplock_on, switched, target_of, try_ack, try_oplock, with_all_switched, with_call_ended, with_granted, with_level_kept, with_switched}
use Rattle.fsa_model.specs.Locking.{unlock_range, unlock_by, unlock_at, try_unlock}
use Rattle.fsa_model.specs.Lookups.{handle_of, has_left, has_row, number_of}
use Rattle.fsa_model.specs.Outcome.{Outcome, Done, Stay, refused}
use Rattle.fsa_model.specs.Settling.{asks_report}
use Rattle.fsa_model.specs.Try.{try_request, try_what, try}
use Rattle.fsa_model.specs.Turn.{volume_after}
use Rattle.fsa_model.specs.Volume.{Handle, Link, Oplock, Pending, Volume, Watch}
use Rattle.fsa_model.specs.Waiting.{has_ended, is_granted_under, is_pending, try_cancel, try_wait, with_oplock_given_up}
use Rattle.fsa_model.specs.Watched.{is_report_status}
use Rattle.fsa_model.proofs.CountLaws.{how_many-filter_le}
use Rattle.fsa_model.proofs.KeepLaws.{Untouched-mark_on_close, Untouched-swept}
use Rattle.fsa_model.proofs.ObeyLaws.{Obeys, watches-noted}
use Rattle.fsa_model.proofs.QuietLaws.{EndsQuietly, Onward, Onward-next, Onward-same, Onward-untouched, Quiet, Quiet-next, Quiet-same, QuietEnds-none, WatchesStood}
use Rattle.fsa_model.proofs.RowLaws.{option_cases}
use Rattle.fsa_model.proofs.TryObeys.{has_own_laws, try_request-obeys}

-- ---- edits

pub Onward-end : (v : Volume) (client number : ℕ) (reply : Reply) → is_report_status reply.status ≡ false → Onward v (with_end v client number reply)
Onward-end v client number reply other = record {
  quiet = record {
    stood = λ id watch is. is;
    more = [];
    changes = sym (append-nil v.changes);
    ended = record { ends = record { client = client; number = number; reply = reply } ∷ []; is = refl; all = All-cons (EndsQuietly v) _ [] (inl other) (All-nil (EndsQuietly v)) };
  };
  granted = λ turn. omega arith;
  pending = λ test. how_many-filter_le test (λ entry. not (is_call client number entry.1)) v.pending;
}

pub Onward-calls_ended : (status_of : What → Status) (calls : List (ℕ × Pending)) (v : Volume) → ((what : What) → is_report_status (status_of what) ≡ false) → Onward v (with_calls_ended status_of calls v)
Onward-calls_ended status_of [] v other = Onward-same v
Onward-calls_ended status_of (entry ∷ calls) v other =
    let reply : Reply = record { status = status_of entry.1.call.what; body = Nothing } in
    Onward-next (Onward-end v entry.1.call.client entry.1.call.number reply (other entry.1.call.what)) (Onward-calls_ended status_of calls (with_end v entry.1.call.client entry.1.call.number reply) other)

-- with fewer oplocks
Onward-fewer_oplocks : (v : Volume) (keep : Oplock → Bool) → Onward v (record v { oplocks = filter keep v.oplocks })
Onward-fewer_oplocks v keep = record { quiet = Quiet-same refl refl refl; granted = λ turn. how_many-filter_le (is_granted_under turn) keep v.oplocks; pending = λ test. omega arith }

-- ---- closes, and clients that leave

closed-other : (what : What) → is_report_status (closed_status what) ≡ false
closed-other (Ask (request.Notify handle filter tree room)) = refl
closed-other (Ask (request.Oplock handle level)) = refl
closed-other (Ask (request.Ack handle level)) = refl
closed-other _ = refl

-- what is found of those that are kept was found before, where all of it is kept or none
find-gone : (id : ℕ) (watches : List Watch) → find (λ watch. watch.handle == id) (filter (λ watch. not (watch.handle == id)) watches) ≡ None
find-gone id [] = refl
find-gone id (watch ∷ watches) = elim (cases_Bool (watch.handle == id)) [ inl own ↦ rw own (find-gone id watches) | inr other ↦ rw (other, other) (find-gone id watches) ]

find-kept : (id other : ℕ) (watches : List Watch) → (other == id) ≡ false
    → find (λ watch. watch.handle == other) (filter (λ watch. not (watch.handle == id)) watches) ≡ find (λ watch. watch.handle == other) watches
find-kept id other [] differs = refl
find-kept id other (watch ∷ watches) differs = elim (cases_Bool (watch.handle == other)) [
  | inl its ↦ (let same : watch.handle ≡ other = eqb-true watch.handle other its in let kept : (watch.handle == id) ≡ false = rw same differs in rw (kept, its) refl)
  | inr isnt ↦ elim (cases_Bool (watch.handle == id)) [
    | inl gone ↦ rw (gone, isnt) (find-kept id other watches differs)
    | inr kept ↦ rw (kept, isnt) (find-kept id other watches differs)
  ]
]

stood-without_handle : (v : Volume) (id : ℕ) → WatchesStood v (without_handle v id)
stood-without_handle v id other watch is = elim (cases_Bool (other == id)) [
  | inr differs ↦ sym (find-kept id other v.watches differs) ∙ is
  | inl own ↦ (let same : other ≡ id = eqb-true other id own in let gone : None ≡ Some watch = sym (find-gone id v.watches) ∙ (rw same at is) in cc)
]

Onward-without_handle : (v : Volume) (id : ℕ) → Onward v (without_handle v id)
Onward-without_handle v id = record {
  quiet = record { stood = stood-without_handle v id; more = []; changes = sym (append-nil v.changes); ended = QuietEnds-none refl };
  granted = λ turn. how_many-filter_le (is_granted_under turn) (λ (o : Oplock). not (o.handle == id)) v.oplocks;
  pending = λ test. omega arith;
}

same-if : (v : Volume) (test : Bool) (one other : Volume) → one.watches ≡ v.watches → other.watches ≡ v.watches → (if test then one else other).watches ≡ v.watches
same-if v true one other holds fails = holds
same-if v false one other holds fails = fails

same-option : {X : Type 0} (v : Volume) (found : Option X) (some : X → Volume) (none : Volume) → ((x : X) → (some x).watches ≡ v.watches) → none.watches ≡ v.watches → (option_map_or some found none).watches ≡ v.watches
same-option v None some none with_some with_none = with_none
same-option v (Some x) some none with_some with_none = with_some x

watches-mark_on_close : (v : Volume) (handle : Handle) → (with_mark_on_close v handle).watches ≡ v.watches
watches-mark_on_close v handle =
    same-if v (not handle.delete_on_close) v _ refl
    (same-option v (named_stream v handle) (λ stream. with_stream_marked v stream true) _ (λ stream. refl) (same-if v (is_link_of_parent v handle.link) v (with_link_marked v handle.link true) refl refl))

watches-stream_swept : (v : Volume) (link stream : ℕ) → (with_stream_swept v link stream).watches ≡ v.watches
watches-stream_swept v link stream = same-if v (is_stream_over v stream) _ v (watches-noted v link 7 0x200 (Some stream)) refl

watches-without_link : (v : Volume) (link : ℕ) → (without_link v link).watches ≡ v.watches
watches-without_link v link =
    same-option v (row_of v.links link) (λ (row : Link). without_file_unless_linked (record v { links = without_row v.links link }) row.file) v
    (λ (row : Link). same-if v (has_row (λ (other : Link). other.file == row.file) (without_row v.links link)) _ _ refl refl) refl

watches-link_swept : (v : Volume) (link : ℕ) → (with_link_swept v link).watches ≡ v.watches
watches-link_swept v link =
    same-if v (is_link_over v link) _ v (watches-without_link (with_change_noted v link 2 (name_bit v link) None) link ∙ watches-noted v link 2 (name_bit v link) None) refl

watches-swept : (v : Volume) (handle : Handle) → (with_swept v handle).watches ≡ v.watches
watches-swept v handle =
    watches-link_swept (option_map_or (λ stream. with_stream_swept v handle.link stream) handle.stream v) handle.link
    ∙ same-option v handle.stream (λ stream. with_stream_swept v handle.link stream) v (λ stream. watches-stream_swept v handle.link stream) refl

Onward-closed : (v : Volume) (id : ℕ) (handle : Handle) → Onward v (with_closed v id handle)
unfolding with_closed
Onward-closed v id handle =
    let ended : Volume = with_calls_ended closed_status (pending_by_turn (is_call_on handle) v) v in
    let gone : Volume = without_handle ended id in
    let marked : Volume = with_mark_on_close gone handle in
    Onward-next (Onward-calls_ended closed_status (pending_by_turn (is_call_on handle) v) v closed-other)
    (Onward-next (Onward-without_handle ended id)
    (Onward-next (Onward-untouched gone marked (Untouched-mark_on_close gone handle) (watches-mark_on_close gone handle))
    (Onward-untouched marked (with_swept marked handle) (Untouched-swept marked handle) (watches-swept marked handle))))

Onward-all_closed : (handles : List (ℕ × Handle)) (v : Volume) → Onward v (with_all_closed handles v)
Onward-all_closed [] v = Onward-same v
Onward-all_closed (entry ∷ handles) v = Onward-next (Onward-closed v entry.0 entry.1) (Onward-all_closed handles (with_closed v entry.0 entry.1))

-- ---- an outcome

quiet-if : {v : Volume} (test : Bool) (one other : Outcome) → Quiet v (volume_after one) → Quiet v (volume_after other) → Quiet v (volume_after (if test then one else other))
quiet-if true one other holds fails = holds
quiet-if false one other holds fails = fails

quiet-option : {X : Type 0} {v : Volume} (found : Option X) (some : X → Outcome) (none : Outcome) → ((x : X) → Quiet v (volume_after (some x))) → Quiet v (volume_after none)
    → Quiet v (volume_after (option_map_or some found none))
quiet-option None some none with_some with_none = with_none
quiet-option (Some x) some none with_some with_none = with_some x

same : (v : Volume) → Quiet v v
same v = Quiet-same refl refl refl

try_close-quiet : (v : Volume) (client handle : ℕ) → Quiet v (volume_after (try_close v client handle))
unfolding try_close close_at
try_close-quiet v client handle =
    quiet-option (handle_of v client handle) (λ id. close_at v id) (refused v InvalidHandle)
    (λ id. quiet-option (row_of v.handles id) _ (refused v InvalidHandle) (λ row. Onward.quiet (Onward-closed v id row)) (same v)) (same v)

try_leave-quiet : (v : Volume) (client : ℕ) → Quiet v (volume_after (try_leave v client))
unfolding try_leave with_client_gone
try_leave-quiet v client =
    let ended : Volume = with_calls_ended (λ _. Cancelled) (pending_by_turn (is_left_behind client) v) v in
    let closed : Volume = with_all_closed (handles_of_client v client) ended in
    Quiet-next (Onward-calls_ended (λ _. Cancelled) (pending_by_turn (is_left_behind client) v) v (λ what. refl))
    (Quiet-next (Onward-all_closed (handles_of_client v client) ended) (Quiet-same {v = closed} {w = with_left closed client} refl refl refl))

try_unlock-quiet : (v : Volume) (client handle at count : ℕ) → Quiet v (volume_after (try_unlock v client handle at count))
unfolding try_unlock unlock_at unlock_by unlock_range
try_unlock-quiet v client handle at count =
    quiet-option (handle_of v client handle) (λ id. unlock_at v id at count) (refused v InvalidHandle)
    (λ id. quiet-option (row_of v.handles id) (λ row. unlock_by v id row at count) (refused v InvalidHandle)
    (λ row. quiet-option row.stream (λ _. unlock_range v id at count) (refused v InvalidParameter)
    (λ stream. quiet-option (number_of (is_lock_on id at count) v.locks) _ _ (λ number. Quiet-same {v = v} {w = without_lock v id at count} refl refl refl) (same v)) (same v)) (same v)) (same v)

try_wait-quiet : (v : Volume) (client number : ℕ) → Quiet v (volume_after (try_wait v client number))
unfolding try_wait
try_wait-quiet v client number = quiet-if (has_ended v client number) _ _ (same v) (quiet-if (is_pending v client number) _ _ (same v) (same v))

try_cancel-quiet : (v : Volume) (client number : ℕ) → Quiet v (volume_after (try_cancel v client number))
unfolding try_cancel
try_cancel-quiet v client number =
    quiet-option (number_of (is_call client number) v.pending) _ _
    (λ turn. Quiet-next (Onward-fewer_oplocks v (λ oplock. not (is_granted_under turn oplock))) (Onward.quiet (Onward-end (with_oplock_given_up v turn) client number (record { status = Cancelled; body = Nothing }) refl))) (same v)

-- ---- oplocks

Onward-call_ended : (v : Volume) (turn : Option ℕ) (status : Status) → is_report_status status ≡ false → Onward v (with_call_ended v turn status)
Onward-call_ended v None status other = Onward-same v
Onward-call_ended v (Some turn) status other = elim (option_cases (row_of v.pending turn)) [
  | inl none ↦ rw none (Onward-same v)
  | inr some ↦ rw some.1 (Onward-end v some.0.call.client some.0.call.number _ other)
]

Onward-all_switched : (oplocks : List Oplock) (v : Volume) → Onward v (fold with_switched v oplocks)
Onward-all_switched [] v = Onward-same v
Onward-all_switched (o ∷ oplocks) v =
    Onward-next (Onward-next (Onward-fewer_oplocks v (λ oplock. not (oplock.handle == o.handle))) (Onward-call_ended (without_oplock v o.handle) o.call OplockSwitchedToNewHandle refl))
    (Onward-all_switched oplocks (with_switched v o))

try_oplock-quiet : (v : Volume) (client handle : ℕ) (level : Level) (turn : ℕ) → Quiet v (volume_after (try_oplock v client handle level turn))
unfolding try_oplock oplock_at oplock_by oplock_on
try_oplock-quiet v client handle level turn =
    quiet-option (handle_of v client handle) (λ id. oplock_at v id level turn) (refused v InvalidHandle)
    (λ id. quiet-option (row_of v.handles id) (λ row. oplock_by v id row level turn) (refused v InvalidHandle)
    (λ row. quiet-option row.stream (λ stream. oplock_on v id row.key stream level turn) (refused v InvalidParameter)
    (λ stream. quiet-if (is_not_granted v id row.key stream level) _ _ (same v)
    (Quiet-next (Onward-all_switched (switched v id row.key stream) v) (Quiet-same {v = with_all_switched v id row.key stream} {w = with_granted v id row.key stream level turn} refl refl refl))) (same v)) (same v)) (same v)

ack_keeping-quiet : (v : Volume) (id : ℕ) (level : Level) (turn : ℕ) → Quiet v (volume_after (ack_keeping v id level turn))
unfolding ack_keeping
ack_keeping-quiet v id level turn = quiet-if (has_read level) (Stay (with_level_kept v id level turn) (Granted level)) (Done (without_oplock v id) (record { status = Success; body = Left Nil })) (Quiet-same {v = v} {w = with_level_kept v id level turn} refl refl refl) (Quiet-same {v = v} {w = without_oplock v id} refl refl refl)

try_ack-quiet : (v : Volume) (client handle : ℕ) (level : Level) (turn : ℕ) → Quiet v (volume_after (try_ack v client handle level turn))
unfolding try_ack ack_at
try_ack-quiet v client handle level turn =
    quiet-option (handle_of v client handle) (λ id. ack_at v id level turn) (refused v InvalidHandle)
    (λ id. quiet-option (target_of v id) _ _ (λ target. ack_keeping-quiet v id (in_both level target) turn) (same v)) (same v)

-- ---- any call but a Notify

own-quiet : (v : Volume) (turn client number : ℕ) (asked : Request) → has_own_laws asked ≡ true → asks_report (Ask asked) ≡ false → Quiet v (volume_after (try_request v turn client number asked))
own-quiet v turn client number (request.Close handle) own other = try_close-quiet v client handle
own-quiet v turn client number (request.Unlock handle at count) own other = try_unlock-quiet v client handle at count
own-quiet v turn client number (request.Oplock handle level) own other = try_oplock-quiet v client handle level turn
own-quiet v turn client number (request.Ack handle level) own other = try_ack-quiet v client handle level turn
own-quiet v turn client number (request.Notify handle filter tree room) own other = cc
own-quiet v turn client number (request.Cancel cancelled) own other = try_cancel-quiet v client cancelled
own-quiet v turn client number _ own other = cc

request-quiet : (v : Volume) (turn client number : ℕ) (asked : Request) → asks_report (Ask asked) ≡ false → Quiet v (volume_after (try_request v turn client number asked))
request-quiet v turn client number asked other = elim (cases_Bool (has_own_laws asked)) [
  | inl own ↦ own-quiet v turn client number asked own other
  | inr none ↦ Onward.quiet (Obeys.onward (try_request-obeys v turn client number asked none))
]

what-quiet : (v : Volume) (turn client number : ℕ) (what : What) → asks_report what ≡ false → Quiet v (volume_after (try_what v turn client number what))
what-quiet v turn client number (Ask asked) other = request-quiet v turn client number asked other
what-quiet v turn client number (Tick ticks) other = Quiet-same {v = v} {w = with_ticks v ticks} refl refl refl
what-quiet v turn client number (WaitFor earlier) other = try_wait-quiet v client earlier
what-quiet v turn client number Leave other = try_leave-quiet v client

pub try-quiet : (v : Volume) (call : Call) (turn : ℕ) → asks_report call.what ≡ false → Quiet v (volume_after (try v call turn))
try-quiet v call turn other = quiet-if (has_left v call.client) _ _ (same v) (what-quiet v turn call.client call.number call.what other)
