-- An oplock without a break has its call pending, after each turn of a run.
use Rattle.std.proofs.Common.{◌≡◌, ℕ, ◌+◌, ◌<◌, ◌≤◌, Bool, true, false, not, List, [], ◌∷◌, ◌++◌, length, refl, ap, sym, subst, ◌∙◌, arith, inl, inr, ◌⊎◌, Option, Some, None}
use Rattle.std.specs.List.{All, filter, find, list_any}
use Rattle.std.specs.Option.{option_map_or}
use Rattle.std.specs.Prelude.{◌==◌, ◌&&◌, ◌||◌, is_some, nat_lt, option_map, if◌then◌else◌}
use Rattle.std.proofs.lemmas.Bool.{cases_Bool, eq-eqb, eqb-true}
use Rattle.std.proofs.lemmas.List.Elements.{All-cons, All-head, All-nil, All-tail}
use Rattle.fsa_types.specs.Rows.{row_of, without_row, IsNumbered}
use Rattle.fsa_types.specs.Oplocks.{has_read, in_both}
use Rattle.fsa_types.specs.Sorting.{in_order}
use Rattle.fsa_types.specs.declared.reply.Body.TheVariants.{Nothing}
use Rattle.fsa_types.specs.declared.reply.Interim.{Interim}
use Rattle.fsa_types.specs.declared.reply.Reply.{Reply}
use Rattle.fsa_types.specs.declared.request.Call.{Call}
use Rattle.fsa_types.specs.declared.request.CallId.{CallId}
use Rattle.fsa_types.specs.declared.request.Level.{Level}
use Rattle.fsa_types.specs.declared.request.Request.{Request}
use Rattle.fsa_types.specs.declared.request.Request.TheVariants.{Create, Close, Read, Write, SetEnd, Lock, Unlock, Oplock as OplockRequest, Ack, Cancel, Notify, Rename, Link, SetDisposition}
use Rattle.fsa_types.specs.declared.request.What.{What}
use Rattle.fsa_types.specs.declared.request.What.TheVariants.{Ask, Tick, WaitFor, Leave}
use Rattle.fsa_types.specs.declared.reply.Blocker.{Blocker}
use Rattle.fsa_types.specs.Access.{has_any}
use Rattle.fsa_types.specs.declared.status.Status.{Status}
use Rattle.fsa_types.specs.declared.status.Status.TheVariants.{AccessDenied, Cancelled, DeletePending, InvalidHandle, InvalidOplockProtocol, InvalidParameter, OplockNotGranted, NoMemory, OplockSwitchedToNewHandle, RangeNotLocked, Stalled, Success}
use Rattle.fsa_model.specs.Close.{closed_status, is_call_on, is_left_behind, is_open_or_wait, names, pending_by_turn, with_calls_ended, with_all_closed, with_client_gone, with_closed, with_mark_on_close, with_swept, handles_of_client, close_at, try_close, try_leave}
use Rattle.fsa_model.specs.Edits.{is_call, is_lock_on, with_blockers, with_end, with_left, with_pending, with_ticks, without_handle, without_lock, without_oplock}
use Rattle.fsa_model.specs.Engine.{CallsDiffer, GrantsPend, asks_oplock_of, handle_granted, has_grant_under, is_entry_of, own_tried}
use Rattle.fsa_model.specs.Grant.{ack_at, ack_keeping, is_not_granted, is_of_key, is_oplock_on, oplock_at, oplock_by, oplock_on, switched, target_of, try_ack, try_oplock, with_call_ended, with_granted, with_level_kept, with_oplock, with_switched}
use Rattle.fsa_model.specs.History.{HistoryEntry, Run, begun, run, steps, turn_on, with_turn}
use Rattle.fsa_model.specs.Locking.{try_unlock, unlock_at, unlock_by, unlock_range}
use Rattle.fsa_model.specs.Lookups.{handle_of, has_left, is_link_marked, is_opened_by, number_of}
use Rattle.fsa_model.specs.Once.{how_many, made, times, IsOnce}
use Rattle.fsa_model.specs.Outcome.{Outcome, Done, Stay, Hold, ends_with, refused}
use Rattle.fsa_model.specs.Settle.{Settling, come_over, held_taken_up, settle_step, settled, starves, taken_up, taken_up_all, with_tried}
use Rattle.fsa_model.specs.Setup.{Setup}
use Rattle.fsa_model.specs.Turn.{Turned, answered, turn, turn_number}
use Rattle.fsa_model.specs.Try.{try, try_request, try_what}
use Rattle.fsa_model.specs.Volume.{Handle, Oplock, Pending, Volume, fresh}
use Rattle.fsa_model.specs.Waiting.{all_wait, has_come, is_asked_before, is_held, is_wait, next_ready, waits_in_order, with_stalled, has_ended, is_granted_under, is_pending, try_cancel, try_wait, with_cancelled, with_oplock_given_up}
use Rattle.fsa_model.specs.Watching.{is_notify_filter, is_something_due, notify_at, notify_by, try_notify, watch_of, with_watch_begun, with_watch_seen}
use Rattle.fsa_model.proofs.CountLaws.{and_left, and_right, and_true, how_many-append, how_many-filter, how_many-filter_le, how_many-in_order, how_many-length, how_many-map, how_many-none, how_many-same, how_many-some, how_many-weaker, only-one, none-how_many, some-how_many}
use Rattle.fsa_model.proofs.EngineLaws.{turn-turned}
use Rattle.fsa_model.proofs.GrantLaws.{KeepsAll-all_switched, KeepsAll-switched, all_switched, granted_oplock, acknowledged_oplock, oplocks-call_ended}
use Rattle.fsa_model.proofs.KeepLaws.{KeepsAll, Keeps-closed, Keeps-ended_by_turn, Untouched-mark_on_close, Untouched-swept}
use Rattle.fsa_model.proofs.OnceHistory.{MayTurn-fresh, is_entry_of-self}
use Rattle.fsa_model.proofs.OnceLaws.{SameBlockers, blockers-calls_ended, is_call_of, is_same-refl, IsOnce-kept}
use Rattle.fsa_model.proofs.PendLaws.{HandlesStay, HandlesStay-same, NoneLapsed, NoneLapsed-ends, NoneLapsed-ends_under, NoneLapsed-same, OneGrantEach, any-ends, asks-later, asks-some, found-under, lapsed, lapsed-later}
use Rattle.fsa_model.proofs.RowLaws.{any-map, any-push, any-same, change_at, any-weaker, eqb-swap, find-all, find-any, option_cases, row_of-here, IsNumbered-filter}
use Rattle.fsa_model.proofs.SettleLaws.{IsNext, MaySettle, how_many_free, is_free, may_be_held, next-may_be_held, next_ready-is, repeated-ends, some_equal, try-tries}
use Rattle.fsa_model.proofs.TakenLaws.{GoesOn, GoesOn-begins, GoesOn-settle_step, MayTakeUp}
use Rattle.fsa_model.proofs.TryLaws.{Keeps, KeepsNumbers, Leaves, SameNumbers, GrantsNoneHeld, Leaves-untouched, Tries, TriesTo, granted_elsewhere, swapped, Untouched, Untouched-next}
use Rattle.fsa_model.proofs.TurnLaws.{Adds, Adds-answered, MayTurn, TriedTo, Turns, stalled-kept, try-keeps, turn-turns}
use Rattle.fsa_model.proofs.WaitLaws.{Found, changed, find-passes, is_of, some_item}
use Rattle.fsa_model.proofs.WatchLaws.{SameWatching, Untouched-seen, comes_over, watching-calls_ended}
use Rattle.fsa_model.proofs.ObeyLaws.{Obeys}
use Rattle.fsa_model.proofs.TryObeys.{has_own_laws, try_request-obeys}

-- ---- several calls end

any-calls_ended : (T : ℕ × Pending → Bool) (status_of : What → Status) (calls : List (ℕ × Pending)) (v : Volume)
    → ((client number : ℕ) → 1 ≤ how_many (is_call_of client number) calls → how_many (λ e. is_call_of client number e && T e) v.pending ≡ 0)
    → list_any T v.pending ≡ true → list_any T (with_calls_ended status_of calls v).pending ≡ true
any-calls_ended T status_of [] v apart some = some
any-calls_ended T status_of (entry ∷ calls) v apart some =
    any-calls_ended T status_of calls (with_end v entry.1.call.client entry.1.call.number (record { status = status_of entry.1.call.what; body = Nothing }))
    (λ client number there. let none : how_many (λ e. is_call_of client number e && T e) v.pending ≡ 0 = apart client number (omega arith) in
    let fewer = how_many-filter_le (λ e. is_call_of client number e && T e) (λ e. not (is_call_of entry.1.call.client entry.1.call.number e)) v.pending in omega arith)
    (any-ends T v entry.1.call.client entry.1.call.number (record { status = status_of entry.1.call.what; body = Nothing }) (apart entry.1.call.client entry.1.call.number one) some)
  where
    one : 1 ≤ how_many (is_call_of entry.1.call.client entry.1.call.number) (entry ∷ calls)
    one = rw (is_same-refl entry.1.call.client entry.1.call.number) (omega arith)

-- calls that pass a test end, and none that passes another that excludes it
calls-apart : (v : Volume) (test : Pending → Bool) (T : ℕ × Pending → Bool) (before : ℕ × Pending → ℕ × Pending → Bool) → IsOnce v → ((e : ℕ × Pending) → T e ≡ true → test e.1 ≡ false)
    → (client number : ℕ) → 1 ≤ how_many (is_call_of client number) (in_order before (filter (λ e. test e.1) v.pending)) → how_many (λ e. is_call_of client number e && T e) v.pending ≡ 0
calls-apart v test T before once excludes client number there =
    let ordered = how_many-in_order (is_call_of client number) before (filter (λ e. test e.1) v.pending) in
    let kept = how_many-filter (is_call_of client number) (λ e. test e.1) v.pending in
    let turned = how_many-same (λ e. test e.1 && is_call_of client number e) (λ e. is_call_of client number e && test e.1) v.pending (λ e. swap (test e.1) (is_call_of client number e)) in
    let few : times client number v ≤ 1 = once client number in
    let none = how_many-none (λ e. is_call_of client number e && not (test e.1)) v.pending (only-one (is_call_of client number) (λ e. test e.1) v.pending (omega arith) (some-how_many (λ e. is_call_of client number e && test e.1) v.pending (omega arith))) in
    let weaker = how_many-weaker (λ e. is_call_of client number e && T e) (λ e. is_call_of client number e && not (test e.1)) v.pending
    (λ e both. (let fails : test e.1 ≡ false = excludes e (and_right (is_call_of client number e) (T e) both) in and_true (is_call_of client number e) (not (test e.1)) (and_left (is_call_of client number e) (T e) both) (rw fails refl))) in
    omega arith
  where
    swap : (a b : Bool) → (a && b) ≡ (b && a)
    swap true true = refl
    swap true false = refl
    swap false true = refl
    swap false false = refl

-- an oplock's call stays pending, where it's none of those that end
under-calls_ended : (v : Volume) (status_of : What → Status) (test : Pending → Bool) (before : ℕ × Pending → ℕ × Pending → Bool) (id turn : ℕ) (also : Call → Bool) → IsOnce v
    → ((e : ℕ × Pending) → asks_oplock_of v id e.1.call ≡ true → also e.1.call ≡ true → test e.1 ≡ false)
    → list_any (λ e. e.0 == turn && (asks_oplock_of v id e.1.call && also e.1.call)) v.pending ≡ true
    → list_any (λ e. e.0 == turn && (asks_oplock_of v id e.1.call && also e.1.call)) (with_calls_ended status_of (in_order before (filter (λ e. test e.1) v.pending)) v).pending ≡ true
under-calls_ended v status_of test before id turn also once excludes there =
    any-calls_ended (λ e. e.0 == turn && (asks_oplock_of v id e.1.call && also e.1.call)) status_of (in_order before (filter (λ e. test e.1) v.pending)) v
    (λ client number some. calls-apart v test (λ e. e.0 == turn && (asks_oplock_of v id e.1.call && also e.1.call)) before once (λ e all.
    (let both = and_right (e.0 == turn) (asks_oplock_of v id e.1.call && also e.1.call) all in
    excludes e (and_left (asks_oplock_of v id e.1.call) (also e.1.call) both) (and_right (asks_oplock_of v id e.1.call) (also e.1.call) both))) client number some) there

-- with nothing else asked of the call
has-also : (v : Volume) (id turn : ℕ) (rows : List (ℕ × Pending)) → list_any (λ e. e.0 == turn && asks_oplock_of v id e.1.call) rows ≡ true → list_any (λ e. e.0 == turn && (asks_oplock_of v id e.1.call && true)) rows ≡ true
has-also v id turn rows some =
    any-weaker (λ e. e.0 == turn && asks_oplock_of v id e.1.call) (λ e. e.0 == turn && (asks_oplock_of v id e.1.call && true)) rows
    (λ e both. and_true (e.0 == turn) (asks_oplock_of v id e.1.call && true) (and_left (e.0 == turn) (asks_oplock_of v id e.1.call) both) (and_true (asks_oplock_of v id e.1.call) true (and_right (e.0 == turn) (asks_oplock_of v id e.1.call) both) refl)) some

has-only : (v w : Volume) (id turn : ℕ) (also : Call → Bool) (rows : List (ℕ × Pending)) → ((client number : ℕ) → handle_of v client number ≡ Some id → handle_of w client number ≡ Some id)
    → list_any (λ e. e.0 == turn && (asks_oplock_of v id e.1.call && also e.1.call)) rows ≡ true → list_any (λ e. e.0 == turn && asks_oplock_of w id e.1.call) rows ≡ true
has-only v w id turn also rows found some =
    any-weaker (λ e. e.0 == turn && (asks_oplock_of v id e.1.call && also e.1.call)) (λ e. e.0 == turn && asks_oplock_of w id e.1.call) rows
    (λ e all. (let both = and_right (e.0 == turn) (asks_oplock_of v id e.1.call && also e.1.call) all in
    and_true (e.0 == turn) (asks_oplock_of w id e.1.call) (and_left (e.0 == turn) (asks_oplock_of v id e.1.call && also e.1.call) all) (asks-later v w id e.1.call found (and_left (asks_oplock_of v id e.1.call) (also e.1.call) both)))) some

-- calls end that granted no oplock
pub NoneLapsed-calls_ended : (v : Volume) (status_of : What → Status) (test : Pending → Bool) (before : ℕ × Pending → ℕ × Pending → Bool) → IsOnce v
    → ((e : ℕ × Pending) → is_some (handle_granted e.1.call.what) ≡ true → test e.1 ≡ false)
    → NoneLapsed v → NoneLapsed (with_calls_ended status_of (in_order before (filter (λ e. test e.1) v.pending)) v)
NoneLapsed-calls_ended v status_of test before once excludes none =
    let weaker = how_many-weaker (lapsed after) (lapsed v) v.oplocks (λ o is. lapsed-later v after o (λ turn granted there. still o.handle turn there) is) in
    let same = ap (λ (oplocks : List Oplock). how_many (lapsed after) oplocks) (SameBlockers.oplocks (blockers-calls_ended status_of (in_order before (filter (λ e. test e.1) v.pending)) v)) in
    omega arith
  where
    after : Volume
    after = with_calls_ended status_of (in_order before (filter (λ e. test e.1) v.pending)) v

    still : (id turn : ℕ) → has_grant_under v id turn ≡ true → has_grant_under after id turn ≡ true
    still id turn there =
        has-only v after id turn (λ _. true) after.pending (λ client number is. rw (SameWatching.handles (watching-calls_ended status_of (in_order before (filter (λ e. test e.1) v.pending)) v)) is)
        (under-calls_ended v status_of test before id turn (λ _. true) once (λ e asks always. excludes e (asks-some v id e.1.call asks)) (has-also v id turn v.pending there))

-- ---- a handle closes

pub find-filtered : {X : Type 0} (p keep : X → Bool) (xs : List X) (x : X) → find p xs ≡ Some x → keep x ≡ true → find p (filter keep xs) ≡ Some x
find-filtered p keep [] x is stays = cc
find-filtered p keep (y ∷ xs) x is stays = elim (cases_Bool (p y)) [
  | inl passes ↦ (let found : Some y ≡ Some x = rw passes at is in let same : y ≡ x = cc in let kept : keep y ≡ true = rw same stays in rw (kept, passes) found)
  | inr fails ↦ (let rest = find-filtered p keep xs x (rw fails at is) stays in elim (cases_Bool (keep y)) [ inl kept ↦ rw (kept, fails) rest | inr out ↦ rw out rest ])
]

-- another handle is still found
found-without : (handles : List (ℕ × Handle)) (client number id gone : ℕ) → (id == gone) ≡ false
    → option_map (λ entry. entry.0) (find (λ (entry : ℕ × Handle). is_opened_by client number entry.1) handles) ≡ Some id
    → option_map (λ entry. entry.0) (find (λ (entry : ℕ × Handle). is_opened_by client number entry.1) (without_row handles gone)) ≡ Some id
found-without handles client number id gone differs is = elim (option_cases (find (λ (entry : ℕ × Handle). is_opened_by client number entry.1) handles)) [
  | inl none ↦ (let impossible : None ≡ Some id = rw none at is in cc)
  | inr some ↦ (let at_id : Some some.0.0 ≡ Some id = rw some.1 at is in let same : some.0.0 ≡ id = cc in
      let stays : not (some.0.0 == gone) ≡ true = rw (same, differs) refl in
      let later = find-filtered (λ (entry : ℕ × Handle). is_opened_by client number entry.1) (λ entry. not (entry.0 == gone)) handles some.0 some.1 stays in rw later at_id)
]

-- the oplocks of other handles keep their calls, where those don't end
closed-still : (v : Volume) (id : ℕ) (handle : Handle) (other turn : ℕ) (also : Call → Bool) → IsOnce v → (other == id) ≡ false
    → ((e : ℕ × Pending) → asks_oplock_of v other e.1.call ≡ true → also e.1.call ≡ true → is_call_on handle e.1 ≡ false)
    → list_any (λ e. e.0 == turn && (asks_oplock_of v other e.1.call && also e.1.call)) v.pending ≡ true
    → list_any (λ e. e.0 == turn && (asks_oplock_of (with_closed v id handle) other e.1.call && also e.1.call)) (with_closed v id handle).pending ≡ true
unfolding with_closed
closed-still v id handle other turn also once differs excludes there =
    rw untouched.pending (any-weaker (λ e. e.0 == turn && (asks_oplock_of v other e.1.call && also e.1.call)) (λ e. e.0 == turn && (asks_oplock_of closed other e.1.call && also e.1.call)) ended.pending
    (λ e all. (let both = and_right (e.0 == turn) (asks_oplock_of v other e.1.call && also e.1.call) all in
    and_true (e.0 == turn) (asks_oplock_of closed other e.1.call && also e.1.call) (and_left (e.0 == turn) (asks_oplock_of v other e.1.call && also e.1.call) all)
    (and_true (asks_oplock_of closed other e.1.call) (also e.1.call)
    (asks-later v closed other e.1.call found (and_left (asks_oplock_of v other e.1.call) (also e.1.call) both))
    (and_right (asks_oplock_of v other e.1.call) (also e.1.call) both))))
    (under-calls_ended v closed_status (is_call_on handle) (λ a b. nat_lt a.0 b.0) other turn also once excludes there))
  where
    ended : Volume
    ended = with_calls_ended closed_status (pending_by_turn (is_call_on handle) v) v

    closed : Volume
    closed = with_swept (with_mark_on_close (without_handle ended id) handle) handle

    untouched : Untouched (without_handle ended id) closed
    untouched = Untouched-next (Untouched-mark_on_close (without_handle ended id) handle) (Untouched-swept (with_mark_on_close (without_handle ended id) handle) handle)

    found : (client number : ℕ) → handle_of v client number ≡ Some other → handle_of closed client number ≡ Some other
    found client number is = rw untouched.opens (rw (SameWatching.handles (watching-calls_ended closed_status (pending_by_turn (is_call_on handle) v) v)) (found-without v.handles client number other id differs is))

closed-oplocks : (v : Volume) (id : ℕ) (handle : Handle) → (with_closed v id handle).oplocks ≡ filter (λ (o : Oplock). not (o.handle == id)) v.oplocks
unfolding with_closed
closed-oplocks v id handle =
    let ended : Volume = with_calls_ended closed_status (pending_by_turn (is_call_on handle) v) v in
    let gone : Volume = without_handle ended id in
    Untouched.oplocks (Untouched-next (Untouched-mark_on_close gone handle) (Untouched-swept (with_mark_on_close gone handle) handle))
    ∙ ap (λ (oplocks : List Oplock). filter (λ (o : Oplock). not (o.handle == id)) oplocks) (SameBlockers.oplocks (blockers-calls_ended closed_status (pending_by_turn (is_call_on handle) v) v))

pub closed-handles : (v : Volume) (id : ℕ) (handle : Handle) → (with_closed v id handle).handles ≡ without_row v.handles id
unfolding with_closed
closed-handles v id handle =
    let ended : Volume = with_calls_ended closed_status (pending_by_turn (is_call_on handle) v) v in
    let gone : Volume = without_handle ended id in
    Untouched.opens (Untouched-next (Untouched-mark_on_close gone handle) (Untouched-swept (with_mark_on_close gone handle) handle))
    ∙ ap (λ (handles : List (ℕ × Handle)). without_row handles id) (SameWatching.handles (watching-calls_ended closed_status (pending_by_turn (is_call_on handle) v) v))

-- what is asked of an oplock names the handle that it grants
names-granted : (what : What) (handle number : ℕ) → handle_granted what ≡ Some handle → names what number ≡ true → handle ≡ number
names-granted (Ask (OplockRequest other level)) handle number is named =
    (let same : other ≡ handle = cc in let here : other ≡ number = eqb-true other number named in sym same ∙ here)
names-granted (Ask (Ack other level)) handle number is named =
    (let same : other ≡ handle = cc in let here : other ≡ number = eqb-true other number named in sym same ∙ here)
names-granted _ handle number is named = cc

-- the handle of a number, found and then looked up
own-handle : (v : Volume) (client number id : ℕ) (handle : Handle) → IsNumbered v.handles v.last_handle → handle_of v client number ≡ Some id → row_of v.handles id ≡ Some handle → is_opened_by client number handle ≡ true
own-handle v client number id handle numbered is row = elim (option_cases (find (λ (entry : ℕ × Handle). is_opened_by client number entry.1) v.handles)) [
  | inl none ↦ (let impossible : None ≡ Some id = rw none at is in cc)
  | inr some ↦ (let at_id : Some some.0.0 ≡ Some id = rw some.1 at is in let same : some.0.0 ≡ id = cc in
      let own : row_of v.handles some.0.0 ≡ Some some.0.1 = find-all (λ (entry : ℕ × Handle). row_of v.handles entry.0 ≡ Some entry.1) (λ (entry : ℕ × Handle). is_opened_by client number entry.1) v.handles some.0 some.1
      (λ k d within. row_of-here v.handles v.last_handle k d numbered within) in
      let found : Some handle ≡ Some some.0.1 = sym row ∙ ap (λ (n : ℕ). row_of v.handles n) (sym same) ∙ own in
      let is_it : handle ≡ some.0.1 = cc in
      rw is_it (find-passes (λ (entry : ℕ × Handle). is_opened_by client number entry.1) v.handles some.0 some.1))
]

-- a call that grants an oplock of another handle isn't one on this
apart-closed : (v : Volume) (client number id : ℕ) (handle : Handle) (other : ℕ) (call : Call) → handle_of v client number ≡ Some id → is_opened_by client number handle ≡ true → (other == id) ≡ false
    → asks_oplock_of v other call ≡ true → is_call_on handle (record { call = call; blockers = [] }) ≡ false
apart-closed v client number id handle other call found own differs asks = elim (cases_Bool (is_call_on handle (record { call = call; blockers = [] }))) [
  | inr isnt ↦ isnt
  | inl is ↦ elim (option_cases (handle_granted call.what)) [
    | inl none ↦ (let impossible : false ≡ true = rw none at asks in cc)
    | inr some ↦ (let by : handle.client ≡ client = eqb-true handle.client client (and_left (handle.client == client) (handle.number == number) own) in
        let numbered : handle.number ≡ number = eqb-true handle.number number (and_right (handle.client == client) (handle.number == number) own) in
        let its : call.client ≡ handle.client = eqb-true call.client handle.client (and_left (call.client == handle.client) (names call.what handle.number) is) in
        let named : some.0 ≡ handle.number = names-granted call.what some.0 handle.number some.1 (and_right (call.client == handle.client) (names call.what handle.number) is) in
        let at : handle_of v call.client some.0 ≡ Some id = rw (its ∙ by, named ∙ numbered) found in
        let here : (id == other) ≡ true = rw (some.1, at) at asks in
        let same : id ≡ other = eqb-true id other here in
        let impossible : (other == id) ≡ true = eq-eqb other id (sym same) in cc)
  ]
]

-- the oplocks whose calls still pend after a close
NoneLapsed-closed : (v : Volume) (client number id : ℕ) (handle : Handle) → IsOnce v → handle_of v client number ≡ Some id → is_opened_by client number handle ≡ true → NoneLapsed v → NoneLapsed (with_closed v id handle)
NoneLapsed-closed v client number id handle once found own none =
    let same = ap (λ (oplocks : List Oplock). how_many (lapsed (with_closed v id handle)) oplocks) (closed-oplocks v id handle) in
    let kept = how_many-filter (lapsed (with_closed v id handle)) (λ (o : Oplock). not (o.handle == id)) v.oplocks in
    let weaker = how_many-weaker (λ (o : Oplock). not (o.handle == id) && lapsed (with_closed v id handle) o) (lapsed v) v.oplocks (λ o both. of_other o (cases_Bool (o.handle == id)) both) in
    omega arith
  where
    of_other : (o : Oplock) → ((o.handle == id) ≡ true) ⊎ ((o.handle == id) ≡ false) → (not (o.handle == id) && lapsed (with_closed v id handle) o) ≡ true → lapsed v o ≡ true
    of_other o (inl here) both = (let impossible : false ≡ true = rw here at both in cc)
    of_other o (inr differs) both =
        lapsed-later v (with_closed v id handle) o (λ turn granted there.
        has-only (with_closed v id handle) (with_closed v id handle) o.handle turn (λ _. true) (with_closed v id handle).pending (λ c n is. is)
        (closed-still v id handle o.handle turn (λ _. true) once differs (λ e asks always. apart-closed v client number id handle o.handle e.1.call found own differs asks) (has-also v o.handle turn v.pending there)))
        (and_right (not (o.handle == id)) (lapsed (with_closed v id handle) o) both)

-- ---- a client leaves

-- no break of the oplock is in progress, its handle isn't one of these, and no call of another client that
-- granted it is pending
abbrev has_other : ℕ → Volume → ℕ → ℕ → Bool
has_other client v id turn = list_any (λ e. e.0 == turn && (asks_oplock_of v id e.1.call && not (e.1.call.client == client))) v.pending

abbrev is_handle_of_these : List (ℕ × Handle) → ℕ → Bool
is_handle_of_these handles id = list_any (λ entry. entry.0 == id) handles

abbrev lapsed_but : ℕ → List (ℕ × Handle) → Volume → Oplock → Bool
lapsed_but client handles v oplock = not (is_some oplock.target || (is_handle_of_these handles oplock.handle || option_map_or (λ turn. has_other client v oplock.handle turn) oplock.call false))

lapsed_but-later : (client : ℕ) (handles rest : List (ℕ × Handle)) (v w : Volume) (o : Oplock) → (is_handle_of_these handles o.handle ≡ true → is_handle_of_these rest o.handle ≡ true)
    → ((turn : ℕ) → has_other client v o.handle turn ≡ true → has_other client w o.handle turn ≡ true) → lapsed_but client rest w o ≡ true → lapsed_but client handles v o ≡ true
lapsed_but-later client handles rest v w o still later is = elim (cases_Bool (is_some o.target)) [
  | inl breaks ↦ (let impossible : false ≡ true = rw breaks at is in cc)
  | inr no_break ↦ elim (cases_Bool (is_handle_of_these handles o.handle)) [
    | inl one ↦ (let one_still : is_handle_of_these rest o.handle ≡ true = still one in let impossible : false ≡ true = rw (no_break, one_still) at is in cc)
    | inr other ↦ elim (option_cases o.call) [
      | inl none ↦ rw (no_break, other, none) refl
      | inr some ↦ elim (cases_Bool (has_other client v o.handle some.0)) [
        | inr gone ↦ rw (no_break, other, some.1, gone) refl
        | inl there ↦ (let pends : has_other client w o.handle some.0 ≡ true = later some.0 there in let impossible : false ≡ true = all (is_handle_of_these rest o.handle) (rw (no_break, some.1, pends) at is) in cc)
      ]
    ]
  ]
]
  where
    all : (b : Bool) → not (b || true) ≡ true → false ≡ true
    all true is = is
    all false is = is

NoneLapsed-all_closed : (client : ℕ) (handles : List (ℕ × Handle)) (v : Volume) → IsOnce v → All (λ entry. (entry.1.client == client) ≡ true) handles
    → how_many (lapsed_but client handles v) v.oplocks ≡ 0 → how_many (lapsed_but client [] (with_all_closed handles v)) (with_all_closed handles v).oplocks ≡ 0
NoneLapsed-all_closed client [] v once own none = none
NoneLapsed-all_closed client (entry ∷ handles) v once own none =
    NoneLapsed-all_closed client handles next (IsOnce-kept v next (Keeps.times (KeepsNumbers.keeps (KeepsAll.kept (Keeps-closed v entry.0 entry.1))) once) once) (All-tail (λ (entry : ℕ × Handle). (entry.1.client == client) ≡ true) entry handles own)
    (let same = ap (λ (oplocks : List Oplock). how_many (lapsed_but client handles next) oplocks) (closed-oplocks v entry.0 entry.1) in
    let kept = how_many-filter (lapsed_but client handles next) (λ (o : Oplock). not (o.handle == entry.0)) v.oplocks in
    let weaker = how_many-weaker (λ (o : Oplock). not (o.handle == entry.0) && lapsed_but client handles next o) (lapsed_but client (entry ∷ handles) v) v.oplocks (λ o both. of_other o (cases_Bool (o.handle == entry.0)) both) in
    omega arith)
  where
    next : Volume
    next = with_closed v entry.0 entry.1

    its : entry.1.client ≡ client
    its = eqb-true entry.1.client client (All-head (λ (entry : ℕ × Handle). (entry.1.client == client) ≡ true) entry handles own)

    apart : (call : Call) → not (call.client == client) ≡ true → is_call_on entry.1 (record { call = call; blockers = [] }) ≡ false
    apart call other = elim (cases_Bool (call.client == client)) [
      | inl is ↦ (let impossible : false ≡ true = rw is at other in cc)
      | inr isnt ↦ rw (its, isnt) refl
    ]

    of_other : (o : Oplock) → ((o.handle == entry.0) ≡ true) ⊎ ((o.handle == entry.0) ≡ false) → (not (o.handle == entry.0) && lapsed_but client handles next o) ≡ true → lapsed_but client (entry ∷ handles) v o ≡ true
    of_other o (inl here) both = (let impossible : false ≡ true = rw here at both in cc)
    of_other o (inr differs) both =
        lapsed_but-later client (entry ∷ handles) handles v next o (λ one. elsewhere o.handle differs one)
        (λ turn there. closed-still v entry.0 entry.1 o.handle turn (λ call. not (call.client == client)) once differs (λ e asks other. apart e.1.call other) there)
        (and_right (not (o.handle == entry.0)) (lapsed_but client handles next o) both)
      where
        elsewhere : (id : ℕ) → (id == entry.0) ≡ false → is_handle_of_these (entry ∷ handles) id ≡ true → is_handle_of_these handles id ≡ true
        elsewhere id differs one = (let other : (entry.0 == id) ≡ false = sym (eqb-swap id entry.0) ∙ differs in rw other at one)

-- before a client leaves: who grants an oplock is another client, or the handle is one of the leaving one's
lapsed_but-before : (client : ℕ) (v : Volume) → NoneLapsed v → how_many (lapsed_but client (handles_of_client v client) v) v.oplocks ≡ 0
lapsed_but-before client v none =
    let weaker = how_many-weaker (lapsed_but client (handles_of_client v client) v) (lapsed v) v.oplocks (λ o is. of_any o is) in omega arith
  where
    among : (id number : ℕ) → handle_of v client number ≡ Some id → is_handle_of_these (handles_of_client v client) id ≡ true
    among id number is = elim (option_cases (find (λ (entry : ℕ × Handle). is_opened_by client number entry.1) v.handles)) [
      | inl none ↦ (let impossible : None ≡ Some id = rw none at is in cc)
      | inr some ↦ (let at_id : Some some.0.0 ≡ Some id = rw some.1 at is in let same : some.0.0 ≡ id = cc in
          let own : is_opened_by client number some.0.1 ≡ true = find-passes (λ (entry : ℕ × Handle). is_opened_by client number entry.1) v.handles some.0 some.1 in
          let there = how_many-some (λ (entry : ℕ × Handle). entry.1.client == client && entry.0 == id) v.handles
          (find-any (λ (entry : ℕ × Handle). is_opened_by client number entry.1) (λ entry. entry.1.client == client && entry.0 == id) v.handles some.0 some.1
          (and_true (some.0.1.client == client) (some.0.0 == id) (and_left (some.0.1.client == client) (some.0.1.number == number) own) (eq-eqb some.0.0 id same))) in
          let kept = how_many-filter (λ (entry : ℕ × Handle). entry.0 == id) (λ entry. entry.1.client == client) v.handles in
          let ordered = how_many-in_order (λ (entry : ℕ × Handle). entry.0 == id) (λ a b. nat_lt a.1.number b.1.number) (filter (λ (entry : ℕ × Handle). entry.1.client == client) v.handles) in
          some-how_many (λ (entry : ℕ × Handle). entry.0 == id) (handles_of_client v client) (omega arith))
    ]

    of_any : (o : Oplock) → lapsed_but client (handles_of_client v client) v o ≡ true → lapsed v o ≡ true
    of_any o is = elim (cases_Bool (is_some o.target)) [
      | inl breaks ↦ (let impossible : false ≡ true = rw breaks at is in cc)
      | inr no_break ↦ elim (option_cases o.call) [
        | inl none ↦ rw (no_break, none) refl
        | inr some ↦ elim (cases_Bool (has_grant_under v o.handle some.0)) [
          | inr gone ↦ rw (no_break, some.1, gone) refl
          | inl there ↦ absurd (pends some.0 some.1 no_break (some_item (λ (e : ℕ × Pending). e.0 == some.0 && asks_oplock_of v o.handle e.1.call) v.pending there))
        ]
      ]
    ]
      where
        pends : (turn : ℕ) → o.call ≡ Some turn → is_some o.target ≡ false → Found (λ (e : ℕ × Pending). e.0 == turn && asks_oplock_of v o.handle e.1.call) v.pending → ⊥
        pends turn granted no_break some =
            let under = and_left (some.item.0 == turn) (asks_oplock_of v o.handle some.item.1.call) some.passes in
            let asks = and_right (some.item.0 == turn) (asks_oplock_of v o.handle some.item.1.call) some.passes in
            elim (cases_Bool (some.item.1.call.client == client)) [
              | inr other ↦ (let there : has_other client v o.handle turn ≡ true = some.is_there (λ e. e.0 == turn && (asks_oplock_of v o.handle e.1.call && not (e.1.call.client == client)))
                  (and_true (some.item.0 == turn) _ under (and_true (asks_oplock_of v o.handle some.item.1.call) _ asks (rw other refl))) in
                  let impossible : false ≡ true = all (is_handle_of_these (handles_of_client v client) o.handle) (rw (no_break, granted, there) at is) in cc)
              | inl own ↦ elim (option_cases (handle_granted some.item.1.call.what)) [
                | inl none ↦ (let impossible : false ≡ true = rw none at asks in cc)
                | inr number ↦ elim (option_cases (handle_of v some.item.1.call.client number.0)) [
                  | inl none ↦ (let impossible : false ≡ true = rw (number.1, none) at asks in cc)
                  | inr id ↦ (let same : id.0 ≡ o.handle = eqb-true id.0 o.handle (rw (number.1, id.1) at asks) in
                      let by : some.item.1.call.client ≡ client = eqb-true some.item.1.call.client client own in
                      let found : handle_of v client number.0 ≡ Some o.handle = ap (λ (c : ℕ). handle_of v c number.0) (sym by) ∙ id.1 ∙ ap (λ (n : ℕ). Some n) same in
                      let one : is_handle_of_these (handles_of_client v client) o.handle ≡ true = among o.handle number.0 found in
                      let impossible : false ≡ true = rw (no_break, one) at is in cc)
                ]
              ]
            ]
          where
            all : (b : Bool) → not (b || true) ≡ true → false ≡ true
            all true is = is
            all false is = is

-- ---- what a try leaves

-- no oplock has lapsed, and the numbers of handles rise
pub record Granted (v : Volume) : Type 0 where
  pub none : NoneLapsed v
  pub numbered : IsNumbered v.handles v.last_handle

pub Granted-stay : (v w : Volume) → w.oplocks ≡ v.oplocks → w.pending ≡ v.pending → HandlesStay v w → Granted v → Granted w
Granted-stay v w oplocks pending stay granted = record { none = NoneLapsed-same v w oplocks pending stay.found granted.none; numbered = stay.numbered granted.numbered }

pub Granted-untouched : (v w : Volume) → Untouched v w → Granted v → Granted w
Granted-untouched v w un granted = Granted-stay v w un.oplocks un.pending (HandlesStay-same un.opens un.numbers.handles) granted

pub Granted-pending : (v : Volume) (turn : ℕ) (call : Call) (blockers : List Blocker) → Granted v → Granted (with_pending v turn call blockers)
Granted-pending v turn call blockers granted = record {
  none = (let none = granted.none in let weaker = how_many-weaker (lapsed (with_pending v turn call blockers)) (lapsed v) v.oplocks (λ o is. lapsed-later v (with_pending v turn call blockers) o
      (λ t its there. any-push (λ e. e.0 == t && asks_oplock_of v o.handle e.1.call) v.pending ((turn, record { call = call; blockers = blockers }) ∷ []) there) is) in omega arith);
  numbered = granted.numbered;
}

-- by how the try comes out; a call that stays pending may have been granted an oplock
abbrev pub LeftTo : ℕ → Call → Outcome → Type 0
LeftTo turn call (Done w reply) = Granted w
LeftTo turn call (Stay w interim) = Granted (with_pending w turn call [])
LeftTo turn call (Hold w blockers interim) = Granted w

pub record Left (turn : ℕ) (call : Call) (outcome : Outcome) : Type 0 where
  pub so : LeftTo turn call outcome

Left-done : {turn : ℕ} {call : Call} (w : Volume) (reply : Reply) → Granted w → Left turn call (Done w reply)
Left-done w reply granted = record { so = granted }

Left-stay : {turn : ℕ} {call : Call} (w : Volume) (interim : Interim) → Granted w → Left turn call (Stay w interim)
Left-stay {turn} {call} w interim granted = record { so = Granted-pending w turn call [] granted }

Left-refused : {turn : ℕ} {call : Call} (v : Volume) (status : Status) → Granted v → Left turn call (refused v status)
Left-refused v status granted = record { so = granted }

Left-if : {turn : ℕ} {call : Call} (test : Bool) (one other : Outcome) → (test ≡ true → Left turn call one) → (test ≡ false → Left turn call other) → Left turn call (if test then one else other)
Left-if true one other holds fails = holds refl
Left-if false one other holds fails = fails refl

Left-option : {X : Type 0} {turn : ℕ} {call : Call} (found : Option X) (some : X → Outcome) (none : Outcome)
    → ((x : X) → found ≡ Some x → Left turn call (some x)) → Left turn call none → Left turn call (option_map_or some found none)
Left-option None some none with_some with_none = with_none
Left-option (Some x) some none with_some with_none = with_some x refl

left_of-tries : (v : Volume) (turn : ℕ) (call : Call) (outcome : Outcome) → IsOnce v → OneGrantEach v → Granted v → TriesTo Leaves v outcome → LeftTo turn call outcome
left_of-tries v turn call (Done w reply) once one granted so = record { none = so.0.pends once one granted.none; numbered = so.0.stay.numbered granted.numbered }
left_of-tries v turn call (Stay w interim) once one granted so = absurd so
left_of-tries v turn call (Hold w blockers interim) once one granted so = record { none = so.0.pends once one granted.none; numbered = so.0.stay.numbered granted.numbered }

-- ---- closes and leavings

closed-numbered : (v : Volume) (id : ℕ) (handle : Handle) → IsNumbered v.handles v.last_handle → IsNumbered (with_closed v id handle).handles (with_closed v id handle).last_handle
closed-numbered v id handle numbered =
    rw (closed-handles v id handle, SameNumbers.handles (KeepsAll.same (Keeps-closed v id handle))) (IsNumbered-filter (λ (entry : ℕ × Handle). not (entry.0 == id)) v.handles v.last_handle numbered)

Granted-closed : (v : Volume) (client number id : ℕ) (handle : Handle) → IsOnce v → handle_of v client number ≡ Some id → row_of v.handles id ≡ Some handle → Granted v → Granted (with_closed v id handle)
Granted-closed v client number id handle once found row granted = record {
  none = NoneLapsed-closed v client number id handle once found (own-handle v client number id handle granted.numbered found row) granted.none;
  numbered = closed-numbered v id handle granted.numbered;
}

close-left : (v : Volume) (turn : ℕ) (call : Call) (client number : ℕ) → IsOnce v → Granted v → Left turn call (try_close v client number)
unfolding try_close close_at
close-left v turn call client number once granted =
    Left-option (handle_of v client number) (λ id. close_at v id) _ (λ id found.
    Left-option (row_of v.handles id) (λ handle. ends_with (with_closed v id handle) Success) _ (λ handle row. Left-done (with_closed v id handle) _ (Granted-closed v client number id handle once found row granted))
    (Left-refused v InvalidHandle granted)) (Left-refused v InvalidHandle granted)

all_closed-numbered : (handles : List (ℕ × Handle)) (v : Volume) → IsNumbered v.handles v.last_handle → IsNumbered (with_all_closed handles v).handles (with_all_closed handles v).last_handle
all_closed-numbered [] v numbered = numbered
all_closed-numbered (entry ∷ handles) v numbered = all_closed-numbered handles (with_closed v entry.0 entry.1) (closed-numbered v entry.0 entry.1 numbered)

of-client : (client : ℕ) (v : Volume) → All (λ entry. (entry.1.client == client) ≡ true) (handles_of_client v client)
of-client client v =
    All-none (λ (entry : ℕ × Handle). entry.1.client == client) (handles_of_client v client)
    (let ordered = how_many-in_order (λ (entry : ℕ × Handle). not (entry.1.client == client)) (λ a b. nat_lt a.1.number b.1.number) (filter (λ (entry : ℕ × Handle). entry.1.client == client) v.handles) in
    let kept = how_many-filter (λ (entry : ℕ × Handle). not (entry.1.client == client)) (λ entry. entry.1.client == client) v.handles in
    let none = never (λ (entry : ℕ × Handle). entry.1.client == client) v.handles in omega arith)
  where
    never : {X : Type 0} (p : X → Bool) (xs : List X) → how_many (λ x. p x && not (p x)) xs ≡ 0
    never p [] = refl
    never p (x ∷ xs) = (let rest = never p xs in elim (cases_Bool (p x)) [ inl passes ↦ rw passes (omega arith) | inr fails ↦ rw fails (omega arith) ])

    All-none : {X : Type 0} (p : X → Bool) (xs : List X) → how_many (λ x. not (p x)) xs ≡ 0 → All (λ x. p x ≡ true) xs
    All-none p [] none = All-nil (λ x. p x ≡ true)
    All-none p (x ∷ xs) none = elim (cases_Bool (p x)) [
      | inl passes ↦ All-cons (λ x. p x ≡ true) x xs passes (All-none p xs (let rest : 0 + how_many (λ x. not (p x)) xs ≡ 0 = rw passes at none in omega arith))
      | inr fails ↦ (let some : 1 + how_many (λ x. not (p x)) xs ≡ 0 = rw fails at none in absurd (omega arith))
    ]

-- no open and no wait grants an oplock
not_open : (what : What) → is_some (handle_granted what) ≡ true → is_open_or_wait what ≡ false
not_open (Ask (OplockRequest handle level)) is = refl
not_open (Ask (Ack handle level)) is = refl
not_open _ is = cc

leave-left : (v : Volume) (turn : ℕ) (call : Call) (client : ℕ) → IsOnce v → Granted v → Left turn call (try_leave v client)
unfolding try_leave with_client_gone
leave-left v turn call client once granted =
    Left-done (with_left closed client) _ (record { none = none_left; numbered = all_closed-numbered (handles_of_client v client) ended (rw (same.handles, ended_last) granted.numbered) })
  where
    ended : Volume
    ended = with_calls_ended (λ _. Cancelled) (pending_by_turn (is_left_behind client) v) v

    closed : Volume
    closed = with_all_closed (handles_of_client v client) ended

    same : SameWatching v ended
    same = watching-calls_ended (λ _. Cancelled) (pending_by_turn (is_left_behind client) v) v

    kept : KeepsAll v ended
    kept = Keeps-ended_by_turn (λ _. Cancelled) (is_left_behind client) v

    ended_last : ended.last_handle ≡ v.last_handle
    ended_last = kept.same.handles

    excludes : (e : ℕ × Pending) → is_some (handle_granted e.1.call.what) ≡ true → is_left_behind client e.1 ≡ false
    excludes e is = (let no_open : is_open_or_wait e.1.call.what ≡ false = not_open e.1.call.what is in rw no_open (nothing (e.1.call.client == client)))
      where
        nothing : (b : Bool) → (b && false) ≡ false
        nothing true = refl
        nothing false = refl

    none_ended : NoneLapsed ended
    none_ended = NoneLapsed-calls_ended v (λ _. Cancelled) (is_left_behind client) (λ a b. nat_lt a.0 b.0) once (λ e is. excludes e is) granted.none

    before : how_many (lapsed_but client (handles_of_client v client) ended) ended.oplocks ≡ 0
    before = subst (λ (handles : List (ℕ × Handle)). how_many (lapsed_but client (in_order (λ a b. nat_lt a.1.number b.1.number) (filter (λ (entry : ℕ × Handle). entry.1.client == client) handles)) ended) ended.oplocks ≡ 0) same.handles (lapsed_but-before client ended none_ended)

    none_left : NoneLapsed (with_left closed client)
    none_left =
        (let none : how_many (lapsed_but client [] closed) closed.oplocks ≡ 0 = NoneLapsed-all_closed client (handles_of_client v client) ended (IsOnce-kept v ended (kept.kept.keeps.times once) once) (of-client client v) before in
        let weaker = how_many-weaker (lapsed closed) (lapsed_but client [] closed) closed.oplocks (λ o is. but_none closed o is) in omega arith)
      where
        but_none : (w : Volume) (o : Oplock) → lapsed w o ≡ true → lapsed_but client [] w o ≡ true
        but_none w o is = elim (cases_Bool (is_some o.target)) [
          | inl breaks ↦ (let impossible : false ≡ true = rw breaks at is in cc)
          | inr no_break ↦ elim (option_cases o.call) [
            | inl none ↦ rw (no_break, none) refl
            | inr some ↦ elim (cases_Bool (has_other client w o.handle some.0)) [
              | inr gone ↦ rw (no_break, some.1, gone) refl
              | inl there ↦ (let pends : has_grant_under w o.handle some.0 ≡ true = has-only w w o.handle some.0 (λ call. not (call.client == client)) w.pending (λ c n found. found) there in
                  let impossible : false ≡ true = rw (no_break, some.1, pends) at is in cc)
            ]
          ]
        ]

-- ---- cancellations

Granted-ends_under : (v : Volume) (client number turn : ℕ) (reply : Reply) → IsOnce v → 1 ≤ how_many (λ e. is_call_of client number e && e.0 == turn) v.pending → how_many (is_granted_under turn) v.oplocks ≡ 0
    → Granted v → Granted (with_end v client number reply)
Granted-ends_under v client number turn reply once there no_grant granted = record { none = NoneLapsed-ends_under v client number turn reply once there no_grant granted.none; numbered = granted.numbered }

cancel-left : (v : Volume) (turn : ℕ) (call : Call) (client number : ℕ) → IsOnce v → Granted v → Left turn call (try_cancel v client number)
unfolding try_cancel
cancel-left v turn call client number once granted =
    Left-option (number_of (is_call client number) v.pending) (λ at. ends_with (with_cancelled v client number at) Success) _
    (λ at found. Left-done (with_cancelled v client number at) _ (Granted-ends_under (with_oplock_given_up v at) client number at _ once (under at found) (gone at)
    (record { none = (let none = granted.none in let fewer = how_many-filter_le (lapsed v) (λ (o : Oplock). not (is_granted_under at o)) v.oplocks in omega arith); numbered = granted.numbered })))
    (Left-refused v InvalidParameter granted)
  where
    gone : (at : ℕ) → how_many (is_granted_under at) (with_oplock_given_up v at).oplocks ≡ 0
    gone at = how_many-filter (is_granted_under at) (λ (o : Oplock). not (is_granted_under at o)) v.oplocks ∙ neither v.oplocks
      where
        neither : (oplocks : List Oplock) → how_many (λ (o : Oplock). not (is_granted_under at o) && is_granted_under at o) oplocks ≡ 0
        neither [] = refl
        neither (o ∷ oplocks) = (let rest = neither oplocks in elim (cases_Bool (is_granted_under at o)) [ inl passes ↦ rw passes (omega arith) | inr fails ↦ rw fails (omega arith) ])

    under : (at : ℕ) → number_of (is_call client number) v.pending ≡ Some at → 1 ≤ how_many (λ e. is_call_of client number e && e.0 == at) v.pending
    under at found = elim (option_cases (find (is_call_of client number) v.pending)) [
      | inl none ↦ (let impossible : None ≡ Some at = rw none at found in cc)
      | inr some ↦ (let is : Some some.0.0 ≡ Some at = rw some.1 at found in let same : some.0.0 ≡ at = cc in
          how_many-some (λ e. is_call_of client number e && e.0 == at) v.pending
          (find-any (is_call_of client number) (λ e. is_call_of client number e && e.0 == at) v.pending some.0 some.1
          (and_true (is_call_of client number some.0) (some.0.0 == at) (find-passes (is_call_of client number) v.pending some.0 some.1) (eq-eqb some.0.0 at same))))
    ]

-- ---- the others that are never held

unlock-left : (v : Volume) (turn : ℕ) (call : Call) (client handle at count : ℕ) → Granted v → Left turn call (try_unlock v client handle at count)
unfolding try_unlock unlock_at unlock_by unlock_range
unlock-left v turn call client handle at count granted =
    Left-option (handle_of v client handle) _ _ (λ id found. Left-option (row_of v.handles id) _ _ (λ row is. Left-option row.stream _ _ (λ stream on.
    Left-option (number_of (is_lock_on id at count) v.locks) (λ _. ends_with (without_lock v id at count) Success) _ (λ number there. Left-done (without_lock v id at count) _ (Granted-stay v (without_lock v id at count) refl refl (HandlesStay-same refl refl) granted))
    (Left-refused v RangeNotLocked granted)) (Left-refused v InvalidParameter granted)) (Left-refused v InvalidHandle granted)) (Left-refused v InvalidHandle granted)

Granted-begun : (v : Volume) (id filter : ℕ) (tree : Bool) → Granted v → Granted (with_watch_begun v id filter tree)
Granted-begun v id filter tree granted = elim (cases_Bool (is_some (watch_of v id))) [
  | inl is ↦ rw is granted
  | inr isnt ↦ rw isnt (Granted-stay v _ refl refl (HandlesStay-same refl refl) granted)
]

notify-left : (v : Volume) (turn : ℕ) (call : Call) (client handle filter : ℕ) (tree : Bool) (room : ℕ) → Granted v → Left turn call (try_notify v client handle filter tree room)
unfolding try_notify notify_at
notify-left v turn call client handle filter tree room granted =
    Left-option (handle_of v client handle) _ _ (λ id found. Left-option (row_of v.handles id) _ _ (λ row is. of_row id row) (Left-refused v InvalidHandle granted)) (Left-refused v InvalidHandle granted)
  where
    of_row : (id : ℕ) (row : Handle) → Left turn call (notify_by v id row filter tree room)
    of_row id row =
        Left-if (is_some row.stream) _ _ (λ is. Left-refused v InvalidParameter granted)
        (λ no. Left-if (not (has_any row.access 0x1)) _ _ (λ is. Left-refused v AccessDenied granted)
        (λ no. Left-if (not (is_notify_filter filter)) _ _ (λ is. Left-refused v InvalidParameter granted)
        (λ no. Left-if (is_link_marked v row.link) _ _ (λ is. Left-refused v DeletePending granted)
        (λ no. Left-if (is_something_due (with_watch_begun v id filter tree) id) _ _
        (λ is. Left-done (with_watch_seen (with_watch_begun v id filter tree) id) _ (Granted-untouched (with_watch_begun v id filter tree) _ (Untouched-seen (with_watch_begun v id filter tree) id) (Granted-begun v id filter tree granted)))
        (λ no. Left-stay (with_watch_begun v id filter tree) _ (Granted-begun v id filter tree granted))))))

wait-left : (v : Volume) (turn : ℕ) (call : Call) (client number : ℕ) → Granted v → Left turn call (try_wait v client number)
unfolding try_wait
wait-left v turn call client number granted =
    Left-if (has_ended v client number) _ _ (λ is. Left-done v _ granted)
    (λ no. Left-if (is_pending v client number) _ _ (λ is. Left-stay v _ granted) (λ isnt. Left-refused v InvalidParameter granted))

ticks-left : (v : Volume) (turn : ℕ) (call : Call) (ticks : ℕ) → Granted v → Left turn call (ends_with (with_ticks v ticks) Success)
ticks-left v turn call ticks granted = Left-done (with_ticks v ticks) _ (Granted-stay v (with_ticks v ticks) refl refl (HandlesStay-same refl refl) granted)

-- ---- grants and acknowledgements

NoneLapsed-call_ended : (v : Volume) (turn : Option ℕ) (status : Status) → IsOnce v → ((t : ℕ) → turn ≡ Some t → how_many (is_granted_under t) v.oplocks ≡ 0) → NoneLapsed v → NoneLapsed (with_call_ended v turn status)
NoneLapsed-call_ended v None status once ended none = none
NoneLapsed-call_ended v (Some turn) status once ended none = elim (option_cases (row_of v.pending turn)) [
  | inl missing ↦ rw missing none
  | inr some ↦ rw some.1 (NoneLapsed-ends_under v some.0.call.client some.0.call.number turn (record { status = status; body = Nothing }) once (found-under v.pending turn some.0 some.1) (ended turn refl) none)
]

handles-call_ended : (v : Volume) (turn : Option ℕ) (status : Status) → (with_call_ended v turn status).handles ≡ v.handles
handles-call_ended v None status = refl
handles-call_ended v (Some turn) status = elim (option_cases (row_of v.pending turn)) [ inl none ↦ rw none refl | inr some ↦ rw some.1 refl ]

pub handles-switched : (oplocks : List Oplock) (v : Volume) → (all_switched v oplocks).handles ≡ v.handles
handles-switched [] v = refl
handles-switched (o ∷ oplocks) v = handles-switched oplocks (with_switched v o) ∙ handles-call_ended (without_oplock v o.handle) o.call OplockSwitchedToNewHandle

NoneLapsed-switched : (oplocks : List Oplock) (v : Volume) → IsOnce v
    → ((turn handle : ℕ) → 1 ≤ how_many (λ o. is_granted_under turn o && is_of handle o) oplocks → how_many (granted_elsewhere turn handle) v.oplocks ≡ 0)
    → NoneLapsed v → NoneLapsed (all_switched v oplocks)
NoneLapsed-switched [] v once alone none = none
NoneLapsed-switched (o ∷ oplocks) v once alone none =
    NoneLapsed-switched oplocks next (IsOnce-kept v next (Keeps.times (KeepsNumbers.keeps (KeepsAll.kept (KeepsAll-switched v o))) once) once)
    (λ turn handle some. let zero_there : how_many (granted_elsewhere turn handle) v.oplocks ≡ 0 = alone turn handle (omega arith) in
    let same = ap (λ (oplocks : List Oplock). how_many (granted_elsewhere turn handle) oplocks) (oplocks-call_ended (without_oplock v o.handle) o.call OplockSwitchedToNewHandle) in
    let fewer = how_many-filter_le (granted_elsewhere turn handle) (λ (x : Oplock). not (x.handle == o.handle)) v.oplocks in omega arith)
    (NoneLapsed-call_ended (without_oplock v o.handle) o.call OplockSwitchedToNewHandle once
    (λ t is. (let kept = how_many-filter (is_granted_under t) (λ (x : Oplock). not (x.handle == o.handle)) v.oplocks in
    let turned = how_many-same (λ (x : Oplock). not (x.handle == o.handle) && is_granted_under t x) (granted_elsewhere t o.handle) v.oplocks (λ x. swapped (not (x.handle == o.handle)) (is_granted_under t x)) in
    let zero_there : how_many (granted_elsewhere t o.handle) v.oplocks ≡ 0 = alone t o.handle (of_first t is) in omega arith))
    (let fewer = how_many-filter_le (lapsed v) (λ (x : Oplock). not (x.handle == o.handle)) v.oplocks in omega arith))
  where
    next : Volume
    next = with_switched v o

    of_first : (t : ℕ) → o.call ≡ Some t → 1 ≤ how_many (λ x. is_granted_under t x && is_of o.handle x) (o ∷ oplocks)
    of_first t is = (let here : is_granted_under t o ≡ true = rw (is, eq-eqb t t refl) refl in rw (here, eq-eqb o.handle o.handle refl) (omega arith))

-- the call that is pending now grants the oplock of its handle
asks-own : (v : Volume) (id number : ℕ) (call : Call) → handle_granted call.what ≡ Some number → handle_of v call.client number ≡ Some id → asks_oplock_of v id call ≡ true
asks-own v id number call is found = rw (is, found) (eq-eqb id id refl)

pends-now : (v : Volume) (id turn : ℕ) (call : Call) → asks_oplock_of v id call ≡ true
    → list_any (λ e. e.0 == turn && asks_oplock_of v id e.1.call) (v.pending ++ (turn, record { call = call; blockers = [] }) ∷ []) ≡ true
pends-now v id turn call asks =
    (let more = how_many-append (λ (e : ℕ × Pending). e.0 == turn && asks_oplock_of v id e.1.call) v.pending ((turn, record { call = call; blockers = [] }) ∷ []) in
    let here : how_many (λ (e : ℕ × Pending). e.0 == turn && asks_oplock_of v id e.1.call) (v.pending ++ (turn, record { call = call; blockers = [] }) ∷ []) ≡ how_many (λ e. e.0 == turn && asks_oplock_of v id e.1.call) v.pending + (1 + 0) = rw (eq-eqb turn turn refl, asks) at more in
    some-how_many (λ (e : ℕ × Pending). e.0 == turn && asks_oplock_of v id e.1.call) (v.pending ++ (turn, record { call = call; blockers = [] }) ∷ []) (omega arith))

NoneLapsed-oplock : (v : Volume) (id key : ℕ) (level : Level) (turn : ℕ) (call : Call) → asks_oplock_of v id call ≡ true → NoneLapsed v → NoneLapsed (with_pending (with_oplock v id key level turn) turn call [])
NoneLapsed-oplock v id key level turn call asks none =
    (let more = how_many-append (lapsed after) v.oplocks (granted_oplock id key level turn ∷ []) in
    let weaker = how_many-weaker (lapsed after) (lapsed v) v.oplocks (λ o is. lapsed-later v after o (λ t its there. any-push (λ e. e.0 == t && asks_oplock_of v o.handle e.1.call) v.pending ((turn, record { call = call; blockers = [] }) ∷ []) there) is) in
    let pends : has_grant_under after id turn ≡ true = pends-now v id turn call asks in
    let fresh : how_many (lapsed after) (v.oplocks ++ granted_oplock id key level turn ∷ []) ≡ how_many (lapsed after) v.oplocks + (0 + 0) = rw pends at more in
    omega arith)
  where
    after : Volume
    after = with_pending (with_oplock v id key level turn) turn call []

oplock-left : (v : Volume) (turn : ℕ) (call : Call) (handle : ℕ) (level : Level) → handle_granted call.what ≡ Some handle → IsOnce v → OneGrantEach v → Granted v → Left turn call (try_oplock v call.client handle level turn)
unfolding try_oplock oplock_at oplock_by oplock_on
oplock-left v turn call handle level asked once one granted =
    Left-option (handle_of v call.client handle) _ _ (λ id found. Left-option (row_of v.handles id) _ _ (λ row is. Left-option row.stream _ _ (λ stream on.
    Left-if (is_not_granted v id row.key stream level) _ _ (λ is. Left-refused v OplockNotGranted granted) (λ no. record { so = of_grant id found row.key stream }))
    (Left-refused v InvalidParameter granted)) (Left-refused v InvalidHandle granted)) (Left-refused v InvalidHandle granted)
  where
    of_grant : (id : ℕ) → handle_of v call.client handle ≡ Some id → (key stream : ℕ) → Granted (with_pending (with_granted v id key stream level turn) turn call [])
    of_grant id found key stream = record {
      none = NoneLapsed-oplock all id key level turn call (asks-own all id handle call asked (rw (handles-switched (switched v id key stream) v) found))
          (NoneLapsed-switched (switched v id key stream) v once (λ t h some. alone t h some) granted.none);
      numbered = rw (handles-switched (switched v id key stream) v, SameNumbers.handles (KeepsAll.same (KeepsAll-all_switched (switched v id key stream) v))) granted.numbered;
    }
      where
        all : Volume
        all = all_switched v (switched v id key stream)

        alone : (t h : ℕ) → 1 ≤ how_many (λ o. is_granted_under t o && is_of h o) (switched v id key stream) → how_many (granted_elsewhere t h) v.oplocks ≡ 0
        alone t h some =
            (let kept = how_many-filter_le (λ o. is_granted_under t o && is_of h o) (λ o. is_oplock_on v stream o && is_of_key id key o) v.oplocks in
            how_many-none (granted_elsewhere t h) v.oplocks (only-one (is_granted_under t) (is_of h) v.oplocks (one t) (some-how_many (λ o. is_granted_under t o && is_of h o) v.oplocks (omega arith))))

NoneLapsed-level_kept : (v : Volume) (id : ℕ) (level : Level) (turn : ℕ) (call : Call) → asks_oplock_of v id call ≡ true → NoneLapsed v → NoneLapsed (with_pending (with_level_kept v id level turn) turn call [])
NoneLapsed-level_kept v id level turn call asks none =
    (let mapped = how_many-map (lapsed after) (changed (acknowledged_oplock level turn) id) v.oplocks in
    let weaker = how_many-weaker (λ o. lapsed after (changed (acknowledged_oplock level turn) id o)) (lapsed v) v.oplocks (λ o is. of_any o (cases_Bool (o.handle == id)) is) in omega arith)
  where
    after : Volume
    after = with_pending (with_level_kept v id level turn) turn call []

    of_any : (o : Oplock) → ((o.handle == id) ≡ true) ⊎ ((o.handle == id) ≡ false) → lapsed after (changed (acknowledged_oplock level turn) id o) ≡ true → lapsed v o ≡ true
    of_any o (inr other) is =
        lapsed-later v after o (λ t its there. any-push (λ e. e.0 == t && asks_oplock_of v o.handle e.1.call) v.pending ((turn, record { call = call; blockers = [] }) ∷ []) there) (rw other at is)
    of_any o (inl here) is =
        (let same : o.handle ≡ id = eqb-true o.handle id here in
        let pends : has_grant_under after id turn ≡ true = pends-now v id turn call asks in
        let lapses : not (has_grant_under after o.handle turn) ≡ true = rw here at is in
        let impossible : false ≡ true = rw (same, pends) at lapses in cc)

ack-left : (v : Volume) (turn : ℕ) (call : Call) (handle : ℕ) (level : Level) → handle_granted call.what ≡ Some handle → Granted v → Left turn call (try_ack v call.client handle level turn)
unfolding try_ack ack_at ack_keeping
ack-left v turn call handle level asked granted =
    Left-option (handle_of v call.client handle) _ _ (λ id found. Left-option (target_of v id) _ _ (λ target is.
    Left-if (has_read (in_both level target)) _ _
    (λ keeps. record { so = record { none = NoneLapsed-level_kept v id (in_both level target) turn call (asks-own v id handle call asked found) granted.none; numbered = granted.numbered } })
    (λ none. Left-done (without_oplock v id) _ (record { none = (let zero_there = granted.none in let fewer = how_many-filter_le (lapsed v) (λ (o : Oplock). not (o.handle == id)) v.oplocks in omega arith); numbered = granted.numbered })))
    (Left-refused v InvalidOplockProtocol granted)) (Left-refused v InvalidHandle granted)

-- ---- any try

pub try-left : (v : Volume) (call : Call) (turn : ℕ) → MaySettle v → IsOnce v → OneGrantEach v → Granted v → Left turn call (try v call turn)
try-left v call turn may once one granted = Left-if (has_left v call.client) _ _ (λ is. Left-refused v InvalidHandle granted) (λ no. of_what call.what refl)
  where
    of_own : (request : Request) → call.what ≡ Ask request → has_own_laws request ≡ true → Left turn call (try_request v turn call.client call.number request)
    of_own (OplockRequest handle level) is own = oplock-left v turn call handle level (rw is refl) once one granted
    of_own (Ack handle level) is own = ack-left v turn call handle level (rw is refl) granted
    of_own (Close handle) is own = close-left v turn call call.client handle once granted
    of_own (Unlock handle at count) is own = unlock-left v turn call call.client handle at count granted
    of_own (Notify handle filter tree room) is own = notify-left v turn call call.client handle filter tree room granted
    of_own (Cancel number) is own = cancel-left v turn call call.client number once granted
    of_own _ is own = cc

    of_request : (request : Request) → call.what ≡ Ask request → Left turn call (try_request v turn call.client call.number request)
    of_request request is = elim (cases_Bool (has_own_laws request)) [
      | inl own ↦ of_own request is own
      | inr none ↦ record { so = left_of-tries v turn call _ once one granted (Tries.so (Obeys.tries (try_request-obeys v turn call.client call.number request none) may.oplocks)) }
    ]

    of_what : (what : What) → call.what ≡ what → Left turn call (try_what v turn call.client call.number what)
    of_what (Ask request) is = of_request request is
    of_what (Tick ticks) is = ticks-left v turn call ticks granted
    of_what (WaitFor number) is = wait-left v turn call call.client number granted
    of_what Leave is = leave-left v turn call call.client once granted

-- ---- the turn's own call

pub answered-granted : (v : Volume) (call : Call) → MayTurn v → times call.client call.number v ≡ 0 → OneGrantEach v → Granted v → Granted (answered call (turn_number v) (try v call (turn_number v)))
answered-granted v call may new one granted =
    go (try v call (turn_number v)) (try-keeps v call (turn_number v) may.take_up.may.oplocks) (Left.so (try-left v call (turn_number v) may.take_up.may may.take_up.once one granted))
  where
    go : (outcome : Outcome) → TriedTo v (turn_number v) call.what outcome → LeftTo (turn_number v) call outcome → Granted (answered call (turn_number v) outcome)
    go (Stay w interim) tried left = left
    go (Hold w blockers interim) tried left = Granted-pending w (turn_number v) call blockers left
    go (Done w reply) tried left = record {
      none = NoneLapsed-ends w call.client call.number reply
          (let same = tried.0.keeps.times may.take_up.once call.client call.number in
          let weaker = how_many-weaker (λ e. is_call_of call.client call.number e && is_some (handle_granted e.1.call.what)) (is_call_of call.client call.number) w.pending
          (λ e both. and_left (is_call_of call.client call.number e) (is_some (handle_granted e.1.call.what)) both) in omega arith) left.none;
      numbered = left.numbered;
    }

answered-one : (v : Volume) (call : Call) → MayTurn v → OneGrantEach v → OneGrantEach (answered call (turn_number v) (try v call (turn_number v)))
answered-one v call may one = go (try v call (turn_number v)) (try-keeps v call (turn_number v) may.take_up.may.oplocks)
  where
    go : (outcome : Outcome) → TriedTo v (turn_number v) call.what outcome → OneGrantEach (answered call (turn_number v) outcome)
    go (Done w reply) tried turn = (let few : how_many (is_granted_under turn) v.oplocks ≤ 1 = one turn in let fewer = tried.0.keeps.granted turn in omega arith)
    go (Hold w blockers interim) tried turn = (let few : how_many (is_granted_under turn) v.oplocks ≤ 1 = one turn in let fewer = tried.0.keeps.granted turn in omega arith)
    go (Stay w interim) tried turn =
        (let few : how_many (is_granted_under turn) v.oplocks ≤ 1 = one turn in let up = tried.granted turn in
        elim (cases_Bool (made v + 1 == turn)) [
          | inr other ↦ (let no_more : how_many (is_granted_under turn) w.oplocks ≤ how_many (is_granted_under turn) v.oplocks + 0 = rw other at up in omega arith)
          | inl is ↦ (let same : made v + 1 ≡ turn = eqb-true (made v + 1) turn is in let none : how_many (is_granted_under turn) v.oplocks ≡ 0 = may.granted turn (omega arith) in
              let no_more : how_many (is_granted_under turn) w.oplocks ≤ how_many (is_granted_under turn) v.oplocks + 1 = rw is at up in omega arith)
        ])

-- ---- the settlement

-- the end of a call that grants no oplock
Granted-ends : (v : Volume) (client number : ℕ) (reply : Reply) → IsOnce v → 1 ≤ how_many (λ e. is_call_of client number e && not (is_some (handle_granted e.1.call.what))) v.pending → Granted v → Granted (with_end v client number reply)
Granted-ends v client number reply once there granted = record {
  none = NoneLapsed-ends v client number reply
      (let few : times client number v ≤ 1 = once client number in
      let none = how_many-none (λ e. is_call_of client number e && not (not (is_some (handle_granted e.1.call.what)))) v.pending (only-one (is_call_of client number) (λ e. not (is_some (handle_granted e.1.call.what))) v.pending (omega arith)
      (some-how_many (λ e. is_call_of client number e && not (is_some (handle_granted e.1.call.what))) v.pending there)) in
      let weaker = how_many-weaker (λ e. is_call_of client number e && is_some (handle_granted e.1.call.what)) (λ e. is_call_of client number e && not (not (is_some (handle_granted e.1.call.what)))) v.pending
      (λ e both. (let grants = and_right (is_call_of client number e) (is_some (handle_granted e.1.call.what)) both in and_true (is_call_of client number e) (not (not (is_some (handle_granted e.1.call.what)))) (and_left (is_call_of client number e) (is_some (handle_granted e.1.call.what)) both) (rw grants refl))) in
      omega arith) granted.none;
  numbered = granted.numbered;
}

held-ungranted : (what : What) → may_be_held what ≡ true → is_some (handle_granted what) ≡ false
held-ungranted (Ask (Create path wanted share disposition options attributes key)) is = refl
held-ungranted (Ask (Read handle at count)) is = refl
held-ungranted (Ask (Write handle at bytes)) is = refl
held-ungranted (Ask (SetEnd handle length)) is = refl
held-ungranted (Ask (Lock handle at count exclusive wait)) is = refl
held-ungranted (Ask (Rename handle path replace)) is = refl
held-ungranted (Ask (Link handle path replace)) is = refl
held-ungranted (Ask (SetDisposition handle delete)) is = refl
held-ungranted _ is = cc

come-ungranted : (v : Volume) (client number : ℕ) (what : What) → has_come v client number what ≡ true → is_some (handle_granted what) ≡ false
come-ungranted v client number (WaitFor earlier) is = refl
come-ungranted v client number (Ask (Notify handle filter tree room)) is = refl
come-ungranted v client number _ is = cc

not_wait : (what : What) → is_some (handle_granted what) ≡ true → is_wait what ≡ false
not_wait (Ask request) is = refl
not_wait _ is = cc

Granted-blockers : (v : Volume) (turn : ℕ) (blockers : List Blocker) → Granted v → Granted (with_blockers v turn blockers)
Granted-blockers v turn blockers granted = record {
  none = (let none = granted.none in let weaker = how_many-weaker (lapsed (with_blockers v turn blockers)) (lapsed v) v.oplocks (λ o is. lapsed-later v (with_blockers v turn blockers) o (λ t its there. still o.handle t there) is) in omega arith);
  numbered = granted.numbered;
}
  where
    change : Pending → Pending
    change row = record row { blockers = blockers }

    still : (id t : ℕ) → has_grant_under v id t ≡ true → has_grant_under (with_blockers v turn blockers) id t ≡ true
    still id t there =
        any-map (λ e. e.0 == t && asks_oplock_of v id e.1.call) (change_at change turn) v.pending
        ∙ any-same (λ e. (change_at change turn e).0 == t && asks_oplock_of v id (change_at change turn e).1.call) (λ e. e.0 == t && asks_oplock_of v id e.1.call) v.pending
        (λ e. elim (cases_Bool (e.0 == turn)) [ inl here ↦ rw here refl | inr other ↦ rw other refl ]) ∙ there

tried-granted : (v : Volume) (entry : ℕ × Pending) (outcome : Outcome) → IsOnce v → GrantsNoneHeld v → IsNext v entry → is_held entry.1 ≡ true → may_be_held entry.1.call.what ≡ true
    → TriesTo Leaves v outcome → LeftTo entry.0 entry.1.call outcome → Granted (with_tried entry.0 entry.1 outcome)
tried-granted v entry (Stay w interim) once none next held may tries left = absurd tries
tried-granted v entry (Hold w blockers interim) once none next held may tries left = Granted-blockers w entry.0 blockers left
tried-granted v entry (Done w reply) once none next held may tries left =
    Granted-ends w entry.1.call.client entry.1.call.number reply (IsOnce-kept v w (tries.0.keeps.times once) once)
    (let stays = tries.0.held once none own in
    let there = next.is_there (λ e. is_held e.1 && own e) (rw (held, is_same-refl entry.1.call.client entry.1.call.number, held-ungranted entry.1.call.what may) refl) in
    let all = how_many-weaker (λ e. is_held e.1 && own e) own w.pending (λ e both. and_right (is_held e.1) (own e) both) in omega arith) left
  where
    own : ℕ × Pending → Bool
    own e = is_call_of entry.1.call.client entry.1.call.number e && not (is_some (handle_granted e.1.call.what))

pub taken_up-granted : (s : Settling) (entry : ℕ × Pending) → MaySettle s.volume → IsOnce s.volume → GrantsNoneHeld s.volume → OneGrantEach s.volume → IsNext s.volume entry → Granted s.volume → Granted (taken_up s entry).volume
taken_up-granted s entry may once none one next granted = elim (cases_Bool (is_held entry.1)) [
  | inl held ↦ rw held (of_held held (next-may_be_held s.volume entry may next held))
  | inr waits ↦ rw waits (of_come waits)
]
  where
    of_held : is_held entry.1 ≡ true → may_be_held entry.1.call.what ≡ true → Granted (held_taken_up s entry.0 entry.1).volume
    of_held held can = elim (cases_Bool (starves s.starved entry.1)) [
      | inl starving ↦ rw starving (Granted-ends s.volume entry.1.call.client entry.1.call.number (record { status = NoMemory; body = Nothing }) once
          (next.is_there (λ e. is_call_of entry.1.call.client entry.1.call.number e && not (is_some (handle_granted e.1.call.what))) (rw (is_same-refl entry.1.call.client entry.1.call.number, held-ungranted entry.1.call.what can) refl)) granted)
      | inr plenty ↦ rw plenty (tried-granted s.volume entry (try s.volume entry.1.call entry.0) once none next held can (Tries.so (try-tries s.volume entry.1.call entry.0 may.oplocks can))
          (Left.so (try-left s.volume entry.1.call entry.0 may once one granted)))
    ]

    of_come : is_held entry.1 ≡ false → Granted (come_over s entry.1 entry.1.call.what).volume
    of_come waits =
        (let comes = comes_over s entry.1 waits next.ready in
        let leaves : Leaves s.volume comes.seen = Leaves-untouched s.volume comes.seen comes.untouched in
        let come : has_come s.volume entry.1.call.client entry.1.call.number entry.1.call.what ≡ true = rw waits at next.ready in
        let there = next.is_there (λ e. is_call_of entry.1.call.client entry.1.call.number e && not (is_some (handle_granted e.1.call.what))) (rw (is_same-refl entry.1.call.client entry.1.call.number, come-ungranted s.volume entry.1.call.client entry.1.call.number entry.1.call.what come) refl) in
        subst (λ (w : Volume). Granted w) (sym comes.is)
        (Granted-ends comes.seen entry.1.call.client entry.1.call.number comes.reply (IsOnce-kept s.volume comes.seen (leaves.keeps.times once) once)
        (rw comes.untouched.pending there) (Granted-untouched s.volume comes.seen comes.untouched granted)))

step-granted : (s t : Settling) → MaySettle s.volume → IsOnce s.volume → GrantsNoneHeld s.volume → OneGrantEach s.volume → Granted s.volume → settle_step s ≡ Some t → Granted t.volume
step-granted s t may once none one granted step = elim (option_cases (next_ready s.volume)) [
  | inl nothing ↦ (let impossible : None ≡ Some t = rw nothing at step in cc)
  | inr some ↦ subst (λ (t : Settling). Granted t.volume) (some_equal (taken_up s some.0) t (rw some.1 at step)) (taken_up-granted s some.0 may once none one (next_ready-is s.volume some.0 some.1) granted)
]

-- at last all waits end, where all clients wait
pub stalled-granted : (w : Volume) → IsOnce w → Granted w → Granted (with_stalled w)
stalled-granted w once before = elim (cases_Bool (all_wait w)) [
  | inr some ↦ rw some before
  | inl all ↦ (let kept : KeepsAll w (with_stalled w) = stalled-kept w in
      let last : (with_calls_ended (λ _. Stalled) (waits_in_order w) w).last_handle ≡ w.last_handle = rw all at kept.same.handles in
      rw all (record {
        none = NoneLapsed-calls_ended w (λ _. Stalled) (λ pending. is_wait pending.call.what) (λ a b. is_asked_before a.1 b.1) once (λ e is. not_wait e.1.call.what is) before.none;
        numbered = rw (SameWatching.handles (watching-calls_ended (λ _. Stalled) (waits_in_order w) w), last) before.numbered;
      }))
]

-- the settlement keeps it
record SettlesGranted (v w : Volume) : Type 0 where
  granted : Granted w
  one : OneGrantEach w

settled-granted : (v : Volume) (starved : List CallId) → MayTakeUp v → OneGrantEach v → Granted v → SettlesGranted v (settled v starved).volume
settled-granted v starved may one granted = record {
  granted = stalled-granted taken (go.1.0).once go.1.1;
  one = λ turn. (let few : how_many (is_granted_under turn) v.oplocks ≤ 1 = one turn in let fewer = (go.1.0).granted turn in
      let kept : KeepsAll taken (with_stalled taken) = stalled-kept taken in let last = kept.kept.keeps.granted turn in omega arith);
}
  where
    taken : Volume
    taken = (taken_up_all v starved).volume

    On : Settling → Type 0
    On s = GoesOn v s × Granted s.volume

    step : (s t : Settling) → On s → settle_step s ≡ Some t → On t × (how_many_free t.volume < how_many_free s.volume)
    step s t on stepped =
        let next = GoesOn-settle_step v s t on.0 stepped in
        ((next.0, step-granted s t on.0.may on.0.once on.0.none_held (λ turn. (let few : how_many (is_granted_under turn) v.oplocks ≤ 1 = one turn in let fewer = on.0.granted turn in omega arith)) on.1 stepped), next.1)

    go : (settle_step (taken_up_all v starved) ≡ None) × On (taken_up_all v starved)
    go = repeated-ends settle_step On (λ s. how_many_free s.volume) step (length v.pending) (record { volume = v; starved = starved; taken = [] })
        (GoesOn-begins v starved may, granted) (how_many-length (is_free v) v.pending)

-- ---- over a history

Granted-fresh : (setup : Setup) → Granted (fresh setup)
Granted-fresh setup = record { none = refl; numbered = record { rising = λ j k d less within. absurd (omega arith); given = λ k d within. absurd (omega arith) } }

steps-granted : (r s : Run) (history : List HistoryEntry) → MayTurn r.volume → OneGrantEach r.volume → Granted r.volume
    → ((client number : ℕ) → times client number r.volume + how_many (is_entry_of client number) history ≤ 1) → steps turn_on r history ≡ Some s → Granted s.volume
steps-granted r s [] may one granted differ is = subst (λ (s : Run). Granted s.volume) (some_equal r s is) granted
steps-granted r s (entry ∷ history) may one granted differ is = elim (option_cases (turn r.volume entry.call entry.starved)) [
  | inl none ↦ (let impossible : None ≡ Some s = rw none at is in cc)
  | inr some ↦ (let turns : Turns r.volume entry.call some.0.volume = turn-turns r.volume entry.call entry.starved some.0 may new some.1 in
      let settles : SettlesGranted (own_tried r.volume entry.call) some.0.volume
      = subst (λ (t : Turned). SettlesGranted (own_tried r.volume entry.call) t.volume) (turn-turned r.volume entry.call entry.starved some.0 some.1)
      (settled-granted (own_tried r.volume entry.call) entry.starved (MayTurn.take_up (Adds.may (Adds-answered r.volume entry.call (try r.volume entry.call (turn_number r.volume)) may new (try-keeps r.volume entry.call (turn_number r.volume) may.take_up.may.oplocks))))
      (answered-one r.volume entry.call may one) (answered-granted r.volume entry.call may new one granted)) in
      steps-granted (with_turn r some.0) s history turns.may settles.one settles.granted (λ client number. (let more = turns.times client number in let few = differ client number in omega arith)) (rw some.1 at is))
]
  where
    new : times entry.call.client entry.call.number r.volume ≡ 0
    new = (let few = differ entry.call.client entry.call.number in
        let self : is_entry_of entry.call.client entry.call.number entry ≡ true = is_entry_of-self entry in
        let one_more : times entry.call.client entry.call.number r.volume + (1 + how_many (is_entry_of entry.call.client entry.call.number) history) ≤ 1 = rw self at few in omega arith)

-- after each turn the call of each oplock without a break is pending
pub run-grants : (setup : Setup) (history : List HistoryEntry) (r : Run) → CallsDiffer history → run setup history ≡ Some r → GrantsPend r.volume
run-grants setup history r differ is =
    let granted : Granted r.volume = steps-granted (begun setup) r history (MayTurn-fresh setup) (λ turn. omega arith) (Granted-fresh setup) (λ client number. (let few : how_many (is_entry_of client number) history ≤ 1 = differ client number in omega arith)) is in
    none-how_many (lapsed r.volume) r.volume.oplocks granted.none
