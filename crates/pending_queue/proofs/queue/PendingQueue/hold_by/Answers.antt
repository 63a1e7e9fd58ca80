use Rattle.std.proofs.Common.{◌≡◌, ◌∙◌, ℕ, List, ap, arith, length, sym}
use Rattle.std.specs.Prelude.{◌==◌}
use Rattle.std.proofs.lemmas.Bool.{false≢true}
use Rattle.pending_queue.specs.Lists.{ready_turns, sorted, with_count, with_ready}
use Rattle.pending_queue.proofs.CountLemmas.{AreCounted-put, counts-all, length-put, seen-put}
use Rattle.pending_queue.proofs.ReadyLemmas.{ready-rising}
use Rattle.pending_queue.proofs.queue.PendingQueue.hold_by.Goals as goal

pub returns-in_err-reserve_for-clause-succeeds : goal.returns-in_err-reserve_for-clause-succeeds
returns-in_err-reserve_for-clause-succeeds c = rw (← c.self.view_is) (λ some few.
    let len = length-put c.self.inside.calls.items c.self.inside.waits.entries c.args.turn (length c.args.blockers.now) in
    let many = rw c.deref.ensures.value at (c.len_with.ensures (length c.args.blockers.now)) in
    let places = c.self.invariant.2 in
    absurd (false≢true (c.in_err-reserve_for.ensures.succeeds (omega arith))))

pub returns-in_err-put_count-clause-succeeds : goal.returns-in_err-put_count-clause-succeeds
returns-in_err-put_count-clause-succeeds c = rw (← c.self.view_is) (λ some few.
    let len = length-put c.self.inside.calls.items c.self.inside.waits.entries c.args.turn (length c.args.blockers.now) in
    absurd (false≢true (c.in_err-put_count.ensures.succeeds (omega arith))))

pub returns-clause-ok : goal.returns-clause-ok
returns-clause-ok c = rw (← c.self.view_is, c.put.ensures.entries, c.in_ok-put_count.ensures.ok, c.reserve.ensures.entries)
    (seen-put c.self.inside.calls.items c.self.inside.waits.entries c.args.turn c.args.blockers.now)

pub returns-clause-calls_left : goal.returns-clause-calls_left
returns-clause-calls_left c = rw (← c.self.view_is) (
    let len = length-put c.self.inside.calls.items c.self.inside.waits.entries c.args.turn (length c.args.blockers.now) in
    let kept = c.reserve_for.ensures.kept in
    let room = c.set_ready.ensures.room in
    omega (arith, c.in_ok-put_count.ensures.len, c.in_ok-put_count.ensures.room))

pub set_ready-requires-clause-rising : goal.set_ready-requires-clause-rising
set_ready-requires-clause-rising c = rw (c.reserve_for.ensures.items, c.self.invariant.0.are_ready) (ready-rising c.self.inside.calls.items c.self.invariant.0.differ)

pub set_ready-requires-clause-room : goal.set_ready-requires-clause-room
set_ready-requires-clause-room c =
    let fewer = c.in_ok-put_count.ensures.fewer in
    let all = ap length c.in_ok-put_count.ensures.ok in
    let many = rw c.deref.ensures.value at (c.len_with.ensures (length c.args.blockers.now)) in
    let room = c.in_ok-reserve_for.ensures.room in
    rw (c.reserve_for.ensures.items, c.self.invariant.0.are_ready) (omega arith)

pub invariant_of-self-2 : goal.invariant_of-self-2
invariant_of-self-2 c =
    let i = c.self.inside in
    let count : ℕ = length c.args.blockers.now in
    let all : c.set_ready.new.ready.items ≡ with_ready (sorted (ready_turns i.calls.items)) c.args.turn (count == 0)
    = rw (c.reserve_for.ensures.items, c.self.invariant.0.are_ready, c.is_empty.ensures) at c.set_ready.ensures.items in
    let ready : c.set_ready.new.ready.items ≡ sorted (ready_turns (with_count i.calls.items c.args.turn count))
    = all ∙ sym c.in_ok-put_count.ensures.ready ∙ ap (λ (calls : List (ℕ × ℕ)). sorted (ready_turns calls)) c.in_ok-put_count.ensures.ok in
    let many = rw c.deref.ensures.value at (c.len_with.ensures count) in
    let room = c.in_ok-reserve_for.ensures.room in
    let kept = c.set_ready.ensures.room in
    rw (ready, c.put.ensures.entries, c.in_ok-put_count.ensures.ok, c.reserve.ensures.entries) (
      AreCounted-put i.calls.items i.waits.entries i.ready.items c.args.turn c.args.blockers.now c.self.invariant.0,
      rw c.deref-3.ensures.value at (c.stays_rising-rising.ensures count),
      omega arith,
    )

pub put-requires-clause-count : goal.put-requires-clause-count
put-requires-clause-count c =
    rw c.reserve.ensures.entries (counts-all c.self.inside.calls.items c.self.inside.waits.entries c.self.inside.ready.items c.args.turn c.count_of-count.result c.self.invariant.0 (rw c.deref-2.ensures.value at c.count_of-count.ensures))
