use Rattle.std.proofs.Common.{ℕ, false, not, List, ap, arith, ◌≡◌, ◌∙◌, sym, Some, None}
use Rattle.std.specs.Prelude.{◌==◌}
use Rattle.fsa_types.proofs.RowLemmas.{length-filter_le}
use Rattle.fsa_types.specs.Rows.{row_of, without_row}
use Rattle.pending_queue.specs.Lists.{ready_turns, sorted, with_ready}
use Rattle.pending_queue.proofs.CountLemmas.{AreCounted-removed, count-is, in-order-removed, seen-none, seen-removed, seen-some, seen-unremoved, unremoved}
use Rattle.pending_queue.proofs.ReadyLemmas.{ready-rising}
use Rattle.pending_queue.proofs.queue.PendingQueue.remove.Goals as goal

pub returns-in_default-clause-found : goal.returns-in_default-clause-found
returns-in_default-clause-found c =
    let none : row_of c.self.inside.calls.items c.args.turn ≡ None = sym c.take_call.ensures.count ∙ c.in_default.is in
    rw (← c.self.view_is) (sym (seen-none c.self.inside.calls.items c.self.inside.waits.entries c.args.turn none))

pub returns-in_default-clause-held : goal.returns-in_default-clause-held
returns-in_default-clause-held c =
    let none : row_of c.self.inside.calls.items c.args.turn ≡ None = sym c.take_call.ensures.count ∙ c.in_default.is in
    rw (← c.self.view_is, c.take_call.ensures.items, unremoved c.self.inside.calls.items c.args.turn none)
    (seen-unremoved c.self.inside.calls.items c.self.inside.waits.entries c.args.turn none)

pub invariant_of-self : goal.invariant_of-self
invariant_of-self c =
    let none : row_of c.self.inside.calls.items c.args.turn ≡ None = sym c.take_call.ensures.count ∙ c.in_default.is in
    rw (c.take_call.ensures.items, unremoved c.self.inside.calls.items c.args.turn none) c.self.invariant

pub drop_of-requires : goal.drop_of-requires
drop_of-requires c =
    let some : row_of c.self.inside.calls.items c.args.turn ≡ Some c.in-Some.count = sym c.take_call.ensures.count ∙ c.in-Some.is in
    count-is c.self.inside.calls.items c.self.inside.waits.entries c.self.inside.ready.items c.args.turn c.in-Some.count c.self.invariant.0 some

pub returns-clause-found : goal.returns-clause-found
returns-clause-found c =
    let some : row_of c.self.inside.calls.items c.args.turn ≡ Some c.in-Some.count = sym c.take_call.ensures.count ∙ c.in-Some.is in
    rw (← c.self.view_is) (sym (seen-some c.self.inside.calls.items c.self.inside.waits.entries c.args.turn c.in-Some.count some))

pub returns-clause-held : goal.returns-clause-held
returns-clause-held c = rw (← c.self.view_is, c.drop_of.ensures.entries, c.take_call.ensures.items) (seen-removed c.self.inside.calls.items c.self.inside.waits.entries c.args.turn)

pub set_ready-requires-clause-rising : goal.set_ready-requires-clause-rising
set_ready-requires-clause-rising c = rw c.self.invariant.0.are_ready (ready-rising c.self.inside.calls.items c.self.invariant.0.differ)

pub set_ready-requires-clause-room : goal.set_ready-requires-clause-room
set_ready-requires-clause-room c =
    let fewer = c.in-Some.ensures.fewer in
    let places = c.self.invariant.2 in
    rw c.self.invariant.0.are_ready (omega arith)

pub invariant_of-self-2 : goal.invariant_of-self-2
invariant_of-self-2 c =
    let i = c.self.inside in
    let ready : c.set_ready.new.ready.items ≡ sorted (ready_turns (without_row i.calls.items c.args.turn))
    = c.set_ready.ensures.items ∙ ap (λ (turns : List ℕ). with_ready turns c.args.turn false) c.self.invariant.0.are_ready ∙ sym c.take_call.ensures.ready
    ∙ ap (λ (calls : List (ℕ × ℕ)). sorted (ready_turns calls)) c.take_call.ensures.items in
    let few = length-filter_le (λ (call : ℕ × ℕ). not (call.0 == c.args.turn)) i.calls.items in
    let places = c.self.invariant.2 in
    let kept = c.set_ready.ensures.room in
    rw (ready, c.drop_of.ensures.entries, c.take_call.ensures.items) (
      AreCounted-removed i.calls.items i.waits.entries i.ready.items c.args.turn c.self.invariant.0,
      in-order-removed i.rising i.calls.items c.args.turn c.self.invariant.1,
      omega arith,
    )
