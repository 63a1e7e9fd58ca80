use Rattle.std.proofs.Common.{◌∙◌, ap, arith, sym, true}
use Rattle.pending_queue.specs.Lists.{with_ready}
use Rattle.pending_queue.proofs.ReadyLemmas.{ready-rising}
use Rattle.pending_queue.proofs.ready.let_go.Goals as goal

pub set_ready-requires-clause-rising : goal.set_ready-requires-clause-rising
set_ready-requires-clause-rising c = rw c.requires.ready (ready-rising c.args.calls.now.items c.requires.differ)

pub set_ready-requires-clause-room : goal.set_ready-requires-clause-room
set_ready-requires-clause-room c =
    let fewer = c.count_down.ensures.fewer c.if-not-count_down.false in
    let places = c.requires.places in
    rw c.requires.ready (omega arith)

pub returns-clause-ready : goal.returns-clause-ready
returns-clause-ready c =
    c.set_ready.ensures.items
    ∙ ap (λ ready. with_ready ready c.args.turn true) c.requires.ready
    ∙ sym (rw c.if-not-count_down.false at c.count_down.ensures.ready)

pub returns-then-not-count_down-clause-ready : goal.returns-then-not-count_down-clause-ready
returns-then-not-count_down-clause-ready c = c.requires.ready ∙ sym (rw c.if-not-count_down.true at c.count_down.ensures.ready)
