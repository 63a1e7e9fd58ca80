use Rattle.std.proofs.Common.{ℕ, ap, length, arith}
use Rattle.std.proofs.lemmas.List.{length-map}
use Rattle.pending_queue.specs.Lists.{discounted}
use Rattle.pending_queue.proofs.CountLemmas.{AreCounted-ended, in-order-ended, seen-ended, turns-discounted}
use Rattle.pending_queue.proofs.queue.PendingQueue.ended.Goals as goal

pub end-requires-clause-ready : goal.end-requires-clause-ready
end-requires-clause-ready c = c.self.invariant.0.are_ready

pub returns-clause-held : goal.returns-clause-held
returns-clause-held c =
    rw (← c.self.view_is, c.end.ensures.entries, c.end.ensures.calls) (seen-ended c.self.inside.calls.items c.self.inside.waits.entries c.args.blocker)

pub invariant_of-self : goal.invariant_of-self
invariant_of-self c =
    let i = c.self.inside in
    let many = ap length (turns-discounted c.args.blocker i.waits.entries i.calls.items) in
    let now = length-map (discounted c.args.blocker i.waits.entries i.calls.items) (λ (call : ℕ × ℕ). call.0) in
    let was = length-map i.calls.items (λ (call : ℕ × ℕ). call.0) in
    let places = c.self.invariant.2 in
    let kept = c.end.ensures.places in
    rw (c.end.ensures.ready, c.end.ensures.entries, c.end.ensures.calls) (
      AreCounted-ended i.calls.items i.waits.entries i.ready.items c.args.blocker c.self.invariant.0,
      in-order-ended i.rising c.args.blocker i.waits.entries i.calls.items c.self.invariant.1,
      omega arith,
    )
