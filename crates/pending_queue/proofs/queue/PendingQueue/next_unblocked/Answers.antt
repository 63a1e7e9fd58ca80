use Rattle.std.proofs.Common.{ap, sym, ◌∙◌}
use Rattle.std.specs.Prelude.{slice_get}
use Rattle.pending_queue.proofs.QueueLemmas.{next_unblocked-first, differ-held_of}
use Rattle.pending_queue.proofs.queue.PendingQueue.next_unblocked.Goals as goal

pub returns-clause-turn : goal.returns-clause-turn
returns-clause-turn c =
    rw (← c.self.view_is) (c.first_of.ensures ∙ ap (λ its. slice_get its 0) c.deref.ensures.value
    ∙ sym (next_unblocked-first c.self.inside.calls.items c.self.inside.waits.entries c.self.inside.ready.items c.self.invariant.0))

pub returns-clause-differ : goal.returns-clause-differ
returns-clause-differ c = rw (← c.self.view_is) (differ-held_of c.self.inside.calls.items c.self.inside.waits.entries c.self.invariant.0.differ)
