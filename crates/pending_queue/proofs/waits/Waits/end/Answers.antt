use Rattle.pending_queue.proofs.WaitLemmas.{AreFound-kept}
use Rattle.pending_queue.proofs.waits.Waits.end.Goals as goal

pub invariant_of-self : goal.invariant_of-self
invariant_of-self c =
    let i = c.self.inside in
    AreFound-kept i.heads.items i.turn_heads.items i.waits.items c.end_each.new.waits.items c.self.invariant c.end_each.ensures.bare
