use Rattle.std.proofs.Common.{◌∙◌, sym}
use Rattle.pending_queue.proofs.CountLemmas.{none-under}
use Rattle.pending_queue.proofs.WaitLemmas.{AreFound-kept}
use Rattle.pending_queue.proofs.waits.Waits.drop_of.Goals as goal

pub invariant_of-self : goal.invariant_of-self
invariant_of-self c =
    let i = c.self.inside in
    AreFound-kept i.heads.items i.turn_heads.items i.waits.items c.drop_each.new.waits.items c.self.invariant c.drop_each.ensures.bare

pub returns-else-count-ne0-clause-entries : goal.returns-else-count-ne0-clause-entries
returns-else-count-ne0-clause-entries c = sym (none-under c.args.self.now.entries c.args.turn (sym c.requires ∙ c.if-count-ne0.false))
