use Rattle.std.proofs.Common.{rules}
use Rattle.volume_breaks.proofs.GrantLemmas.{AreOplocks-after_answer}
use Rattle.volume_breaks.proofs.oplock_list.Oplocks.answer.Goals as goal

pub invariant_of-self : goal.invariant_of-self
invariant_of-self c =
    (search rules, rw c.answer.ensures.rows (AreOplocks-after_answer c.self.inside.rows.items c.self.inside.last c.args.handle c.args.level c.args.turn c.self.invariant.1))
