use Rattle.std.proofs.Common.{rules, not, ◌==◌}
use Rattle.fsa_types.proofs.OplockLemmas.{AreOplocks-filter}
use Rattle.volume_breaks.proofs.oplock_list.Oplocks.drop_of.Goals as goal

pub invariant_of-self : goal.invariant_of-self
invariant_of-self c =
    (search rules, rw c.drop_of.ensures.rows (AreOplocks-filter (λ o. not (o.handle == c.args.handle)) c.self.inside.rows.items c.self.inside.last c.self.invariant.1))
