use Rattle.std.proofs.Common.{rules}
use Rattle.fsa_types.proofs.OplockLemmas.{AreOplocks-push}
use Rattle.volume_breaks.proofs.oplock_list.Oplocks.grant.Goals as goal

pub invariant_of-self : goal.invariant_of-self
invariant_of-self c = (
  search rules,
  rw c.in-Ok.ensures.items
      (AreOplocks-push c.self.inside.rows.items c.self.inside.last c.args.handle c.args.key c.args.level c.args.turn c.self.invariant.1 (rw (← c.self.view_is) at c.requires.new)),
)
