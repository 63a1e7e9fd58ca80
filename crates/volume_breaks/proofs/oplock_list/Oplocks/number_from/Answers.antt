use Rattle.std.proofs.Common.{◌-◌, arith}
use Rattle.volume_breaks.proofs.GrantLemmas.{AreOplocks-later}
use Rattle.volume_breaks.proofs.oplock_list.Oplocks.number_from.Goals as goal

pub invariant_of-self : goal.invariant_of-self
invariant_of-self c = (
  c.self.invariant.0,
  (let rising = rw (← c.self.view_is) at c.requires in AreOplocks-later c.self.inside.rows.items c.self.inside.last (c.args.first - 1) (omega arith) c.self.invariant.1),
)
