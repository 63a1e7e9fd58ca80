use Rattle.std.proofs.Common.{rules, not}
use Rattle.fsa_model.specs.Waiting.{is_granted_under}
use Rattle.fsa_types.proofs.OplockLemmas.{AreOplocks-filter}
use Rattle.volume_breaks.proofs.oplock_list.Oplocks.give_up.Goals as goal

pub invariant_of-self : goal.invariant_of-self
invariant_of-self c =
    (search rules, rw c.drop_granted.ensures.rows (AreOplocks-filter (λ o. not (is_granted_under c.args.turn o)) c.self.inside.rows.items c.self.inside.last c.self.invariant.1))
