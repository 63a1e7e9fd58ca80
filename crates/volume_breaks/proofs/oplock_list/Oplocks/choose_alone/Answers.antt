use Rattle.std.proofs.Common.{◌==◌}
use Rattle.std.proofs.lemmas.List.Elements.{All-filter}
use Rattle.fsa_types.proofs.OplockLemmas.{IsCopy-own}
use Rattle.fsa_types.specs.OplockLists.{IsCopy, IsSoundOplock}
use Rattle.volume_breaks.proofs.oplock_list.Oplocks.choose_alone.Goals as goal

pub returns-clause-sound : goal.returns-clause-sound
returns-clause-sound c =
    rw (c.choose_alone.ensures.chosen, c.deref.ensures.value) (All-filter (λ o. o.handle == c.args.handle) IsSoundOplock c.self.inside.rows.items c.self.invariant.1.each)

pub returns-clause-copies : goal.returns-clause-copies
returns-clause-copies c =
    rw (← c.self.view_is, c.choose_alone.ensures.chosen, c.deref.ensures.value)
    (All-filter (λ o. o.handle == c.args.handle) (IsCopy c.self.inside.rows.items) c.self.inside.rows.items (IsCopy-own c.self.inside.rows.items c.self.invariant.1.handles_differ))
