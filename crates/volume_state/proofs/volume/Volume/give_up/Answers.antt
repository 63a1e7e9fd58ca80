use Rattle.volume_state.specs.Content.{content_of}
use Rattle.volume_state.proofs.ThereLaws.{IsSound-given_up, held-given_up}
use Rattle.volume_state.proofs.SortedLaws.{homes-fit}
use Rattle.volume_state.proofs.volume.Volume.give_up.Goals as goal

pub invariant_of-self : goal.invariant_of-self
invariant_of-self c = (
  rw c.give_up.ensures.rows (IsSound-given_up (content_of c.self.inside) c.args.turn c.self.invariant.0),
  rw c.give_up.ensures.rows (held-given_up c.self.inside.oplocks.rows c.self.inside.handles.locks c.self.inside.pending c.args.turn c.self.invariant.0.oplocks.each c.self.invariant.1),
  c.self.invariant.2,
  c.give_up.ensures.sorted,
  c.self.invariant.4,
  c.self.invariant.5,
)

pub give_up-requires-clause-differ : goal.give_up-requires-clause-differ
give_up-requires-clause-differ c = c.self.invariant.0.oplocks.handles_differ

pub give_up-requires-clause-sorted : goal.give_up-requires-clause-sorted
give_up-requires-clause-sorted c = c.self.invariant.3

pub give_up-requires-clause-fit : goal.give_up-requires-clause-fit
give_up-requires-clause-fit c = homes-fit (content_of c.self.inside) c.self.invariant.0
