use Rattle.fsa_model.proofs.SoundWaits.{IsSound-without_oplock}
use Rattle.volume_state.specs.Content.{content_of}
use Rattle.volume_state.proofs.GrantLaws.{held-without_oplock}
use Rattle.volume_state.proofs.SortedLaws.{homes-fit}
use Rattle.volume_state.proofs.volume.Volume.drop_oplock.Goals as goal

pub invariant_of-self : goal.invariant_of-self
invariant_of-self c = (
  rw (c.drop_of.ensures.rows, c.release_breaks.ensures.others) (IsSound-without_oplock (content_of c.self.inside) c.args.handle c.self.invariant.0),
  rw c.drop_of.ensures.rows (
      held-without_oplock c.self.inside.oplocks.rows c.self.inside.handles.locks c.self.inside.pending c.release_breaks.new.pending c.args.handle c.self.inside.oplocks.last
      c.self.invariant.0.oplocks (rw c.as_slice.ensures at c.release_breaks.ensures.held) c.self.invariant.1),
  c.self.invariant.2,
  c.drop_of.ensures.sorted,
  rw c.release_breaks.ensures.others c.self.invariant.4,
  c.self.invariant.5,
)

pub drop_of-requires-clause-fit : goal.drop_of-requires-clause-fit
drop_of-requires-clause-fit c = homes-fit (content_of c.self.inside) c.self.invariant.0
