use Rattle.fsa_model.proofs.SoundWaits.{IsSound-with_limit}
use Rattle.volume_state.specs.Content.{content_of}
use Rattle.volume_state.proofs.volume.Volume.set_limit.Goals as goal

pub invariant_of-self : goal.invariant_of-self
invariant_of-self c = (
  rw c.put_limit.ensures.items (IsSound-with_limit (content_of c.self.inside) c.args.sid c.args.limit c.self.invariant.0),
  c.self.invariant.1,
  c.self.invariant.2,
  c.self.invariant.3,
  c.self.invariant.4,
  c.self.invariant.5,
)
