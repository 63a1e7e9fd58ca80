use Rattle.std.proofs.Common.{◌∙◌}
use Rattle.volume_state.proofs.volume.Volume.charge.Goals as goal

pub returns : goal.returns
returns c = rw (← c.self.view_is) (c.charge.ensures ∙ c.self.invariant.2.charges c.args.owner)
