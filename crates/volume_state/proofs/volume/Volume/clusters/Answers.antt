use Rattle.std.proofs.Common.{◌∙◌}
use Rattle.volume_state.proofs.volume.Volume.clusters.Goals as goal

pub returns : goal.returns
returns c = rw (← c.self.view_is) (c.clusters.ensures ∙ c.self.invariant.2.clusters)
