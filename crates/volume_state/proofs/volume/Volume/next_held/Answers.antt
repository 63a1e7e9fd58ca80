use Rattle.std.proofs.Common.{◌∙◌}
use Rattle.volume_state.specs.Content.{content_of}
use Rattle.volume_state.proofs.ThereLaws.{next-lives}
use Rattle.volume_state.proofs.volume.Volume.next_held.Goals as goal

pub returns : goal.returns
returns c = rw (← c.self.view_is) (c.next_held.ensures ∙ next-lives (content_of c.self.inside) c.self.inside.pending c.self.invariant.1)
