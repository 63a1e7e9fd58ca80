use Rattle.std.proofs.Common.{◌∙◌, refl}
use Rattle.volume_state.specs.Content.{content_of}
use Rattle.volume_state.proofs.DueLaws.{due-by-rows}
use Rattle.volume_state.proofs.volume.Volume.next_due.Goals as goal

pub returns : goal.returns
returns c =
    rw (← c.self.view_is) (rw (← c.self.view_is, c.as_slice.ensures, c.as_slice-2.ensures) at c.next_among.ensures
    ∙ due-by-rows (content_of c.self.inside) c.self.inside.watches.items refl c.self.invariant.4 c.self.invariant.0.handles_numbered)
