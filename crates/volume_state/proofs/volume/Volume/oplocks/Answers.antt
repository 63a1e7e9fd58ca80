use Rattle.fsa_model.proofs.BreakLaws.{told-few, awaited-few}
use Rattle.volume_state.specs.Content.{content_of}
use Rattle.volume_state.proofs.GrantLaws.{switched-few}
use Rattle.volume_state.proofs.volume.Volume.oplocks.Goals as goal

pub returns-clause-switched : goal.returns-clause-switched
returns-clause-switched c = rw (← c.self.view_is, c.len.ensures) (λ handle key stream. switched-few (content_of c.self.inside) handle key stream)

pub returns-clause-told : goal.returns-clause-told
returns-clause-told c = rw (← c.self.view_is, c.len.ensures) (λ on class handle key. told-few (content_of c.self.inside) on class handle key)

pub returns-clause-awaited : goal.returns-clause-awaited
returns-clause-awaited c = rw (← c.self.view_is, c.len.ensures) (λ on class handle key. awaited-few (content_of c.self.inside) on class handle key)
