use Rattle.fsa_types.specs.Places.{IsAt}
use Rattle.stream_pages.proofs.ByteLaws.{there-at}
use Rattle.stream_pages.proofs.pages.Pages.add.Goals as goal

pub returns-in-Ok-clause-there : goal.returns-in-Ok-clause-there
returns-in-Ok-clause-there c =
    let at : IsAt c.self.inside.pages.items c.args.number c.in-Ok.field-0 = rw c.deref.ensures.value at c.in-Ok.ensures.there in
    rw (← c.self.view_is) (there-at c.self.inside.pages.items c.args.number c.in-Ok.field-0 c.self.invariant at)
