use Rattle.std.proofs.Common.{◌∙◌, ap, sym, Some}
use Rattle.fsa_types.specs.Places.{IsAt, StandsAt}
use Rattle.fsa_types.proofs.PlaceLemmas.{row_of-missing}
use Rattle.stream_pages.proofs.ByteLaws.{row_of-here}
use Rattle.stream_pages.proofs.pages.Pages.get.Goals as goal

pub returns-in-Ok-clause-page : goal.returns-in-Ok-clause-page
returns-in-Ok-clause-page c =
    let at : IsAt c.self.inside.pages.items c.args.number c.in-Ok.place = rw c.deref.ensures.value at c.in-Ok.ensures.there in
    rw (← c.self.view_is) (ap Some c.bytes.ensures.value ∙ sym (row_of-here c.self.inside.pages.items c.args.number c.in-Ok.place c.self.invariant at c.index.result.now c.index.ensures))

pub returns-in-Err-clause-page : goal.returns-in-Err-clause-page
returns-in-Err-clause-page c =
    let at : StandsAt c.self.inside.pages.items c.args.number c.in-Err.field-0 = rw c.deref.ensures.value at c.in-Err.ensures.missing in
    rw (← c.self.view_is) (sym (row_of-missing c.self.inside.pages.items c.args.number c.in-Err.field-0 at))
