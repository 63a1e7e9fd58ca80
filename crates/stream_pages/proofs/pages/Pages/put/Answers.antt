use Rattle.std.proofs.Common.{◌∙◌, ap, sym}
use Rattle.std.proofs.lemmas.Bool.{false≢true}
use Rattle.std.specs.Option.{is_some}
use Rattle.stream_pages.specs.Pages.{HasPage}
use Rattle.fsa_types.specs.Places.{StandsAt}
use Rattle.fsa_types.proofs.PlaceLemmas.{row_of-missing}
use Rattle.stream_pages.proofs.pages.Pages.put.Goals as goal

pub unreachable-requires : goal.unreachable-requires
unreachable-requires c =
    let at : StandsAt c.self.inside.pages.items c.args.number c.in-Err.field-0 = rw c.deref.ensures.value at c.in-Err.ensures.missing in
    let there : HasPage c.self.inside.pages.items c.args.number = rw (← c.self.view_is) at c.requires.there in
    false≢true (sym (ap is_some (row_of-missing c.self.inside.pages.items c.args.number c.in-Err.field-0 at)) ∙ there)
