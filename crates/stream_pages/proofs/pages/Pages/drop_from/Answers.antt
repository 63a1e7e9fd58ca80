use Rattle.stream_pages.specs.Pages.{Splits}
use Rattle.stream_pages.proofs.PageLaws.{row_of-cut}
use Rattle.stream_pages.proofs.pages.Pages.drop_from.Goals as goal

pub returns : goal.returns
returns c =
    let at : Splits c.self.inside.pages.items c.args.number c.place_from-place.result = rw c.deref.ensures.value at c.place_from-place.ensures in
    rw (c.truncate.ensures.items, ← c.self.view_is) (λ other. row_of-cut c.self.inside.pages.items c.args.number c.place_from-place.result other at)
