use Rattle.stream_pages.proofs.PageLaws.{splits-at, splits-stands}
use Rattle.stream_pages.proofs.pages.place_from.Goals as goal

pub returns-in-Ok : goal.returns-in-Ok
returns-in-Ok c = splits-at c.args.pages.now c.args.number c.in-Ok.place c.requires c.in-Ok.ensures.there

pub returns-in-Err : goal.returns-in-Err
returns-in-Err c = splits-stands c.args.pages.now c.args.number c.in-Err.place c.in-Err.ensures.missing
