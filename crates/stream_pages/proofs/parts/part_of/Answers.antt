use Rattle.stream_pages.proofs.StreamLaws.{part-there, part-missing}
use Rattle.std.proofs.Common.{sym, ◌∙◌}
use Rattle.stream_pages.proofs.parts.part_of.Goals as goal

pub returns-in-Some : goal.returns-in-Some
returns-in-Some c = part-there c.args.pages.now c.args.at c.args.count c.in-Some.page.now (sym c.in-Some.ensures.page) c.in-Some.ensures.len c.requires

pub returns-in-None : goal.returns-in-None
returns-in-None c = c.zeros.ensures ∙ part-missing c.args.pages.now c.args.at c.args.count (sym c.in-None.ensures.page) c.requires
