use Rattle.std.proofs.Common.{rules}
use Rattle.stream_pages.specs.Pages.{byte_at}
use Rattle.stream_pages.proofs.StreamLaws.{parts-step}
use Rattle.stream_pages.proofs.parts.PartsIterator.next.Goals as goal

pub returns-clause-steps : goal.returns-clause-steps
returns-clause-steps c =
    parts-step (byte_at c.self.inside.pages.now) c.self.inside.at c.self.inside.end c.min-count.result c.part_of-part.result.now c.args.self.now c.if-self.false c.min-count.ensures c.part_of-part.ensures c.self.view_is

pub returns-clause-goes : goal.returns-clause-goes
returns-clause-goes c =
    let step = parts-step (byte_at c.self.inside.pages.now) c.self.inside.at c.self.inside.end c.min-count.result c.part_of-part.result.now c.args.self.now c.if-self.false c.min-count.ensures c.part_of-part.ensures c.self.view_is in
    rw step (search rules)
