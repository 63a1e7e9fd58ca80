use Rattle.std.proofs.Common.{◌∙◌}
use Rattle.notify_queue.proofs.PartLaws.{last-held}
use Rattle.notify_queue.proofs.watch.Watch.asks_for_last.Goals as goal

pub returns : goal.returns
returns c = c.asks_for_last.ensures ∙ last-held c.args.log.now c.held-held.result.gone c.held-held.result.part.now c.args.self.now c.held-held.ensures c.requires.kept
