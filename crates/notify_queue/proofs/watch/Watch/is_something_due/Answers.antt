use Rattle.std.proofs.Common.{◌∙◌, ap, List, ℕ}
use Rattle.std.specs.Prelude.{is_some}
use Rattle.notify_queue.specs.Due.{size_due}
use Rattle.notify_queue.proofs.PartLaws.{due-same}
use Rattle.notify_queue.proofs.watch.Watch.is_something_due.Goals as goal

pub returns : goal.returns
returns c =
    c.is_something_due.ensures
    ∙ ap (λ (due : List (ℕ × List ℕ)). is_some (size_due due)) (due-same c.args.log.now c.held-held.result.gone c.held-held.result.part.now c.args.self.now c.behind.result c.held-held.ensures c.requires.kept c.behind.ensures)
