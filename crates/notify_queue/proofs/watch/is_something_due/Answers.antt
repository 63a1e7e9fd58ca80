use Rattle.std.proofs.Common.{List, ℕ, ap, ◌∙◌}
use Rattle.std.specs.Prelude.{is_some}
use Rattle.notify_queue.specs.Due.{size_due}
use Rattle.notify_queue.proofs.DueLaws.{due-is, some-due}
use Rattle.notify_queue.proofs.watch.is_something_due.Goals as goal

pub returns : goal.returns
returns c =
    c.asks_among.ensures c.pieces-pieces.result.units.now
    ∙ some-due c.args.watch.now c.pieces-pieces.result.units.now c.pieces-pieces.result.dirs.now c.from_place-entries.result.now
    ∙ ap (λ (due : List (ℕ × List ℕ)). is_some (size_due due)) (due-is c.args.log.now.changes c.args.watch.now c.pieces-pieces.result.units.now c.pieces-pieces.result.dirs.now c.pieces-pieces.result.entries.now c.from_place-entries.result.now c.pieces-pieces.ensures.changes c.from_place-entries.ensures)
