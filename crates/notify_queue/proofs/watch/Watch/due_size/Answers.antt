use Rattle.std.proofs.Common.{◌∙◌, ap, length, List, ℕ}
use Rattle.fsa_model.specs.Watching.{packed_changes}
use Rattle.notify_queue.specs.Due.{due_of}
use Rattle.notify_queue.proofs.PartLaws.{due-same, size-none, size-some}
use Rattle.notify_queue.proofs.watch.Watch.due_size.Goals as goal

pub returns-then-size-eq0 : goal.returns-then-size-eq0
returns-then-size-eq0 c =
    size-none (due_of c.args.log.now.changes c.args.self.now) c.size_of_due-size.result
    (c.size_of_due-size.ensures
    ∙ ap (λ (due : List (ℕ × List ℕ)). length (packed_changes due)) (due-same c.args.log.now c.held-held.result.gone c.held-held.result.part.now c.args.self.now c.behind.result c.held-held.ensures c.requires.kept c.behind.ensures))
    c.if-size-eq0.true

pub returns-else-size-eq0 : goal.returns-else-size-eq0
returns-else-size-eq0 c =
    size-some (due_of c.args.log.now.changes c.args.self.now) c.size_of_due-size.result
    (c.size_of_due-size.ensures
    ∙ ap (λ (due : List (ℕ × List ℕ)). length (packed_changes due)) (due-same c.args.log.now c.held-held.result.gone c.held-held.result.part.now c.args.self.now c.behind.result c.held-held.ensures c.requires.kept c.behind.ensures))
    c.if-size-eq0.false
