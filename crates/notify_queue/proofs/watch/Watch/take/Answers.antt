use Rattle.std.proofs.Common.{List, ℕ}
use Rattle.std.specs.Prelude.{Option}
use Rattle.fsa_types.specs.declared.memory.NoMemory.{NoMemory}
use Rattle.notify_queue.proofs.PartLaws.{OnErr-any, due-same}
use Rattle.notify_queue.proofs.watch.Watch.take.Goals as goal

pub returns-in_err-packed-clause-within : goal.returns-in_err-packed-clause-within
returns-in_err-packed-clause-within c =
    OnErr-any {T = Option (List ℕ)} {E = NoMemory} c.from_residual.result _
    (rw (due-same c.args.log.now c.held-held.result.gone c.held-held.result.part.now c.args.self.now c.behind.result c.held-held.ensures c.requires.kept c.behind.ensures)
    at c.in_err-packed.ensures.within)

pub returns-clause-packed : goal.returns-clause-packed
returns-clause-packed c =
    rw (due-same c.args.log.now c.held-held.result.gone c.held-held.result.part.now c.args.self.now c.behind.result c.held-held.ensures c.requires.kept c.behind.ensures)
    at c.in_ok-packed.ensures.packed
