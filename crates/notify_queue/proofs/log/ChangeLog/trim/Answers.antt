use Rattle.std.proofs.Common.{◌-◌, arith}
use Rattle.std.proofs.lemmas.List.{length-append}
use Rattle.notify_queue.specs.Log.{changes_before}
use Rattle.notify_queue.proofs.PartLaws.{IsTrimmed-less, all-same}
use Rattle.notify_queue.proofs.log.ChangeLog.trim.Goals as goal

pub invariant_of-self : goal.invariant_of-self
invariant_of-self c =
    let was = c.self.invariant in
    let before = was.before in
    let from = c.requires.from in
    let old = was.from in
    let to = rw (← c.self.view_is) at c.requires.to in
    let base = rw (← c.self.view_is) at c.requires.from in
    let all = length-append (changes_before c.self.inside.past.items) c.self.inside.part.changes in
    rw c.and-self-inside.ensures
    (IsTrimmed-less c.self.inside.past.items c.self.inside.gone c.self.inside.base c.args.base c.self.inside.room c.self.inside.part c.drop_first.new.self (c.args.base - c.self.inside.gone)
    was c.drop_first.ensures.changes c.drop_first.ensures.kept.0 (omega arith) (omega arith))

pub returns-then-dead-len-clause-same : goal.returns-then-dead-len-clause-same
returns-then-dead-len-clause-same c = (
  rw (← c.self.view_is, c.and-self-inside.ensures, c.drop_first.ensures.changes) (all-same c.self.inside.past.items c.self.inside.part (c.args.base - c.self.inside.gone)),
  rw (← c.self.view_is) c.drop_first.ensures.begun.0,
  rw (← c.self.view_is) c.drop_first.ensures.begun.1,
)
