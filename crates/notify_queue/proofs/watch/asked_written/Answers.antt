use Rattle.std.proofs.Common.{◌≡◌, ◌∙◌, ◌+◌, ◌-◌, arith, sym}
use Rattle.notify_queue.proofs.DueLaws.{asks-never, asks-seen}
use Rattle.notify_queue.proofs.watch.asked_written.Goals as goal

pub returns-then-not-has_any-clause-asked : goal.returns-then-not-has_any-clause-asked
returns-then-not-has_any-clause-asked c = λ units.
    asks-never c.args.watch.now units c.args.dirs.now c.args.entry.now (sym c.has_any.ensures ∙ c.if-not-has_any.true)

pub returns-clause-asked : goal.returns-clause-asked
returns-clause-asked c = λ units.
    let span : c.args.entry.now.first_dir + c.args.entry.now.dirs - c.args.entry.now.first_dir ≡ c.args.entry.now.dirs = omega arith in
    (rw span at c.seen_written.ensures.seen)
    ∙ asks-seen c.args.watch.now units c.args.dirs.now c.args.entry.now (sym c.has_any.ensures ∙ c.if-not-has_any.false)
