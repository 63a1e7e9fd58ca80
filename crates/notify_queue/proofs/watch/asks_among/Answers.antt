use Rattle.std.proofs.Common.{◌∙◌, sym, suc, arith}
use Rattle.notify_queue.proofs.DueLaws.{asks-more}
use Rattle.notify_queue.proofs.watch.asks_among.Goals as goal

pub entries-preserved : goal.entries-preserved
entries-preserved c =
    let all = rw c.in-Some.ensures.cases.0 at c.entries.invariant.all in
    let lie = rw c.in-Some.ensures.cases.0 at c.entries.invariant.lie in
    record {
      all = λ units. asks-more c.args.watch.now units c.args.dirs.now c.in-Some.entry.now c.in-Some.more.now (sym (c.asks_for.ensures units) ∙ c.if-asks_for.false) ∙ all units;
      lie = λ k d within. lie (suc k) d (omega arith);
    }
