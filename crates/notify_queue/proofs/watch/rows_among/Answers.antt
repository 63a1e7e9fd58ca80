use Rattle.std.proofs.Common.{suc, arith, append_assoc}
use Rattle.notify_queue.proofs.DueLaws.{rows-step}
use Rattle.notify_queue.proofs.watch.rows_among.Goals as goal

pub entries-preserved : goal.entries-preserved
entries-preserved c =
    let all = rw c.in-Some.ensures.cases.0 at c.entries.invariant.all in
    let lie = rw c.in-Some.ensures.cases.0 at c.entries.invariant.lie in
    record {
      all = rw (c.in_ok-push_row.ensures, append_assoc, rows-step c.args.watch.now c.args.units.now c.args.dirs.now c.in-Some.entry.now c.in-Some.more.now) all;
      lie = λ k d within. lie (suc k) d (omega arith);
    }
