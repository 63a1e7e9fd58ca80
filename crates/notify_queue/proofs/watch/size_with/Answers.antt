use Rattle.std.proofs.Common.{◌≡◌, true, sym}
use Rattle.notify_queue.specs.Due.{asks_for}
use Rattle.notify_queue.proofs.DueLaws.{path-written, size-told}
use Rattle.notify_queue.proofs.watch.size_with.Goals as goal

pub returns-clause-size : goal.returns-clause-size
returns-clause-size c =
    let asked : asks_for c.args.watch.now c.args.units.now c.args.dirs.now c.args.entry.now ≡ true = sym (rw c.in-Some.is at (c.asked_written.ensures.asked c.args.units.now)) in
    let written = rw c.in-Some.is at c.asked_written.ensures.written in
    size-told c.args.size c.args.watch.now c.args.units.now c.args.dirs.now c.args.entry.now c.path_written-name.result.now asked
    (path-written c.args.watch.now c.args.units.now c.args.dirs.now c.args.entry.now c.path_written-name.result.now c.in-Some.written written c.path_written-name.ensures.path)
