use Rattle.std.proofs.Common.{◌≡◌, true, sym}
use Rattle.notify_queue.specs.Due.{asks_for}
use Rattle.notify_queue.proofs.DueLaws.{path-written, row-told}
use Rattle.notify_queue.proofs.watch.push_row.Goals as goal

pub returns : goal.returns
returns c =
    let asked : asks_for c.args.watch.now c.args.units.now c.args.dirs.now c.args.entry.now ≡ true = sym (rw c.in-Some.is at (c.asked_written.ensures.asked c.args.units.now)) in
    let written = rw c.in-Some.is at c.asked_written.ensures.written in
    let row = row-told c.args.watch.now c.args.units.now c.args.dirs.now c.args.entry.now c.path_written.result.now asked
    (path-written c.args.watch.now c.args.units.now c.args.dirs.now c.args.entry.now c.path_written.result.now c.in-Some.written written c.path_written.ensures.path) in
    rw (row, ← c.in_ok-name.ensures) c.in_ok-push.ensures.items
