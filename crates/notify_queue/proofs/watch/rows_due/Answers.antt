use Rattle.notify_queue.proofs.DueLaws.{due-is}
use Rattle.notify_queue.proofs.watch.rows_due.Goals as goal

pub returns : goal.returns
returns c =
    let due = due-is c.args.log.now.changes c.args.watch.now c.pieces-pieces.result.units.now c.pieces-pieces.result.dirs.now c.pieces-pieces.result.entries.now c.from_place-entries.result.now c.pieces-pieces.ensures.changes c.from_place-entries.ensures in
    rw due at c.rows_among.ensures
