use Rattle.std.proofs.Common.{rules, ◌+◌, ◌<◌, length}
use Rattle.object_tables.proofs.ShiftLemmas.{take-behind}
use Rattle.object_tables.proofs.shift_rows.take_behind.Goals as goal

pub returns-clause-items : goal.returns-clause-items
returns-clause-items g c =
    let within : c.args.start + c.args.place < length c.args.slots.now.items = search rules in
    rw c.remove.ensures.items (take-behind c.args.slots.now.items c.args.start c.args.place within)
