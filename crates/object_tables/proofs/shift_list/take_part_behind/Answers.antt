use Rattle.std.proofs.Common.{rules, ◌+◌, ◌≡◌, ◌≤◌, length}
use Rattle.object_tables.proofs.ShiftLemmas.{part-behind}
use Rattle.object_tables.proofs.shift_list.take_part_behind.Goals as goal

pub returns-clause-items : goal.returns-clause-items
returns-clause-items g c =
    let within : c.args.start + c.args.place + c.args.count ≤ length c.args.slots.now.items = search rules in
    let len : c.len-len.result ≡ length c.args.slots.now.items = search rules in
    rw (c.truncate.ensures.items, c.copy_within.ensures.items, len) (part-behind c.args.slots.now.items c.args.start c.args.place c.args.count within)
