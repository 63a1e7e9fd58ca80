use Rattle.std.proofs.Common.{rules, ◌+◌, ◌-◌, ◌≡◌, ◌≤◌, arith, length}
use Rattle.object_tables.proofs.ShiftLemmas.{part-before}
use Rattle.object_tables.proofs.shift_list.take_part_before.Goals as goal

pub returns-clause-items : goal.returns-clause-items
returns-clause-items g c =
    let within : c.args.start + c.args.place + c.args.count ≤ length c.args.slots.now.items = search rules in
    let many : c.args.start + c.args.place - c.args.start ≡ c.args.place = omega arith in
    rw (c.copy_within.ensures.items, many) (part-before c.args.slots.now.items c.args.start c.args.place c.args.count within)
