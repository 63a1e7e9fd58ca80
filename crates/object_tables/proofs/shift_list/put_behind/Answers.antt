use Rattle.std.proofs.Common.{rules, ◌+◌, ◌≡◌, ◌≤◌, length}
use Rattle.object_tables.proofs.ShiftLemmas.{put-behind, up-one}
use Rattle.object_tables.proofs.shift_list.put_behind.Goals as goal

pub returns-clause-items : goal.returns-clause-items
returns-clause-items g c =
    let within : c.args.start + c.args.place ≤ length c.args.slots.now.items = search rules in
    let len : c.len-len.result ≡ length c.args.slots.now.items = search rules in
    rw (c.copy_within.ensures.items, c.push_reserved.ensures.items, len, up-one c.args.slots.now.items (c.args.start + c.args.place) c.args.item within)
    (put-behind c.args.slots.now.items c.args.start c.args.place c.args.item within)
