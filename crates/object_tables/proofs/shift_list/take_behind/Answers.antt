use Rattle.std.proofs.Common.{◌+◌, ◌≡◌, ◌++◌, ◌∙◌, suc, ap, arith, drop, take}
use Rattle.object_tables.proofs.shift_list.take_behind.Goals as goal

pub returns-clause-items : goal.returns-clause-items
returns-clause-items g c =
    let one : c.args.place + 1 ≡ suc c.args.place = omega arith in
    let xs = drop c.args.start c.args.slots.now.items in
    c.take_part_behind.ensures.items ∙ ap (λ k. take c.args.place xs ++ drop k xs) one
