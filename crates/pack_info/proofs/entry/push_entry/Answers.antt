use Rattle.std.proofs.Common.{◌≡◌, ◌++◌, length}
use Rattle.fsa_types.specs.Packing.{head, name_field}
use Rattle.pack_info.proofs.NumberLaws.{entry_last, entry_other}
use Rattle.pack_info.proofs.entry.push_entry.Goals as goal

pub returns-then-last : goal.returns-then-last
returns-then-last c =
    let at_len : c.push_head.new.out.items ≡ c.args.out.now.items ++ head c.args.kind c.args.n.now 0 (length (name_field c.args.kind c.args.units.now)) = rw (← c.size_of_name-len.ensures) c.in_ok-push_head.ensures in
    rw c.if-last.true (entry_last c.args.kind c.args.n.now c.args.units.now c.args.out.now.items c.push_head.new.out.items c.push_name.new.out.items at_len c.in_ok-push_name.ensures)

pub returns : goal.returns
returns c =
    let at_len : c.push_head-2.new.out.items ≡ c.args.out.now.items ++ head c.args.kind c.args.n.now c.round_up-next.result (length (name_field c.args.kind c.args.units.now)) = rw (← c.size_of_name-len.ensures) c.in_ok-push_head-2.ensures in
    rw c.if-last.false (entry_other c.args.kind c.args.n.now c.args.units.now c.args.out.now.items c.push_head-2.new.out.items c.push_name-2.new.out.items c.push_zeros.new.out.items c.round_up-next.result _ (cc) c.round_up-next.ensures at_len c.in_ok-push_name-2.ensures c.in_ok-push_zeros.ensures)
