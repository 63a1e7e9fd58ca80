use Rattle.std.proofs.Common.{arith}
use Rattle.fsa_machine.proofs.StallLaws.{few-waits}
use Rattle.fsa_machine.proofs.settle.stall.Goals as goal

pub end_waits-requires-clause-ends : goal.end_waits-requires-clause-ends
end_waits-requires-clause-ends g c = (let few = few-waits (g.S.Store.content c.args.store.now) c.list_waits.new.list.items c.list_waits.ensures.items in omega (arith, c.requires.ends))

pub end_waits-requires-clause-told : goal.end_waits-requires-clause-told
end_waits-requires-clause-told g c = (let few = few-waits (g.S.Store.content c.args.store.now) c.list_waits.new.list.items c.list_waits.ensures.items in omega (arith, c.requires.told))
