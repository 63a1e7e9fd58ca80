use Rattle.std.proofs.Common.{arith}
use Rattle.pack_info.proofs.NameLaws.{tells_between, tells_none, tells_plain}
use Rattle.pack_info.proofs.tail.can_be_name.Goals as goal

pub returns-in-Some : goal.returns-in-Some
returns-in-Some c = tells_between c.args.kind c.args.name.now c.in-Some.units.now c.in-Streams.is c.in-Some.ensures (λ i. omega (arith, c.type_inv.name i))

pub returns-in-None : goal.returns-in-None
returns-in-None c = tells_none c.args.kind c.args.name.now c.in-Streams.is c.in-None.ensures

pub returns-in_default : goal.returns-in_default
returns-in_default c = tells_plain c.args.kind c.args.name.now c.in_default.not-Streams (λ i. omega (arith, c.type_inv.name i))
