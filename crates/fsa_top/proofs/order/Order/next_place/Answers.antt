use Rattle.std.proofs.Common.{arith}
use Rattle.script_read.specs.ScriptView.{contents}
use Rattle.fsa_top.proofs.RunLaws.{next_here, next_nowhere}
use Rattle.fsa_top.proofs.order.Order.next_place.Goals as goal

pub returns-then-least-len-clause-some : goal.returns-then-least-len-clause-some
returns-then-least-len-clause-some c =
    next_here (contents c.args.script.now) c.args.machine.now c.args.self.now c.least_place-least.result c.requires.stands c.least_place-least.ensures
    (omega (arith, c.if-least-len.true, c.len.ensures, c.len-2.ensures))

pub returns-else-least-len-clause-none : goal.returns-else-least-len-clause-none
returns-else-least-len-clause-none c =
    next_nowhere (contents c.args.script.now) c.args.machine.now c.args.self.now c.least_place-least.result c.requires.stands c.least_place-least.ensures
    (omega (arith, c.if-least-len.false, c.len.ensures, c.len-2.ensures))
