use Rattle.script_read.specs.ScriptView.{contents}
use Rattle.fsa_top.proofs.RunLaws.{Progress-begun}
use Rattle.fsa_top.proofs.run.run_script.Goals as goal

pub run_on-requires-clause-stands : goal.run_on-requires-clause-stands
run_on-requires-clause-stands g c =
    Progress-begun (contents c.args.script.now) c.in_ok-machine.machine c.in_ok-order.order c.requires.is_read c.requires.within c.in_ok-machine.ensures.setup c.in_ok-machine.ensures.entries c.in_ok-order.ensures.follows c.in_ok-order.ensures.long c.in_ok-order.ensures.first
