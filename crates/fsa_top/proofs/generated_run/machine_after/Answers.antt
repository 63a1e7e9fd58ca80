use Rattle.script_read.specs.ScriptView.{contents}
use Rattle.fsa_top.proofs.RunLaws.{Progress-begun, WroteTurns-begun}
use Rattle.fsa_top.proofs.generated_run.machine_after.Goals as goal

pub run_calls-requires-clause-stands : goal.run_calls-requires-clause-stands
run_calls-requires-clause-stands c =
    Progress-begun (contents c.args.script.now) c.in_ok-machine.machine c.in_ok-order.order c.requires.is_read c.requires.within c.in_ok-machine.ensures.setup c.in_ok-machine.ensures.entries c.in_ok-order.ensures.follows c.in_ok-order.ensures.long c.in_ok-order.ensures.first

pub run_calls-requires-clause-shows : goal.run_calls-requires-clause-shows
run_calls-requires-clause-shows c = WroteTurns-begun (contents c.args.script.now) c.in_ok-machine.machine.entries _ c.new-buffer.result c.in_ok-machine.ensures.entries c.new-buffer.ensures
