use Rattle.script_read.specs.ScriptView.{contents}
use Rattle.fsa_top.proofs.RunLaws.{Progress-all, Progress-few}
use Rattle.fsa_top.proofs.run.run_calls.Goals as goal

pub returns-clause-all : goal.returns-clause-all
returns-clause-all g c = Progress-all (contents c.args.script.now) c.turns.machine c.turns.order c.turns.invariant.stands c.in_default.ensures.none

pub returns-clause-few : goal.returns-clause-few
returns-clause-few g c = Progress-few (contents c.args.script.now) c.turns.machine c.turns.order c.turns.invariant.stands
