use Rattle.fsa_model.proofs.ScriptLaws.{script_of-sids}
use Rattle.script_read.specs.ScriptView.{contents}
use Rattle.fsa_top.proofs.LimitLaws.{script-read, script-within}
use Rattle.fsa_top.proofs.top.run_read.Goals as goal

pub run_script-requires-clause-is_read : goal.run_script-requires-clause-is_read
run_script-requires-clause-is_read g c = let read = c.requires.read in script-read read.0 (contents c.args.script.now) read.1 read.2

pub run_script-requires-clause-within : goal.run_script-requires-clause-within
run_script-requires-clause-within g c = let read = c.requires.read in script-within read.0 (contents c.args.script.now) read.1 read.2

pub run_script-requires-clause-sids : goal.run_script-requires-clause-sids
run_script-requires-clause-sids g c = let read = c.requires.read in script_of-sids read.0 (contents c.args.script.now) read.2
