use Rattle.script_read.specs.ScriptView.{contents}
use Rattle.client_race.proofs.StayLaws.{script-races}
use Rattle.fsa_top.proofs.LimitLaws.{script-read, script-within}
use Rattle.fsa_top.proofs.top.race_read.Goals as goal

pub race_script-requires-clause-can : goal.race_script-requires-clause-can
race_script-requires-clause-can g c κs within = let read = c.requires.read in let few = script-within read.0 (contents c.args.script.now) read.1 read.2 in
    script-races read.0 (contents c.args.script.now) read.2 few.lines few.clients

pub race_script-requires-clause-is_read : goal.race_script-requires-clause-is_read
race_script-requires-clause-is_read g c κs within = let read = c.requires.read in script-read read.0 (contents c.args.script.now) read.1 read.2
