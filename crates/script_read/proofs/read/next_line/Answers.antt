use Rattle.script_read.proofs.ScriptLemmas.{pieces-some, pieces-none}
use Rattle.script_read.proofs.read.next_line.Goals as goal

pub returns-in-Some-clause-line : goal.returns-in-Some-clause-line
returns-in-Some-clause-line c = pieces-some c.args.bytes.now c.in-Some.end c.in-Some.ensures.place c.in-Some.ensures.within

pub returns-in-None-clause-line : goal.returns-in-None-clause-line
returns-in-None-clause-line c = pieces-none c.args.bytes.now c.in-None.ensures.place
