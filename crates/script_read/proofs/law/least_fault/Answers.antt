use Rattle.script_read.proofs.LeastLemmas.{least}
use Rattle.script_read.proofs.law.least_fault.Goals as goal

pub returns : goal.returns
returns c = least
