use Rattle.history_laws.proofs.ReadNames.{script_of-read}
use Rattle.history_laws.proofs.law.scripts_are_read.Goals as goal

pub returns : goal.returns
returns c = record { read = script_of-read }
