use Rattle.history_laws.proofs.CalledOff.{called_off-end}
use Rattle.history_laws.proofs.law.called_off_calls_end.Goals as goal

pub returns : goal.returns
returns c = record { end = called_off-end }
