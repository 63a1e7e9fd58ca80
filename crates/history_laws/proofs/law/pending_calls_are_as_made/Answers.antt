use Rattle.history_laws.proofs.MadeCalls.{pends-as_made}
use Rattle.history_laws.proofs.law.pending_calls_are_as_made.Goals as goal

pub returns : goal.returns
returns c = record { made = pends-as_made }
