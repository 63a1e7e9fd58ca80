use Rattle.history_laws.proofs.HandlesClose.{handles-go_when_closed}
use Rattle.history_laws.proofs.law.handles_go_when_closed.Goals as goal

pub returns : goal.returns
returns c = record { go = handles-go_when_closed }
