use Rattle.history_laws.proofs.HandlesDiffer.{handles-differ}
use Rattle.history_laws.proofs.law.two_handles_differ.Goals as goal

pub returns : goal.returns
returns c = record { differ = handles-differ }
