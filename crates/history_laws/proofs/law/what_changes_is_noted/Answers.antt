use Rattle.history_laws.proofs.NotedTries.{run-changes_noted}
use Rattle.history_laws.proofs.law.what_changes_is_noted.Goals as goal

pub returns : goal.returns
returns c = record { noted = run-changes_noted }
