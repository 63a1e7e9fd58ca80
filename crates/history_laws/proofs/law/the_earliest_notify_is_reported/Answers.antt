use Rattle.history_laws.proofs.ReportsInOrder.{run-reports_to_earliest}
use Rattle.history_laws.proofs.law.the_earliest_notify_is_reported.Goals as goal

pub returns : goal.returns
returns c = record { earliest = run-reports_to_earliest }
