use Rattle.fsa_model.proofs.ReportLaws.{run-reports, try_notify-tries}
use Rattle.fsa_model.proofs.law.watches_report_what_is_due.Goals as goal

pub returns : goal.returns
returns c = record { taken = run-reports; asked = try_notify-tries }
