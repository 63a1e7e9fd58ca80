use Rattle.fsa_model.proofs.NoticeEnds.{run-watches_report}
use Rattle.fsa_model.proofs.law.watches_report_exactly.Goals as goal

pub returns : goal.returns
returns c = record { exactly = run-watches_report }
