use Rattle.fsa_model.proofs.CoherenceRuns.{run-coherent}
use Rattle.fsa_model.proofs.NoticeEnds.{run-watches_report}
use Rattle.shared_volume.proofs.shared.SharedVolume.close.Goals as goal

pub returns-clause-caching_is_coherent : goal.returns-clause-caching_is_coherent
returns-clause-caching_is_coherent c = run-coherent _ _

pub returns-clause-watches_report_exactly : goal.returns-clause-watches_report_exactly
returns-clause-watches_report_exactly c = run-watches_report _ _
