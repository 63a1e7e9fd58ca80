use Rattle.history_laws.proofs.AsTried.{calls-pend_as_tried}
use Rattle.history_laws.proofs.law.calls_pend_as_they_were_tried.Goals as goal

pub returns : goal.returns
returns c = record { tried = calls-pend_as_tried }
