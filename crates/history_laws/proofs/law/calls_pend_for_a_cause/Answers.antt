use Rattle.history_laws.proofs.WhyPending.{calls-pend_for_cause}
use Rattle.history_laws.proofs.law.calls_pend_for_a_cause.Goals as goal

pub returns : goal.returns
returns c = record { cause = calls-pend_for_cause }
