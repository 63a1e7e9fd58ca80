use Rattle.history_laws.proofs.GrantedEnds.{granted_calls-end_for_cause}
use Rattle.history_laws.proofs.law.granted_calls_end_for_a_cause.Goals as goal

pub returns : goal.returns
returns c = record { cause = granted_calls-end_for_cause }
