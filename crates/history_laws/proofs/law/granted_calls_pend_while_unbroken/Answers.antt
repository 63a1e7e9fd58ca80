use Rattle.history_laws.proofs.GrantedCalls.{granted_calls-pend}
use Rattle.history_laws.proofs.law.granted_calls_pend_while_unbroken.Goals as goal

pub returns : goal.returns
returns c = record { pends = granted_calls-pend }
