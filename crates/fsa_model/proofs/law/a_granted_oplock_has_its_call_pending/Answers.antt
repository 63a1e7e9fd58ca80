use Rattle.fsa_model.proofs.GrantedLaws.{run-grants}
use Rattle.fsa_model.proofs.law.a_granted_oplock_has_its_call_pending.Goals as goal

pub returns : goal.returns
returns c = record { pends = run-grants }
