use Rattle.fsa_model.proofs.WaitEnds.{run-goes_on}
use Rattle.fsa_model.proofs.law.some_client_goes_on.Goals as goal

pub returns : goal.returns
returns c = record { goes_on = run-goes_on }
