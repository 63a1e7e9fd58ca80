use Rattle.fsa_model.proofs.EngineLaws.{run-ends_once}
use Rattle.fsa_model.proofs.law.each_call_ends_once.Goals as goal

pub returns : goal.returns
returns c = record { once = run-ends_once }
