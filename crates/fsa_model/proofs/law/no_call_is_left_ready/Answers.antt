use Rattle.fsa_model.proofs.EngineLaws.{run-none_ready}
use Rattle.fsa_model.proofs.law.no_call_is_left_ready.Goals as goal

pub returns : goal.returns
returns c = record { none_ready = run-none_ready }
