use Rattle.fsa_model.proofs.EngineLaws.{Scheduled-differ}
use Rattle.fsa_model.proofs.law.each_call_is_made_once.Goals as goal

pub returns : goal.returns
returns c = record { differ = Scheduled-differ }
