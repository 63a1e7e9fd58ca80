use Rattle.fsa_model.proofs.EngineLaws.{run-released}
use Rattle.fsa_model.proofs.law.released_calls_are_tried_once.Goals as goal

pub returns : goal.returns
returns c = record { released = run-released }
