use Rattle.fsa_model.proofs.GeneratorLaws.{generated-spelled, length-generated}
use Rattle.fsa_model.proofs.law.a_generated_script_is_spelled.Goals as goal

pub returns : goal.returns
returns c = record { spelled = generated-spelled; long = length-generated }
