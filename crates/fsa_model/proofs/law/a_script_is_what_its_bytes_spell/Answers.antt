use Rattle.fsa_model.proofs.ScriptSpelt.{script_of-spelled}
use Rattle.fsa_model.proofs.law.a_script_is_what_its_bytes_spell.Goals as goal

pub returns : goal.returns
returns c = record { spelled = script_of-spelled }
