use Rattle.fsa_model.proofs.ScriptSpelt.{script_of-spelled}
use Rattle.script_read.proofs.SpelledLemmas.{script_of-bytes, no_script}
use Rattle.script_read.proofs.law.a_script_is_read_from_what_spells_it.Goals as goal

pub returns-clause-spelled : goal.returns-clause-spelled
returns-clause-spelled c = script_of-bytes

pub returns-clause-back : goal.returns-clause-back
returns-clause-back c = script_of-spelled

pub returns-clause-none : goal.returns-clause-none
returns-clause-none c = no_script
