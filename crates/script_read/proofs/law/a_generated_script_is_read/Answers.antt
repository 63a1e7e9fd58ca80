use Rattle.fsa_model.specs.Generator.{generated, generated_text}
use Rattle.fsa_model.proofs.GeneratorLaws.{generated-spelled}
use Rattle.script_read.proofs.SpelledLemmas.{script_of-bytes}
use Rattle.script_read.proofs.law.a_generated_script_is_read.Goals as goal

pub returns : goal.returns
returns c = λ seed. script_of-bytes (generated_text seed) (generated seed) (generated-spelled seed)
