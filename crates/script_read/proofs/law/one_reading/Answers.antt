use Rattle.script_read.proofs.LineLemmas.{line_of-again, line_of-spelled, line_text-injective}
use Rattle.fsa_model.proofs.SpeltLines.{line_of-back}
use Rattle.script_read.proofs.law.one_reading.Goals as goal

pub returns-clause-again : goal.returns-clause-again
returns-clause-again c = line_of-again

pub returns-clause-only : goal.returns-clause-only
returns-clause-only c = line_text-injective

pub returns-clause-spelled : goal.returns-clause-spelled
returns-clause-spelled c = line_of-spelled

pub returns-clause-back : goal.returns-clause-back
returns-clause-back c = line_of-back
