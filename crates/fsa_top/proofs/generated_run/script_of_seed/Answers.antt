use Rattle.fsa_top.proofs.SummaryLaws.{generated-read, generated-sids, generated-within}
use Rattle.fsa_top.proofs.generated_run.script_of_seed.Goals as goal

pub returns-in_err-script-clause-is_read : goal.returns-in_err-script-clause-is_read
returns-in_err-script-clause-is_read c = generated-read c.args.seed (c.a_generated_script_is_read.ensures c.args.seed)

pub returns-in_err-script-clause-within : goal.returns-in_err-script-clause-within
returns-in_err-script-clause-within c = generated-within c.args.seed

pub returns-in_err-script-clause-sids : goal.returns-in_err-script-clause-sids
returns-in_err-script-clause-sids c = generated-sids c.args.seed (c.a_generated_script_is_read.ensures c.args.seed)

pub returns-clause-is_read : goal.returns-clause-is_read
returns-clause-is_read c = generated-read c.args.seed (c.a_generated_script_is_read.ensures c.args.seed)

pub returns-clause-within : goal.returns-clause-within
returns-clause-within c = generated-within c.args.seed

pub returns-clause-sids : goal.returns-clause-sids
returns-clause-sids c = generated-sids c.args.seed (c.a_generated_script_is_read.ensures c.args.seed)
