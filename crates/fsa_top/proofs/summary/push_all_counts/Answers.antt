use Rattle.fsa_top.specs.Summaries.{counts_text}
use Rattle.fsa_top.proofs.summary.push_all_counts.Goals as goal

pub returns : goal.returns
unfolding counts_text
returns c = c.push_counts.ensures
