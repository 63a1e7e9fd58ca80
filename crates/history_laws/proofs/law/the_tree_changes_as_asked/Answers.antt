use Rattle.history_laws.proofs.TreeRuns.{run-changes_as_asked}
use Rattle.history_laws.proofs.law.the_tree_changes_as_asked.Goals as goal

pub returns : goal.returns
returns c = record { asked = run-changes_as_asked }
