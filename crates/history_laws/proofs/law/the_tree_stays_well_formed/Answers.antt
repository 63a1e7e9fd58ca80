use Rattle.history_laws.proofs.TreeRuns.{run-tree_stays_well_formed}
use Rattle.history_laws.proofs.law.the_tree_stays_well_formed.Goals as goal

pub returns : goal.returns
returns c = record { formed = run-tree_stays_well_formed }
