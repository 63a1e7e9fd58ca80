use Rattle.history_laws.proofs.TreeRuns.{run-tree_stays_sound}
use Rattle.history_laws.proofs.law.the_tree_stays_sound.Goals as goal

pub returns : goal.returns
returns c = record { sound = run-tree_stays_sound }
