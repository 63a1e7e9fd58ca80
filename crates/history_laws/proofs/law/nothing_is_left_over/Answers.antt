use Rattle.history_laws.proofs.TreeRuns.{run-leaves_nothing_over}
use Rattle.history_laws.proofs.law.nothing_is_left_over.Goals as goal

pub returns : goal.returns
returns c = record { over = run-leaves_nothing_over }
