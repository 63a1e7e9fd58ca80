use Rattle.std.proofs.Common.{rules}
use Rattle.history_lock.proofs.Turning.{loads_count}
use Rattle.history_lock.proofs.moves.load.Goals as goal

pub load-requires : goal.load-requires
load-requires g c = (search rules, search rules, loads_count _ _ _ _ _ _ _ _ _ _)
