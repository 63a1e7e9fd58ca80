use Rattle.std.proofs.Common.{length}
use Rattle.volume_breaks.proofs.EndLemmas.{Seeks}
use Rattle.volume_breaks.proofs.end_table.first_place.Given as goal

abbrev pub invariant-loop-end : goal.invariant-loop-end
invariant-loop-end l = Seeks (length l.heads) l.client l.number l.ends l.found l.end

abbrev pub decreases-loop-end : goal.decreases-loop-end
decreases-loop-end l = l.end
