use Rattle.std.proofs.Common.{length}
use Rattle.op_delete.specs.Room.{later_handles}
use Rattle.op_delete.proofs.LeaveLaws.{IsSummed}
use Rattle.op_delete.proofs.leave.sum_of_closes.Given as goal

abbrev pub invariant-handles : goal.invariant-handles
invariant-handles l = IsSummed l.volume.content l.client l.sum

abbrev pub decreases-handles : goal.decreases-handles
decreases-handles l = length (later_handles l.volume.content l.client l.sum.after)
