use Rattle.std.proofs.Common.{length}
use Rattle.op_delete.proofs.LeaveLaws.{AreLater, IsClosing}
use Rattle.volume_state.specs.Room.{KeepsEnds}
use Rattle.op_delete.proofs.leave.close_all.Given as goal

abbrev pub invariant-handles : goal.invariant-handles
invariant-handles l = record {
  closing : IsClosing l.client l.fn.volume.content l.volume.content l.fn.volume.spare l.volume.spare;
  later : AreLater l.volume.content l.client l.after;
  ends : KeepsEnds l.fn.volume l.volume;
}

abbrev pub decreases-handles : goal.decreases-handles
decreases-handles l = length l.volume.content.handles
