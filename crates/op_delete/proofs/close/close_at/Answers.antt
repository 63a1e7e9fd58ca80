use Rattle.std.proofs.Common.{sym}
use Rattle.op_delete.proofs.CloseLaws.{close_at-row}
use Rattle.op_delete.proofs.close.close_at.Goals as goal

pub returns : goal.returns
returns c = record {
  leaves =
      rw (close_at-row c.args.volume.now.content c.args.id c.in-Some.row.now (sym c.in-Some.ensures.row)) (rw c.bare-handle.ensures at c.close_row.ensures.leaves);
}
