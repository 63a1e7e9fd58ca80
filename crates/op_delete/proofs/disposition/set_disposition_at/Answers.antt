use Rattle.std.proofs.Common.{sym}
use Rattle.op_delete.proofs.DispositionLaws.{set_disposition_at-row}
use Rattle.op_delete.proofs.disposition.set_disposition_at.Goals as goal

pub returns : goal.returns
returns c = record {
  leaves =
      rw (set_disposition_at-row c.args.volume.now.content c.args.id c.in-Some.row.now c.args.delete (sym c.in-Some.ensures.row)) (rw c.bare-handle.ensures at c.set_disposition_by.ensures.leaves);
}
