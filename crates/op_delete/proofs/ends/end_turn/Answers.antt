use Rattle.std.proofs.Common.{sym, arith}
use Rattle.op_delete.proofs.EndLaws.{pending-fewer}
use Rattle.op_delete.proofs.ends.end_turn.Goals as goal

pub returns-clause-count : goal.returns-clause-count
returns-clause-count c =
    let fewer = pending-fewer c.args.volume.now.content.pending c.args.turn c.in-Some.call.now (sym c.in-Some.ensures.row) in
    rw c.end.ensures.content (omega (arith, fewer, c.end.ensures.left))
