use Rattle.std.proofs.Common.{◌∙◌}
use Rattle.op_delete.proofs.CloseLaws.{with_closed-bare}
use Rattle.op_delete.proofs.leave.close_one.Goals as goal

pub returns-clause-content : goal.returns-clause-content
returns-clause-content c =
    rw (← c.in-Some.ensures.row) ((rw c.bare-handle.ensures at c.close.ensures.content) ∙ with_closed-bare c.args.volume.now.content c.args.id c.in-Some.row.now)
