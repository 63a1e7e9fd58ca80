use Rattle.std.proofs.Common.{refl}
use Rattle.op_link.proofs.link.link_at.Goals as goal

pub link_file-requires-clause-file : goal.link_file-requires-clause-file
link_file-requires-clause-file c =
    let given = rw (← c.row.view_is) at c.in-Some.ensures.linked in
    rw c.linked_file.ensures (given (rw c.in-Some-stream.is refl))
