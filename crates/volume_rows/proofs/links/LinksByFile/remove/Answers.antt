use Rattle.std.proofs.Common.{arith}
use Rattle.volume_rows.proofs.links.LinksByFile.remove.Goals as goal

pub invariant_of-self : goal.invariant_of-self
invariant_of-self c =
    let links = c.remove.ensures.room in
    let files = c.remove.ensures.kept in
    let promised = c.self.invariant in (
      c.remove.ensures.indexed c.self.invariant.0,
      omega arith,
      omega arith,
    )
