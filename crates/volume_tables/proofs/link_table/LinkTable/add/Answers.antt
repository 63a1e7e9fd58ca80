use Rattle.std.proofs.Common.{arith}
use Rattle.volume_tables.proofs.DirectoryLaws.{rooms-left}
use Rattle.volume_tables.proofs.link_table.LinkTable.add.Goals as goal

pub invariant_of-self : goal.invariant_of-self
invariant_of-self c =
    let i = c.self.inside in
    let one = c.take_one.ensures.all in
    let left = c.add-2.ensures.left in
    let had = c.self.invariant.0 in (
      omega arith,
      rooms-left i.rooms c.take_one.new.self i.names c.add.new.self c.row.inside.parent c.take_one.ensures c.self.invariant.1 c.add.ensures.left (λ other differ. rw (c.add.ensures.others other differ) (omega arith)),
      rw (c.add-2.ensures.rows, ← c.row.view_is) (rw (c.table-links.ensures.rows, c.last-id.ensures, c.table-links.ensures.last, c.units-units.ensures) at (c.add.ensures.by_name c.row.inside.file c.row.inside.deleted)),
    )
