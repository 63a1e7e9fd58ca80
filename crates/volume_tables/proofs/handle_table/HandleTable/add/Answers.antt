use Rattle.std.proofs.Common.{◌+◌, ◌≡◌, false, true, arith}
use Rattle.volume_tables.proofs.LockLemmas.{AreTabled-handle}
use Rattle.volume_tables.proofs.OpenLemmas.{AreShared-few}
use Rattle.volume_tables.proofs.handle_table.HandleTable.add.Goals as goal

pub unreachable-requires : goal.unreachable-requires
unreachable-requires c =
    let room = rw (← c.self.view_is) at c.requires.room in
    let promised = c.self.invariant.3 in
    let impossible : false ≡ true = c.in_default.ensures.succeeds (omega arith) in
    cc

pub invariant_of-self : goal.invariant_of-self
invariant_of-self c =
    let i = c.self.inside in
    let promised = c.self.invariant.3 in
    let left = c.add-2.ensures.left in
    let counted = c.self.invariant.5 in
    let less = c.hold.ensures.left in
    let one = c.add.ensures.left in (
      rw c.in-Ok.ensures.rows (AreTabled-handle i.table.rows i.locks.rows i.ranges (i.table.last + 1, c.args.row) c.self.invariant.0),
      c.self.invariant.1,
      rw c.in-Ok.ensures.rows (rw c.last-id.ensures at (c.add.ensures.handles i.table.rows c.self.invariant.2)),
      omega arith,
      rw c.in-Ok.ensures.rows (c.hold.ensures.handles i.table.rows (i.table.last + 1) c.self.invariant.4),
      omega arith,
    )

pub hold-requires-clause-few : goal.hold-requires-clause-few
hold-requires-clause-few c =
    let i = c.self.inside in
    AreShared-few i.table.rows i.shares (c.len-numbered.ensures.few) c.self.invariant.4
