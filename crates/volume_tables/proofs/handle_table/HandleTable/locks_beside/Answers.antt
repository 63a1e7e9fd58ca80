use Rattle.std.proofs.Common.{refl, sym}
use Rattle.volume_tables.specs.HandleTable.{stream_of_handle}
use Rattle.volume_tables.proofs.LockLemmas.{none-own}
use Rattle.volume_tables.proofs.handle_table.HandleTable.locks_beside.Goals as goal

pub returns-then-has_no_range : goal.returns-then-has_no_range
returns-then-has_no_range c =
    let i = c.self.inside in
    rw (← c.self.view_is) (sym (none-own i.table.rows i.locks.rows i.ranges (stream_of_handle i.table.rows c.args.handle) c.args.handle c.self.invariant.0 refl
    (c.has_no_range.ensures c.if-has_no_range.true)))
