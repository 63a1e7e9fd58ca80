use Rattle.std.proofs.Common.{◌≡◌, length, arith}
use Rattle.oplock_state.proofs.TableLemmas.{AreTables-seam}
use Rattle.oplock_state.proofs.stream_tables.StreamTables.drop_handle.Goals as goal

pub invariant_of-self : goal.invariant_of-self
invariant_of-self c =
    let as_many : c.self.inside.tables.len ≡ length c.drop_handle.new.tables = omega (arith, c.deref_mut.ensures.len, c.drop_handle.auto.tables) in
    AreTables-seam _ c.drop_handle.new.tables _ as_many c.drop_handle.ensures.tables
