use Rattle.std.proofs.Common.{◌≡◌, length, arith}
use Rattle.oplock_state.proofs.TableLemmas.{AreTables-seam}
use Rattle.oplock_state.proofs.stream_tables.StreamTables.reserve.Goals as goal

pub invariant_of-self : goal.invariant_of-self
invariant_of-self c =
    let as_many : c.self.inside.tables.len ≡ length c.reserve_at.new.tables = omega (arith, c.deref_mut.ensures.len, c.reserve_at.auto.tables) in
    AreTables-seam _ c.reserve_at.new.tables _ as_many c.reserve_at.ensures.tables
