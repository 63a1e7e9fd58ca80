use Rattle.std.proofs.Common.{◌≡◌, length, arith}
use Rattle.volume_tables.proofs.PlaceLemmas.{rising-seam}
use Rattle.volume_tables.proofs.ranges.StreamRanges.reserve.Goals as goal

pub invariant_of-self : goal.invariant_of-self
invariant_of-self c =
    let as_many : c.self.inside.tables.len ≡ length c.reserve_at.new.tables = omega (arith, c.deref_mut.ensures.len, c.reserve_at.auto.tables) in
    (c.self.invariant.0, rising-seam _ c.reserve_at.new.tables _ as_many c.reserve_at.ensures.rising)
