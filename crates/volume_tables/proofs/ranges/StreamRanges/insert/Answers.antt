use Rattle.std.proofs.Common.{◌≡◌, length, arith}
use Rattle.volume_tables.proofs.PlaceLemmas.{rising-seam}
use Rattle.volume_tables.proofs.ranges.StreamRanges.insert.Goals as goal

pub invariant_of-self : goal.invariant_of-self
invariant_of-self c =
    let as_many : c.self.inside.tables.len ≡ length c.insert.new.tables = omega (arith, c.deref_mut.ensures.len, c.insert.auto.tables) in
    (c.self.invariant.0, rising-seam _ c.insert.new.tables _ as_many c.insert.ensures.rising)
