use Rattle.std.proofs.Common.{◌≡◌, length, arith}
use Rattle.volume_tables.proofs.PlaceLemmas.{rising-seam}
use Rattle.volume_tables.proofs.ranges.StreamRanges.remove_all_of.Goals as goal

pub invariant_of-self : goal.invariant_of-self
invariant_of-self c =
    let as_many : c.self.inside.tables.len ≡ length c.remove_all_of.new.tables = omega (arith, c.deref_mut.ensures.len, c.remove_all_of.auto.tables) in
    (c.self.invariant.0, rising-seam _ c.remove_all_of.new.tables _ as_many c.remove_all_of.ensures.rising)
