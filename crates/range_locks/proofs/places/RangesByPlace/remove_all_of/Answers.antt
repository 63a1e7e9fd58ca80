use Rattle.std.proofs.Common.{Bool, not}
use Rattle.std.proofs.lemmas.List.Kept.{IsNonDecreasingBy-filter}
use Rattle.range_locks.specs.RangeTable.{is_range_of}
use Rattle.range_locks.specs.declared.range.Range.{Range}
use Rattle.range_locks.proofs.PlaceLemmas.{longest-kept}
use Rattle.range_locks.proofs.places.RangesByPlace.remove_all_of.Goals as goal

pub invariant_of-self : goal.invariant_of-self
invariant_of-self c =
    let xs = c.self.inside.ranges.items in
    let other : Range → Bool = λ range. not (is_range_of c.args.handle range) in (
      rw c.remove_all_of.ensures.ranges (IsNonDecreasingBy-filter (λ (range : Range). range.at) other xs c.self.invariant.0),
      rw c.remove_all_of.ensures.ranges (longest-kept other xs c.self.inside.longest c.self.invariant.1),
    )
