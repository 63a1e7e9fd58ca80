use Rattle.std.proofs.Common.{◌<◌, ◌≤◌, length, arith}
use Rattle.std.specs.List.{All}
use Rattle.std.specs.List.Sorted.{IsPartitionPoint}
use Rattle.std.proofs.lemmas.List.Sorted.{IsNonDecreasingBy-insert}
use Rattle.range_locks.specs.declared.range.Range.{Range}
use Rattle.range_locks.proofs.PlaceLemmas.{insert-same, longest-inserted}
use Rattle.range_locks.proofs.places.RangesByPlace.add.Goals as goal

pub returns-clause-added : goal.returns-clause-added
returns-clause-added c at =
    let point : IsPartitionPoint (λ e. e.at ≤ c.args.range.at) (λ e. c.args.range.at < e.at) c.self.inside.ranges.items c.end_of-place.result = rw c.as_slice-2.ensures at c.end_of-place.ensures.point in
    rw (c.insert.ensures.items, ← c.self.view_is) (insert-same c.self.inside.ranges.items c.end_of-place.result c.args.range point at)

pub invariant_of-self : goal.invariant_of-self
invariant_of-self c =
    let xs = c.self.inside.ranges.items in
    let point : IsPartitionPoint (λ e. e.at ≤ c.args.range.at) (λ e. c.args.range.at < e.at) xs c.end_of-place.result = rw c.as_slice-2.ensures at c.end_of-place.ensures.point in
    let bound : c.end_of-place.result ≤ length xs = rw c.as_slice-2.ensures at c.end_of-place.ensures.bound in
    let short : All (λ range. range.count ≤ c.longest_with-self-inside.result) xs = rw c.as_slice.ensures at c.longest_with-self-inside.ensures.others c.self.invariant.1 in (
      rw c.insert.ensures.items (IsNonDecreasingBy-insert (λ (e : Range). e.at) xs c.end_of-place.result c.args.range c.self.invariant.0 bound
          (λ k d below. point.0 k d (omega arith) below) (λ k d from within. let more = point.1 k d from within in omega arith)),
      rw c.insert.ensures.items (longest-inserted xs c.end_of-place.result c.args.range c.longest_with-self-inside.result short c.longest_with-self-inside.ensures.own),
    )
