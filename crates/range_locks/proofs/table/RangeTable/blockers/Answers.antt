use Rattle.std.proofs.Common.{Bool}
use Rattle.range_locks.specs.RangeTable.{conflicts}
use Rattle.range_locks.specs.declared.range.Range.{Range}
use Rattle.range_locks.proofs.PlaceLemmas.{conflicts-meet, near-same}
use Rattle.range_locks.proofs.table.RangeTable.blockers.Goals as goal

pub listed_near-requires-clause-near : goal.listed_near-requires-clause-near
listed_near-requires-clause-near c =
    let test : Range → Bool = conflicts c.args.want c.args.handle c.args.at c.args.count in
    rw c.as_slice.ensures (near-same test c.near-near.result.now c.self.inside.by_place.ranges c.self.inside.ranges.items
    (c.near-near.ensures test (conflicts-meet c.args.want c.args.handle c.args.at c.args.count)) c.self.invariant.0)
