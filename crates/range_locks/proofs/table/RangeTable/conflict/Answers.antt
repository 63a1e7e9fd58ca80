use Rattle.std.proofs.Common.{Bool, ◌≡◌, ◌∙◌, None, true}
use Rattle.std.specs.Prelude.{filter}
use Rattle.range_locks.specs.RangeTable.{AreSameByPlace, conflicts}
use Rattle.range_locks.specs.declared.range.Range.{Range}
use Rattle.range_locks.proofs.NumberLemmas.{behind, behind-none, first-agree, least-near}
use Rattle.range_locks.proofs.PlaceLemmas.{conflicts-meet, near-same}
use Rattle.range_locks.proofs.table.RangeTable.conflict.Goals as goal

pub returns-then-goes_by_place : goal.returns-then-goes_by_place
returns-then-goes_by_place c =
    let test : Range → Bool = conflicts c.args.want c.args.handle c.args.at c.args.count in
    let ranges = c.self.inside.ranges.items in
    let near = c.near-near.result.now in
    let rising : c.self.inside.rising ≡ true = c.goes_by_place.ensures c.if-goes_by_place.true in
    let same : AreSameByPlace (filter test near) (filter test ranges) =
    near-same test near c.self.inside.by_place.ranges ranges (c.near-near.ensures test (conflicts-meet c.args.want c.args.handle c.args.at c.args.count)) c.self.invariant.0 in
    rw (← c.self.view_is) (c.least_behind.ensures ∙ least-near test near ranges None (c.self.invariant.1 rising) same ∙ first-agree (behind test None) test (behind-none test) ranges)
