use Rattle.std.proofs.Common.{Bool, ◌∙◌, ◌≡◌, Some}
use Rattle.std.specs.List.{position}
use Rattle.range_locks.specs.RangeTable.{is_range}
use Rattle.range_locks.specs.declared.range.Range.{Range}
use Rattle.range_locks.proofs.FirstLemmas.{HasFirst-position}
use Rattle.range_locks.proofs.table.remove.Goals as goal

pub returns-clause-ranges : goal.returns-clause-ranges
returns-clause-ranges c =
    let test : Range → Bool = is_range c.args.handle c.args.at c.args.count in
    let found : position test c.args.ranges.now.items ≡ Some c.place_of-place.result = rw c.as_slice.ensures at c.place_of-place.ensures in
    c.remove.ensures.items ∙ (HasFirst-position test c.args.ranges.now.items c.place_of-place.result c.remove.result found).rest
