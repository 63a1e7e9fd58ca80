use Rattle.std.proofs.Common.{Bool, ◌∙◌}
use Rattle.std.specs.Prelude.{filter}
use Rattle.std.proofs.lemmas.List.{length-map}
use Rattle.std.proofs.lemmas.List.Sums.{length-filter}
use Rattle.range_locks.specs.RangeTable.{conflicts, lock_blocker}
use Rattle.range_locks.specs.declared.range.Range.{Range}
use Rattle.range_locks.proofs.ListedLemmas.{as_many}
use Rattle.range_locks.proofs.table.listed_near.Goals as goal

pub listed_all-requires : goal.listed_all-requires
listed_all-requires c =
    let test : Range → Bool = conflicts c.args.want c.args.handle c.args.at c.args.count in
    c.count_of_conflicts-found.ensures ∙ as_many test c.args.near.now c.args.ranges.now c.requires.near ∙ length-map (filter test c.args.ranges.now) lock_blocker ∙ length-filter test c.args.ranges.now

pub returns-then-saturating_mul-ranges : goal.returns-then-saturating_mul-ranges
returns-then-saturating_mul-ranges c = c.listed_by_number.ensures c.args.ranges.now c.requires.numbered c.requires.near
