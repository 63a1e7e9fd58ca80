use Rattle.std.proofs.Common.{Bool, List, ◌≡◌, ◌∙◌, refl, sym, map, filter, drop, length}
use Rattle.std.proofs.lemmas.List.{length-map}
use Rattle.std.proofs.lemmas.List.Sums.{length-filter}
use Rattle.range_locks.specs.RangeTable.{conflicts, lock_blocker}
use Rattle.range_locks.specs.declared.range.Range.{Range}
use Rattle.range_locks.proofs.ListedLemmas.{all_listed}
use Rattle.range_locks.proofs.table.listed_all.Goals as goal

pub loop-range-init : goal.loop-range-init
loop-range-init c =
    let conflicting : List Range → List Range = λ ranges. filter (conflicts c.args.want c.args.handle c.args.at c.args.count) ranges in
    record {
      listed = rw c.in_ok-list.ensures refl;
      room = rw c.in_ok-list.ensures (
          c.requires
          ∙ sym (length-map (conflicting c.args.ranges.now) lock_blocker ∙ length-filter _ c.args.ranges.now));
    }

pub returns-then-len-found : goal.returns-then-len-found
returns-then-len-found c =
    let test : Range → Bool = conflicts c.args.want c.args.handle c.args.at c.args.count in
    let many : length c.loop-range.list.items ≡ length (map lock_blocker (filter test c.args.ranges.now)) =
    sym c.len.ensures ∙ c.if-len-found.true ∙ c.requires ∙ sym (length-map (filter test c.args.ranges.now) lock_blocker ∙ length-filter _ c.args.ranges.now) in
    all_listed c.loop-range.list (map lock_blocker (filter test (drop c.loop-range.range-index c.args.ranges.now))) (map lock_blocker (filter test c.args.ranges.now)) c.loop-range.invariant.listed many c.loop-range.invariant.room
