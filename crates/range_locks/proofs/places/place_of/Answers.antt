use Rattle.std.proofs.Common.{◌<◌, ◌≤◌, ◌+◌, ◌∙◌, ap}
use Rattle.std.specs.Prelude.{drop, option_map}
use Rattle.std.specs.List.Sorted.{IsPartitionPoint}
use Rattle.range_locks.proofs.PlaceLemmas.{place-here}
use Rattle.range_locks.proofs.places.place_of.Goals as goal

pub returns-in-None : goal.returns-in-None
returns-in-None c =
    let high : IsPartitionPoint (λ range. range.at ≤ c.args.at) (λ range. c.args.at < range.at) (drop c.begin_of-begin.result c.args.ranges.now) c.end_of.result = rw c.split_at.ensures.back at c.end_of.ensures.point in
    let found = rw (c.split_at-2.ensures.front, c.split_at.ensures.back) at c.in-None.ensures in
    ap (option_map (λ n. c.begin_of-begin.result + n)) found
    ∙ place-here c.args.ranges.now c.begin_of-begin.result c.end_of.result c.args.handle c.args.at c.args.count c.begin_of-begin.ensures.point high

pub returns-in-Some : goal.returns-in-Some
returns-in-Some c =
    let high : IsPartitionPoint (λ range. range.at ≤ c.args.at) (λ range. c.args.at < range.at) (drop c.begin_of-begin.result c.args.ranges.now) c.end_of.result = rw c.split_at.ensures.back at c.end_of.ensures.point in
    let found = rw (c.split_at-2.ensures.front, c.split_at.ensures.back) at c.in-Some.ensures in
    ap (option_map (λ n. c.begin_of-begin.result + n)) found
    ∙ place-here c.args.ranges.now c.begin_of-begin.result c.end_of.result c.args.handle c.args.at c.args.count c.begin_of-begin.ensures.point high
