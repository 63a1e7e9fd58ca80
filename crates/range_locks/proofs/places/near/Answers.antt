use Rattle.std.proofs.Common.{◌+◌, ◌-◌, ◌<◌, ◌≤◌, length}
use Rattle.std.specs.Prelude.{drop}
use Rattle.std.specs.List.{AllWithin}
use Rattle.range_locks.proofs.PlaceLemmas.{near-has}
use Rattle.range_locks.proofs.places.near.Goals as goal

pub returns : goal.returns
returns c test also =
    let xs = c.args.ranges.now in
    let before : AllWithin (λ range. range.at < c.args.at - c.args.longest) xs 0 c.begin_of-begin.result = rw c.saturating_sub.ensures at c.begin_of-begin.ensures.point.0 in
    let behind : AllWithin (λ range. c.args.at + c.args.count ≤ range.at) (drop c.begin_of-begin.result xs) c.end_before.result (length (drop c.begin_of-begin.result xs)) = rw c.split_at.ensures.back at c.end_before.ensures.behind in
    rw (c.split_at-2.ensures.front, c.split_at.ensures.back)
    (near-has test c.args.at c.args.count c.args.longest also xs c.begin_of-begin.result c.end_before.result c.requires.longest c.begin_of-begin.ensures.bound before behind)
