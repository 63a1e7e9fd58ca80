use Rattle.std.proofs.Common.{◌≡◌, drop, None}
use Rattle.range_locks.specs.RangeTable.{conflicts, least_from}
use Rattle.range_locks.proofs.NumberLemmas.{behind}
use Rattle.range_locks.proofs.table.least_behind.Given as goal

abbrev pub invariant-loop-range : goal.invariant-loop-range
invariant-loop-range l =
    least_from (behind (conflicts l.want l.handle l.at l.count) l.last) l.least (drop l.range-index l.ranges) ≡ least_from (behind (conflicts l.want l.handle l.at l.count) l.last) None l.ranges
