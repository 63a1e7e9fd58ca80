use Rattle.std.proofs.Common.{◌≡◌, ◌++◌, length, map, drop}
use Rattle.std.specs.Prelude.{filter}
use Rattle.range_locks.specs.RangeTable.{conflicts, lock_blocker}
use Rattle.range_locks.proofs.table.listed_all.Given as goal

abbrev pub invariant-loop-range : goal.invariant-loop-range
invariant-loop-range l = record {
  listed : l.list.items ++ map lock_blocker (filter (conflicts l.want l.handle l.at l.count) (drop l.range-index l.ranges))
      ≡ map lock_blocker (filter (conflicts l.want l.handle l.at l.count) l.ranges);
  room : l.list.room ≡ length (map lock_blocker (filter (conflicts l.want l.handle l.at l.count) l.ranges));
}
