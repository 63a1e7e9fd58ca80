use Rattle.std.proofs.Common.{◌≡◌, ◌++◌, List, length, map}
use Rattle.std.specs.Prelude.{filter}
use Rattle.range_locks.specs.RangeTable.{AreRisingRanges, AreSameByPlace, conflicts, lock_blocker}
use Rattle.range_locks.specs.declared.range.Range.{Range}
use Rattle.range_locks.proofs.NumberLemmas.{behind}
use Rattle.range_locks.proofs.table.listed_by_number.Given as goal

abbrev pub invariant-loop : goal.invariant-loop
invariant-loop l = record {
  many : length l.list.items ≡ l.counter;
  room : l.list.room ≡ l.found;
  listed : (ranges : List Range) → AreRisingRanges ranges → AreSameByPlace (filter (conflicts l.want l.handle l.at l.count) l.near) (filter (conflicts l.want l.handle l.at l.count) ranges)
      → l.list.items ++ map lock_blocker (filter (behind (conflicts l.want l.handle l.at l.count) l.last) ranges) ≡ map lock_blocker (filter (conflicts l.want l.handle l.at l.count) ranges);
}
