use Rattle.std.proofs.Common.{sym}
use Rattle.range_locks.specs.RangeTable.{is_range_of}
use Rattle.range_locks.proofs.FirstLemmas.{HasNone-position, HasFirst-position}
use Rattle.range_locks.proofs.table.first_of_handle.Goals as goal

pub returns-in-None : goal.returns-in-None
returns-in-None c = sym (HasNone-position (is_range_of c.args.handle) c.args.ranges.now (sym c.in-None.ensures)).none

pub returns-in-Some : goal.returns-in-Some
returns-in-Some c = sym (HasFirst-position (is_range_of c.args.handle) c.args.ranges.now c.in-Some.place _ (sym c.in-Some.ensures)).some
