use Rattle.std.proofs.Common.{sym}
use Rattle.range_locks.specs.RangeTable.{is_range_of}
use Rattle.volume_tables.proofs.RangeLemmas.{some-less}
use Rattle.volume_tables.proofs.ranges.remove_from.Goals as goal

pub returns-clause-some : goal.returns-clause-some
returns-clause-some c = rw (c.len.ensures, c.len-before.ensures, c.remove_all_of.ensures.ranges) (sym (some-less (is_range_of c.args.handle) c.args.table.now.ranges))
