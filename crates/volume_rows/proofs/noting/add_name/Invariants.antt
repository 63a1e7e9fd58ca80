use Rattle.std.proofs.Common.{◌≡◌, ◌+◌, ◌≤◌, ◌++◌, take}
use Rattle.std.specs.Prelude.{reverse}
use Rattle.volume_rows.proofs.noting.add_name.Given as goal

abbrev pub invariant-loop-i : goal.invariant-loop-i
invariant-loop-i l = record {
  path : l.log.path ≡ l.fn.log.path ++ take l.i (reverse l.units);
  seen : l.log.seen ≡ l.fn.log.seen;
  changes : l.log.changes ≡ l.fn.log.changes;
  room : l.log.room ≡ l.fn.log.room;
  dirs : l.log.dirs ≡ l.fn.log.dirs;
  base : l.log.base ≡ l.fn.log.base;
  left : l.fn.log.units ≤ l.log.units + l.i;
}
