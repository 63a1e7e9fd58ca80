use Rattle.std.proofs.Common.{◌≡◌, ◌+◌, ◌≤◌, ◌++◌, length}
use Rattle.std.specs.Prelude.{reverse}
use Rattle.fsa_model.specs.Changes.{ancestors, path_units}
use Rattle.volume_rows.proofs.noting.add_ancestors.Given as goal

abbrev pub invariant-up : goal.invariant-up
invariant-up l = record {
  seen : l.log.seen ++ ancestors (l.more + 1) l.links.rows l.dir (reverse l.log.path)
      ≡ l.fn.log.seen ++ ancestors (length l.links.rows + 1) l.links.rows l.parent (reverse l.fn.log.path);
  changes : l.log.changes ≡ l.fn.log.changes;
  room : l.log.room ≡ l.fn.log.room;
  base : l.log.base ≡ l.fn.log.base;
  units : path_units (ancestors (l.more + 1) l.links.rows l.dir (reverse l.log.path)) ≤ length l.log.path + l.log.units;
  dirs : length (ancestors (l.more + 1) l.links.rows l.dir (reverse l.log.path)) ≤ l.log.dirs;
  units_left : length l.fn.log.path + l.fn.log.units ≤ length l.log.path + l.log.units;
  within : path_units (ancestors (l.more + 1) l.links.rows l.dir (reverse l.log.path)) ≤ path_units (ancestors (length l.links.rows + 1) l.links.rows l.parent (reverse l.fn.log.path));
  dirs_left : l.fn.log.dirs + length (ancestors (l.more + 1) l.links.rows l.dir (reverse l.log.path))
      ≤ l.log.dirs + length (ancestors (length l.links.rows + 1) l.links.rows l.parent (reverse l.fn.log.path));
}

abbrev pub decreases-up : goal.decreases-up
decreases-up l = l.more
