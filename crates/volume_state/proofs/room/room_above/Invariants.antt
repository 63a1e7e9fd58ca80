use Rattle.std.proofs.Common.{◌≡◌, ◌+◌, ◌≤◌, length}
use Rattle.volume_state.specs.Paths.{units_above, dirs_above}
use Rattle.volume_state.proofs.room.room_above.Given as goal

abbrev pub invariant-up : goal.invariant-up
invariant-up l = record {
  units : l.units + units_above l.more l.links.rows l.dir ≡ l.fn.units + units_above (length l.links.rows) l.links.rows l.parent;
  dirs : l.dirs + dirs_above l.more l.links.rows l.dir ≡ 1 + dirs_above (length l.links.rows) l.links.rows l.parent;
  few : l.dirs + l.more ≤ 1 + length l.links.rows;
}

abbrev pub decreases-up : goal.decreases-up
decreases-up l = l.more
