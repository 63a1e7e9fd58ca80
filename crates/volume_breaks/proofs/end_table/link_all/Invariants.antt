use Rattle.std.proofs.Common.{◌+◌, ◌≤◌, take}
use Rattle.volume_breaks.specs.Ends.{AreEndsFound}
use Rattle.volume_breaks.proofs.end_table.link_all.Given as goal

-- those before this place are linked
abbrev pub invariant-loop-end : goal.invariant-loop-end
invariant-loop-end l = record {
  found : AreEndsFound l.heads.items l.links.items (take l.end-index l.ends);
  left : l.fn.links.room ≤ l.links.room + l.end-index;
}
