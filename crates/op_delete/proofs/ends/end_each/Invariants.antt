use Rattle.std.proofs.Common.{◌≡◌, ◌≤◌, ◌+◌, ◌-◌, ◌^◌, length}
use Rattle.op_delete.proofs.EndLaws.{IsEnding}
use Rattle.volume_state.specs.Room.{KeepsEnds}
use Rattle.op_delete.proofs.ends.end_each.Given as goal

abbrev pub invariant-turns : goal.invariant-turns
invariant-turns l = record {
  ending : IsEnding l.ending l.fn.volume.content l.volume.content l.after;
  others : l.volume.spare ≡ record l.fn.volume.spare { ends = l.volume.spare.ends; pending = l.volume.spare.pending; blockers = l.volume.spare.blockers };
  room : length l.volume.content.pending ≤ l.volume.spare.ends;
  count : l.fn.volume.spare.ends + length l.volume.content.pending ≤ l.volume.spare.ends + length l.fn.volume.content.pending;
  ends : KeepsEnds l.fn.volume l.volume;
}

abbrev pub decreases-turns : goal.decreases-turns
decreases-turns l = 2 ^ 64 - l.after
