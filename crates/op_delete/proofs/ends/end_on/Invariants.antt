use Rattle.std.proofs.Common.{◌≡◌, ◌≤◌, ◌+◌, length}
use Rattle.op_delete.specs.Ends.{with_ending}
use Rattle.op_delete.specs.declared.ends.Ending.TheVariants.{OfHandle}
use Rattle.volume_state.specs.Room.{KeepsEnds}
use Rattle.op_delete.proofs.ends.end_on.Given as goal

abbrev pub invariant-turns : goal.invariant-turns
invariant-turns l = record {
  goes : with_ending (OfHandle l.client l.handle) l.volume.content ≡ with_ending (OfHandle l.client l.handle) l.fn.volume.content;
  rest : l.volume.content ≡ record l.fn.volume.content { pending = l.volume.content.pending; ended = l.volume.content.ended };
  others : l.volume.spare ≡ record l.fn.volume.spare { ends = l.volume.spare.ends; pending = l.volume.spare.pending; blockers = l.volume.spare.blockers };
  room : length l.volume.content.pending ≤ l.volume.spare.ends;
  count : l.fn.volume.spare.ends + length l.volume.content.pending ≤ l.volume.spare.ends + length l.fn.volume.content.pending;
  ends : KeepsEnds l.fn.volume l.volume;
}

abbrev pub decreases-turns : goal.decreases-turns
decreases-turns l = length l.volume.content.pending
