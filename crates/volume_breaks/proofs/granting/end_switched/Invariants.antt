use Rattle.std.proofs.Common.{◌≡◌, ◌+◌, ◌≤◌, drop}
use Rattle.std.specs.Prelude.{fold}
use Rattle.fsa_model.specs.Volume.{Volume}
use Rattle.object_tables.specs.Series.{HoldsAsMany}
use Rattle.volume_breaks.specs.Breaks.{with_calls, with_switch_told}
use Rattle.volume_breaks.specs.Calls.{StayHeld}
use Rattle.volume_breaks.proofs.granting.end_switched.Given as goal

-- what those from this place on end of the calls as they are now is what all of them end of the calls as they were
abbrev pub invariant-loop-oplock : goal.invariant-loop-oplock
invariant-loop-oplock l = record {
  done : (v : Volume) → fold with_switch_told (with_calls v l.pending.items l.ended.items) (drop l.oplock-index l.switched)
      ≡ fold with_switch_told (with_calls v l.fn.pending.items l.fn.ended.items) l.switched;
  held : StayHeld l.fn.pending l.pending;
  room : (l.pending.room ≡ l.fn.pending.room) × (l.pending.blockers ≡ l.fn.pending.blockers);
  left : l.fn.ended.room ≤ l.ended.room + l.oplock-index;
  ends : HoldsAsMany l.fn.ended l.ended;
}
