use Rattle.std.proofs.Common.{◌≡◌, ◌+◌, ◌≤◌, length, drop}
use Rattle.std.specs.Prelude.{filter, fold}
use Rattle.fsa_model.specs.Volume.{Volume}
use Rattle.object_tables.specs.Series.{HoldsAsMany}
use Rattle.volume_breaks.specs.Breaks.{with_calls, with_holder_told}
use Rattle.volume_breaks.specs.Calls.{StayHeld}
use Rattle.volume_breaks.specs.Told.{has_call}
use Rattle.volume_breaks.proofs.breaking.end_told.Given as goal

-- what those from this place on end of the calls as they are now is what all of them end of the calls as they were
abbrev pub invariant-loop-one : goal.invariant-loop-one
invariant-loop-one l = record {
  done : (v : Volume) → fold with_holder_told (with_calls v l.pending.items l.ended.items) (drop l.one-index l.told)
      ≡ fold with_holder_told (with_calls v l.fn.pending.items l.fn.ended.items) l.told;
  held : StayHeld l.fn.pending l.pending;
  room : (l.pending.room ≡ l.fn.pending.room) × (l.pending.blockers ≡ l.fn.pending.blockers);
  left : l.fn.ended.room + length (filter has_call (drop l.one-index l.told)) ≤ l.ended.room + length (filter has_call l.told);
  ends : HoldsAsMany l.fn.ended l.ended;
}
