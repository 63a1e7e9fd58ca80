use Rattle.std.proofs.Common.{◌≡◌, take}
use Rattle.volume_breaks.specs.Calls.{LoseBlockers, is_break_of}
use Rattle.volume_breaks.proofs.releasing.release_breaks.Given as goal

-- the oplocks that were gone over are told
abbrev pub invariant-loop-oplock : goal.invariant-loop-oplock
invariant-loop-oplock l = record {
  held : LoseBlockers (is_break_of (take l.oplock-index l.oplocks) l.handle) l.fn.pending l.pending;
  others : l.pending ≡ record l.fn.pending { held = l.pending.held };
}
