use Rattle.std.proofs.Common.{◌≡◌, take}
use Rattle.volume_breaks.specs.Calls.{LoseBlockers, is_lock_of}
use Rattle.volume_breaks.proofs.releasing.release_locks.Given as goal

-- the locks that were gone over are told
abbrev pub invariant-loop-lock : goal.invariant-loop-lock
invariant-loop-lock l = record {
  held : LoseBlockers (is_lock_of (take l.lock-index l.locks) l.handle) l.fn.pending l.pending;
  others : l.pending ≡ record l.fn.pending { held = l.pending.held };
}
