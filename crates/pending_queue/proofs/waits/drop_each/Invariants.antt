use Rattle.std.proofs.Common.{◌≡◌, length}
use Rattle.std.specs.Vec.{vec_capacity, vec_len}
use Rattle.pending_queue.proofs.WaitLemmas.{Walked, of_turn}
use Rattle.pending_queue.proofs.waits.drop_each.Given as goal

abbrev pub invariant-loop-end : goal.invariant-loop-end
invariant-loop-end l = record {
  walked : Walked (length l.heads) (of_turn l.turn) l.fn.waits.items l.waits.items l.end;
  len : vec_len l.waits ≡ vec_len l.fn.waits;
  room : vec_capacity l.waits ≡ vec_capacity l.fn.waits;
}

abbrev pub decreases-loop-end : goal.decreases-loop-end
decreases-loop-end l = l.end
