use Rattle.std.proofs.Common.{◌≡◌, ◌≤◌, length}
use Rattle.std.specs.Vec.{vec_capacity, vec_len}
use Rattle.pending_queue.specs.Lists.{discounted, ready_turns, sorted, turns_of}
use Rattle.pending_queue.specs.Waits.{living_entries}
use Rattle.pending_queue.proofs.WaitLemmas.{Walked, of_blocker}
use Rattle.pending_queue.proofs.waits.end_each.Given as goal

abbrev pub invariant-loop-end : goal.invariant-loop-end
invariant-loop-end l = record {
  walked : Walked (length l.heads) (of_blocker l.blocker) l.fn.waits.items l.waits.items l.end;
  counts : discounted l.blocker (living_entries l.waits.items) l.calls.items ≡ discounted l.blocker (living_entries l.fn.waits.items) l.fn.calls.items;
  turns : turns_of l.calls.items ≡ turns_of l.fn.calls.items;
  ready : l.ready.items ≡ sorted (ready_turns l.calls.items);
  places : vec_capacity l.fn.ready ≤ vec_capacity l.ready;
  waits_len : vec_len l.waits ≡ vec_len l.fn.waits;
  waits_room : vec_capacity l.waits ≡ vec_capacity l.fn.waits;
  len : vec_len l.calls ≡ vec_len l.fn.calls;
  room : vec_capacity l.calls ≡ vec_capacity l.fn.calls;
}

abbrev pub decreases-loop-end : goal.decreases-loop-end
decreases-loop-end l = l.end
