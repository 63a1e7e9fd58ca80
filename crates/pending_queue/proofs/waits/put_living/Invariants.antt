use Rattle.std.proofs.Common.{◌≡◌, ◌≤◌, ◌+◌, ◌++◌, drop, length}
use Rattle.pending_queue.specs.Waits.{living_entries}
use Rattle.pending_queue.proofs.waits.put_living.Given as goal

abbrev pub invariant-loop-wait : goal.invariant-loop-wait
invariant-loop-wait l = record {
  entries : l.fresh.entries ++ living_entries (drop l.wait-index l.waits) ≡ l.fn.fresh.entries ++ living_entries l.waits;
  left : l.fn.fresh.room + length (living_entries (drop l.wait-index l.waits)) ≤ l.fresh.room + length (living_entries l.waits);
}
