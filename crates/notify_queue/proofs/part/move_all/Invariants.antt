use Rattle.std.proofs.Common.{◌≡◌, ◌++◌, take, drop}
use Rattle.std.specs.Prelude.{map}
use Rattle.notify_queue.specs.Log.{moved}
use Rattle.notify_queue.proofs.part.move_all.Given as goal

abbrev pub invariant-loop-i : goal.invariant-loop-i
invariant-loop-i l = record {
  items : l.entries.items ≡ map (moved l.unit l.dir) (take l.i l.fn.entries.items) ++ drop l.i l.fn.entries.items;
  room : l.entries.room ≡ l.fn.entries.room;
}
