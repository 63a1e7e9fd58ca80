use Rattle.std.proofs.Common.{◌≡◌, ◌++◌, take, drop}
use Rattle.std.specs.Prelude.{map}
use Rattle.volume_state.specs.Watches.{asked_by}
use Rattle.volume_state.proofs.watches.ask_by.Given as goal

abbrev pub invariant-loop-i : goal.invariant-loop-i
invariant-loop-i l = record {
  items : l.watches.items ≡ map (asked_by l.client l.what) (take l.i l.fn.watches.items) ++ drop l.i l.fn.watches.items;
  room : l.watches.room ≡ l.fn.watches.room;
}
