use Rattle.std.proofs.Common.{◌≡◌, ◌++◌, take, drop}
use Rattle.std.specs.Prelude.{map}
use Rattle.volume_state.specs.Watches.{row_noted}
use Rattle.volume_state.proofs.watches.pass_change.Given as goal

abbrev pub invariant-loop-i : goal.invariant-loop-i
invariant-loop-i l = record {
  items : l.watches.items ≡ map (row_noted l.log.changes l.pending.items) (take l.i l.fn.watches.items) ++ drop l.i l.fn.watches.items;
  room : l.watches.room ≡ l.fn.watches.room;
}
