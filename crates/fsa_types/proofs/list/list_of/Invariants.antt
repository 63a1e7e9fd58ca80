use Rattle.std.proofs.Common.{◌≡◌, take}
use Rattle.fsa_types.proofs.list.list_of.Given as goal

abbrev pub invariant-loop-item : goal.invariant-loop-item
invariant-loop-item g l = record {
  copied : l.list.items ≡ take l.item-index l.items;
  room : l.list.room ≡ l.room;
}
