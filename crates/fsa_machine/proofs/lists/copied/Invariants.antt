use Rattle.std.proofs.Common.{◌≡◌, take}
use Rattle.fsa_machine.proofs.lists.copied.Given as goal

abbrev pub invariant-loop-call : goal.invariant-loop-call
invariant-loop-call l = record {
  items : l.kept.items ≡ take l.call-index l.calls;
  room : l.kept.room ≡ l.fn.kept.room;
}
