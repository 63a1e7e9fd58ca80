use Rattle.std.proofs.Common.{◌≡◌, take, length}
use Rattle.fsa_model.specs.Security.{mapped}
use Rattle.op_info.proofs.list.mapped.Given as goal

abbrev pub invariant-loop-entry : goal.invariant-loop-entry
invariant-loop-entry l = record {
  items : l.list.items ≡ mapped (take l.entry-index l.entries);
  room : l.list.room ≡ length l.entries;
}
