use Rattle.std.proofs.Common.{◌≡◌, ◌≤◌, ◌+◌, drop}
use Rattle.fsa_model.specs.Schedule.{calls_of}
use Rattle.fsa_top.proofs.run.calls_of.Given as goal

abbrev pub invariant-loop-call : goal.invariant-loop-call
invariant-loop-call l = record {
  counts : l.count + calls_of l.client (drop l.call-index l.calls) ≡ calls_of l.client l.calls;
  bound : l.count ≤ l.call-index;
}
