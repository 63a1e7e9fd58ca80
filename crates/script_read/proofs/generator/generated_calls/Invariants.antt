use Rattle.std.proofs.Common.{◌≡◌, ◌-◌, ◌≤◌, ◌++◌, length}
use Rattle.fsa_model.specs.Generator.{generated_calls}
use Rattle.script_read.proofs.generator.generated_calls.Given as goal

abbrev pub invariant-calls : goal.invariant-calls
invariant-calls l = record {
  made : l.calls.items ++ generated_calls (4096 - l.place) l.place l.state ≡ generated_calls 4096 0 l.seed;
  within : l.place ≤ 4096;
  count : length l.calls.items ≡ l.place;
  room : l.calls.room ≡ 4096;
}

abbrev pub decreases-calls : goal.decreases-calls
decreases-calls l = 4096 - l.place
