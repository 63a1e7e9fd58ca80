use Rattle.std.proofs.Common.{◌≡◌}
use Rattle.machine_example.proofs.counted.open_all.Given as goal

abbrev pub invariant-loop-client : goal.invariant-loop-client
invariant-loop-client g l = l.machine.setup ≡ l.fn.machine.setup
