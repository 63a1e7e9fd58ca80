use Rattle.std.proofs.Common.{◌≡◌}
use Rattle.machine_example.proofs.waiting_lock.open_both.Given as goal

abbrev pub invariant-loop-client : goal.invariant-loop-client
invariant-loop-client l = l.machine.setup ≡ l.fn.machine.setup
