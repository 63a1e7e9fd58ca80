use Rattle.std.proofs.Common.{◌≡◌, ◌≤◌, ◌+◌, drop}
use Rattle.fsa_model.specs.Schedule.{calls_of}
use Rattle.fsa_machine.specs.MachineView.{calls_of_entries}
use Rattle.machine_example.proofs.asking.next_number.Given as goal

-- the calls from this turn on are still to be counted
abbrev pub invariant-loop-i : goal.invariant-loop-i
invariant-loop-i l = record {
  counts : l.count + calls_of l.client (drop l.i (calls_of_entries l.machine.entries)) ≡ calls_of l.client (calls_of_entries l.machine.entries);
  bound : l.count ≤ l.i;
}
