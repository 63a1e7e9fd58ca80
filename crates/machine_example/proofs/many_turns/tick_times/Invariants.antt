use Rattle.std.proofs.Common.{◌≡◌, length}
use Rattle.fsa_model.specs.Schedule.{calls_of}
use Rattle.fsa_machine.specs.MachineView.{calls_of_entries}
use Rattle.machine_example.proofs.many_turns.tick_times.Given as goal

-- so many turns were made, all of them the client's
abbrev pub invariant-loop-made : goal.invariant-loop-made
invariant-loop-made l = record {
  setup : l.machine.setup ≡ l.fn.machine.setup;
  turns : length l.machine.entries ≡ l.made;
  calls : calls_of l.client (calls_of_entries l.machine.entries) ≡ l.made;
}
