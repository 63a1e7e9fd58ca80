use Rattle.std.proofs.Common.{◌≡◌}
use Rattle.script_read.specs.ScriptView.{contents}
use Rattle.history_laws.specs.GoesOn.{how_many_left}
use Rattle.fsa_top.specs.Progress.{WroteTurns, Progress}
use Rattle.fsa_top.proofs.run.run_calls.Given as goal

abbrev pub invariant-turns : goal.invariant-turns
invariant-turns g l = record {
  stands : Progress (contents l.script) l.machine l.order;
  shows : WroteTurns (contents l.script) l.machine.entries (g.K.Sink.written l.fn.sink) (g.K.Sink.written l.sink) l.buffer;
  unfailed : g.K.Sink.faults l.sink ≡ g.K.Sink.faults l.fn.sink;
}

abbrev pub decreases-turns : goal.decreases-turns
decreases-turns g l = how_many_left (contents l.script) l.machine.entries
