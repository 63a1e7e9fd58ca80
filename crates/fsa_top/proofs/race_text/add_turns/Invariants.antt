use Rattle.std.proofs.Common.{◌≡◌}
use Rattle.script_read.specs.ScriptView.{contents}
use Rattle.fsa_top.specs.ShownTurns.{ShowsFirst}
use Rattle.fsa_top.proofs.race_text.add_turns.Given as goal

abbrev pub invariant-loop-turn : goal.invariant-loop-turn
invariant-loop-turn g l = record {
  shows : ShowsFirst (contents l.script) l.machine.entries l.turn (g.K.Sink.written l.fn.sink) (g.K.Sink.written l.sink) l.buffer;
  unfailed : g.K.Sink.faults l.sink ≡ g.K.Sink.faults l.fn.sink;
}
