use Rattle.std.proofs.Common.{◌≡◌, ◌+◌, ◌≤◌, ◌-◌, length, take}
use Rattle.wire_io.specs.Sink.{Extends}
use Rattle.wire_io.proofs.sinks.put_all.Given as goal

-- the bytes before `done` were written, in no more puts than there are of them, none empty, and none failed
abbrev pub invariant-pieces : goal.invariant-pieces
invariant-pieces g l = record {
  written : Extends (g.K.Sink.written l.fn.sink).bytes (g.K.Sink.written l.sink).bytes (take l.done l.bytes);
  within : l.done ≤ length l.bytes;
  few : (g.K.Sink.written l.sink).puts ≤ (g.K.Sink.written l.fn.sink).puts + l.done;
  none_empty : (g.K.Sink.written l.sink).empty_puts ≤ (g.K.Sink.written l.fn.sink).empty_puts;
  later : g.K.Sink.faults l.sink ≡ g.K.Sink.faults l.fn.sink;
}

abbrev pub decreases-pieces : goal.decreases-pieces
decreases-pieces g l = length l.bytes - l.done
