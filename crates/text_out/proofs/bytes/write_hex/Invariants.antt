use Rattle.std.proofs.Common.{◌≡◌, ◌≤◌, ◌-◌, length, take}
use Rattle.fsa_model.specs.Text.{hex_digits}
use Rattle.wire_io.specs.Sink.{Appends}
use Rattle.text_out.proofs.bytes.write_hex.Given as goal

-- the digits of the bytes up to the place were written, and no put failed
abbrev pub invariant-parts : goal.invariant-parts
invariant-parts g l = record {
  within : l.at ≤ length l.bytes;
  wrote : Appends (g.K.Sink.written l.fn.sink) (g.K.Sink.written l.sink) (hex_digits (take l.at l.bytes));
  later : g.K.Sink.faults l.sink ≡ g.K.Sink.faults l.fn.sink;
}

abbrev pub decreases-parts : goal.decreases-parts
decreases-parts g l = length l.bytes - l.at
