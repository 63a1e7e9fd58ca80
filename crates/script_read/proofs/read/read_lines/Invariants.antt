use Rattle.std.proofs.Common.{◌≡◌, ◌+◌, ◌≤◌, ◌<◌, ◌^◌, length}
use Rattle.fsa_model.specs.Script.{nothing_read, lines_from, pieces}
use Rattle.script_read.specs.ReadingView.{reading_of, IsKept}
use Rattle.script_read.proofs.read.read_lines.Given as goal

abbrev pub invariant-lines : goal.invariant-lines
invariant-lines l = record {
  read : lines_from l.line (reading_of l.reading) (pieces l.rest) ≡ lines_from 1 nothing_read (pieces l.bytes);
  kept : IsKept l.reading;
  line : l.line + length l.rest ≤ length l.bytes + 1;
  clients : length l.reading.clients.items + length (pieces l.rest) ≤ l.reading.clients.room + 1;
  calls : length l.reading.calls.items + length (pieces l.rest) ≤ l.reading.calls.room + 1;
  small : l.reading.clients.room < 2 ^ 32;
}

abbrev pub decreases-lines : goal.decreases-lines
decreases-lines l = length l.rest
