use Rattle.std.proofs.Common.{◌≡◌, ◌*◌, ◌<◌, ◌≤◌, length, take, drop}
use Rattle.std.specs.Prelude.{Err}
use Rattle.fsa_model.specs.Fault.{BadSyntax}
use Rattle.fsa_model.specs.Words.{written_bytes}
use Rattle.script_read.proofs.ReadLemmas.{ahead}
use Rattle.script_read.proofs.text.read_digits.Given as goal

abbrev pub invariant-bytes : goal.invariant-bytes
invariant-bytes l = record {
  size : length l.digits ≡ 2 * length l.bytes;
  good : l.greatest < 16 → ahead (take l.i l.bytes) (written_bytes (drop (2 * l.i) l.digits)) ≡ written_bytes l.digits;
  bad : 16 ≤ l.greatest → written_bytes l.digits ≡ Err BadSyntax;
}
