use Rattle.std.proofs.Common.{◌≡◌, ◌*◌, ◌++◌, take, drop}
use Rattle.fsa_model.specs.Text.{hex_digits}
use Rattle.text_out.proofs.digits.write_digits.Given as goal

abbrev pub invariant-bytes : goal.invariant-bytes
invariant-bytes l = take (2 * l.i) l.digits ++ hex_digits (drop l.i l.bytes) ≡ hex_digits l.bytes
