use Rattle.std.proofs.Common.{arith}
use Rattle.text_out.proofs.DigitLaws.{digits-step, digits-done}
use Rattle.text_out.proofs.digits.write_digits.Goals as goal

pub bytes-preserved : goal.bytes-preserved
bytes-preserved c = digits-step c.args.bytes.now c.bytes.digits c.bytes.i _ _ (omega arith) (omega arith) c.digit.ensures c.digit-in-bytes.ensures c.bytes.invariant

pub returns : goal.returns
returns c = digits-done c.args.bytes.now _ c.bytes.i (omega arith) (omega arith) c.bytes.invariant
