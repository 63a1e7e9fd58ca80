use Rattle.std.proofs.Common.{◌≡◌, drop}
use Rattle.fsa_model.specs.Numbers.{number_after}
use Rattle.fsa_top.proofs.seed.number_after.Given as goal

abbrev pub invariant-loop-byte : goal.invariant-loop-byte
invariant-loop-byte l = number_after 10 18446744073709551615 l.n (drop l.byte-index l.digits) ≡ number_after 10 18446744073709551615 0 l.digits
