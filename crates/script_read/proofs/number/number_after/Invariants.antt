use Rattle.std.proofs.Common.{◌≡◌, ◌≤◌, drop}
use Rattle.fsa_model.specs.Numbers.{number_after}
use Rattle.script_read.proofs.number.number_after.Given as goal

abbrev pub invariant-loop-byte : goal.invariant-loop-byte
invariant-loop-byte l = record {
  number : number_after l.base l.most l.n (drop l.byte-index l.digits) ≡ number_after l.base l.most 0 l.digits;
  most : l.n ≤ l.most;
}
