use Rattle.std.proofs.Common.{◌≡◌, ◌++◌}
use Rattle.fsa_types.specs.LittleEndian.{zeros}
use Rattle.pack_info.proofs.number.push_zeros.Given as goal

abbrev pub invariant-loop : goal.invariant-loop
invariant-loop l = l.out.items ≡ l.fn.out.items ++ zeros l.counter
