use Rattle.std.proofs.Common.{◌≡◌, ◌++◌, take}
use Rattle.fsa_types.specs.LittleEndian.{utf16}
use Rattle.pack_info.proofs.number.push_units.Given as goal

abbrev pub invariant-loop-unit : goal.invariant-loop-unit
invariant-loop-unit l = l.out.items ≡ l.fn.out.items ++ utf16 (take l.unit-index l.units)
