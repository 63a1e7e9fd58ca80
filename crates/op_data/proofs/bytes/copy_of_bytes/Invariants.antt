use Rattle.std.proofs.Common.{◌≡◌, ◌++◌}
use Rattle.std.specs.List.{concat}
use Rattle.fsa_types.specs.StreamBytes.{slice}
use Rattle.fsa_model.specs.Lookups.{bytes_of}
use Rattle.op_data.proofs.bytes.copy_of_bytes.Given as goal

abbrev pub invariant-loop-part : goal.invariant-loop-part
invariant-loop-part l = l.bytes.items ++ concat l.part-iterator ≡ slice (bytes_of l.volume.content l.stream) l.at l.count
