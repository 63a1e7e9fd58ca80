use Rattle.std.proofs.Common.{◌≡◌, length}
use Rattle.fsa_model.specs.Words.{units_of}
use Rattle.script_read.proofs.ReadLemmas.{ahead}
use Rattle.script_read.proofs.text.units_of.Given as goal

abbrev pub invariant-units : goal.invariant-units
invariant-units l = ahead l.units.items (units_of l.rest) ≡ units_of l.bytes

abbrev pub decreases-units : goal.decreases-units
decreases-units l = length l.rest
