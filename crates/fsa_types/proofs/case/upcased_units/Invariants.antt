use Rattle.std.proofs.Common.{drop}
use Rattle.fsa_types.specs.CaseTableBody.{AreUpcased}
use Rattle.fsa_types.proofs.case.upcased_units.Given as goal

abbrev pub invariant-loop-place : goal.invariant-loop-place
invariant-loop-place l = AreUpcased (drop l.place l.pairs) l.units.items
