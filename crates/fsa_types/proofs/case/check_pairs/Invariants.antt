use Rattle.std.proofs.Common.{◌≡◌, take}
use Rattle.fsa_types.specs.CaseTable.{is_source, is_target}
use Rattle.fsa_types.specs.CaseTableBody.{AreMarks}
use Rattle.fsa_types.proofs.CaseTableLemmas.{fault_from}
use Rattle.fsa_types.proofs.case.check_pairs.Given as goal

abbrev pub invariant-loop-place : goal.invariant-loop-place
invariant-loop-place l = record {
  sources : AreMarks (is_source (take l.place l.pairs)) l.sources.items;
  targets : AreMarks (is_target (take l.place l.pairs)) l.targets.items;
  sound : fault_from l.pairs l.place ≡ fault_from l.pairs 0;
}
