use Rattle.std.proofs.Common.{◌≡◌, ◌++◌, drop}
use Rattle.std.specs.List.{flat_map}
use Rattle.fsa_model.specs.FieldText.{unit_text}
use Rattle.text_out.proofs.bodies.push_units.Given as goal

abbrev pub invariant-loop-unit : goal.invariant-loop-unit
invariant-loop-unit l = record {
  lines : l.draft.lines ++ flat_map unit_text (drop l.unit-index l.units) ≡ l.fn.draft.lines ++ flat_map unit_text l.units;
  before : l.draft.before ≡ l.fn.draft.before;
}
