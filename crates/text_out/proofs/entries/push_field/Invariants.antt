use Rattle.std.proofs.Common.{◌≡◌, ◌++◌, length}
use Rattle.std.specs.List.{flat_map}
use Rattle.fsa_model.specs.FieldText.{unit_text}
use Rattle.fsa_model.specs.PackedText.{units_in}
use Rattle.text_out.proofs.entries.push_field.Given as goal

abbrev pub invariant-units : goal.invariant-units
invariant-units l = record {
  lines : l.draft.lines ++ flat_map unit_text (units_in l.rest) ≡ l.fn.draft.lines ++ flat_map unit_text (units_in l.field);
  before : l.draft.before ≡ l.fn.draft.before;
}

abbrev pub decreases-units : goal.decreases-units
decreases-units l = length l.rest
