use Rattle.fsa_model.proofs.PackedLaws.{packed_text-rows}
use Rattle.fsa_model.proofs.law.packed_rows_are_printed.Goals as goal

pub returns : goal.returns
returns c = record { rows = packed_text-rows }
