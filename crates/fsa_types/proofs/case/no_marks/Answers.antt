use Rattle.std.proofs.Common.{rules}
use Rattle.fsa_types.proofs.CaseTableLemmas.{AreMarks-none}
use Rattle.fsa_types.proofs.case.no_marks.Goals as goal

pub returns : goal.returns
returns c = AreMarks-none c.in_ok-vec.field-0.items (search rules) c.in_ok-vec.ensures.items
