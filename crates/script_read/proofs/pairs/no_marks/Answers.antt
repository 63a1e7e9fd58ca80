use Rattle.std.proofs.Common.{rules}
use Rattle.script_read.proofs.PairLemmas.{AreMarks-none}
use Rattle.script_read.proofs.pairs.no_marks.Goals as goal

pub returns : goal.returns
returns c = AreMarks-none c.in_ok-vec.field-0.items (search rules) c.in_ok-vec.ensures.items
