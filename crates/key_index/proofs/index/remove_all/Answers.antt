use Rattle.std.proofs.Common.{◌∙◌}
use Rattle.key_index.proofs.index.remove_all.Goals as goal

pub returns-clause-entries : goal.returns-clause-entries
returns-clause-entries c = c.remove_part.ensures.items ∙ rw c.as_slice.ensures at c.part_at-begin.ensures.others
