use Rattle.std.proofs.Common.{ap, arith}
use Rattle.volume_rows.specs.Links.{FileLinks}
use Rattle.volume_tables.proofs.DirectoryLaws.{ByDirectory-empty}
use Rattle.volume_tables.proofs.link_table.LinkTable.new.Goals as goal

pub invariant_of-result : goal.invariant_of-result
invariant_of-result c = (
  rw c.new-3.ensures (omega arith),
  λ dir. rw c.new-3.ensures (omega arith),
  ByDirectory-empty c.args.table _ _ (ap (λ (l : FileLinks). l.rows) c.new.ensures) c.new-2.ensures,
)
