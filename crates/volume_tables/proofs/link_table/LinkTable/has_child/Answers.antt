use Rattle.std.proofs.Common.{ℕ, None, ◌∙◌}
use Rattle.fsa_model.specs.QueryDir.{is_listed_before}
use Rattle.fsa_model.specs.Volume.{Link}
use Rattle.fsa_model.proofs.RowLaws.{any-same}
use Rattle.std.specs.Prelude.{◌==◌}
use Rattle.volume_rows.specs.Children.{is_child_after}
use Rattle.link_index.proofs.ChildLemmas.{any-listed, first-each}
use Rattle.volume_tables.proofs.link_table.LinkTable.has_child.Goals as goal

pub returns : goal.returns
returns c =
    let t = c.args.self.now in
    rw (c.is_empty.ensures, c.children_after.ensures)
    (any-listed (is_listed_before t.table) (λ (e : ℕ × Link). is_child_after t.table c.args.dir None e.1) t.rows
    ∙ any-same (λ (e : ℕ × Link). is_child_after t.table c.args.dir None e.1) (λ e. e.1.parent == c.args.dir) t.rows (λ e. first-each t.table c.args.dir e.1))
