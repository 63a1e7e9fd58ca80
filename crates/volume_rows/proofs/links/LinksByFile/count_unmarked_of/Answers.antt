use Rattle.std.proofs.Common.{◌∙◌, sym}
use Rattle.std.specs.Prelude.{not}
use Rattle.key_index.proofs.RowLaws.{index-counted}
use Rattle.volume_rows.specs.Links.{file_key}
use Rattle.volume_rows.proofs.links.LinksByFile.count_unmarked_of.Goals as goal

pub returns : goal.returns
returns c =
    let i = c.self.inside in
    rw (← c.self.view_is) ((rw c.of.ensures at c.count_unmarked.ensures)
    ∙ sym (index-counted file_key i.links.rows i.links.last i.files.entries c.args.file (λ entry. not entry.1.deleted) c.len-numbered.ensures.numbered c.self.invariant.0))
