use Rattle.std.proofs.Common.{◌∙◌, sym}
use Rattle.key_index.proofs.RowLaws.{index-first}
use Rattle.volume_rows.specs.Links.{file_key}
use Rattle.volume_rows.proofs.links.LinksByFile.number_of.Goals as goal

pub returns : goal.returns
returns c =
    let i = c.self.inside in
    rw (← c.self.view_is) (c.first.ensures ∙ sym (index-first file_key i.links.rows i.files.entries c.args.file c.self.invariant.0))
