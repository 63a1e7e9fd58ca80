use Rattle.std.proofs.Common.{◌∙◌, ap, sym, length}
use Rattle.key_index.proofs.RowLaws.{index-length}
use Rattle.volume_rows.specs.Links.{file_key}
use Rattle.volume_rows.proofs.links.LinksByFile.count_of.Goals as goal

pub returns-clause-count : goal.returns-clause-count
returns-clause-count c =
    let i = c.self.inside in
    rw (← c.self.view_is) (ap length c.of.ensures ∙ sym (index-length file_key i.links.rows i.files.entries c.args.file c.self.invariant.0))
