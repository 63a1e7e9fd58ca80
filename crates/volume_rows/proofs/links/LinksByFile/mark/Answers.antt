use Rattle.std.proofs.Common.{refl}
use Rattle.fsa_model.specs.Volume.{Link}
use Rattle.key_index.proofs.RowLaws.{index-changed}
use Rattle.volume_rows.specs.Links.{file_key}
use Rattle.volume_rows.proofs.links.LinksByFile.mark.Goals as goal

pub invariant_of-self : goal.invariant_of-self
invariant_of-self c =
    let i = c.self.inside in (
      rw c.mark.ensures.rows (index-changed file_key (λ (row : Link). record row { deleted = c.args.deleted }) i.links.rows i.files.entries c.args.id (λ row. refl) c.self.invariant.0),
      rw c.mark.ensures.room c.self.invariant.1,
      c.self.invariant.2,
    )
