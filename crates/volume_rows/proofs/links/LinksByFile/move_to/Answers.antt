use Rattle.std.proofs.Common.{refl}
use Rattle.fsa_model.specs.Volume.{Link}
use Rattle.key_index.proofs.RowLaws.{index-changed}
use Rattle.volume_rows.specs.Links.{file_key}
use Rattle.volume_rows.proofs.links.LinksByFile.move_to.Goals as goal

pub invariant_of-self : goal.invariant_of-self
invariant_of-self c =
    let i = c.self.inside in (
      rw c.move_to.ensures.rows (index-changed file_key (λ (row : Link). record row { parent = c.args.parent; name = c.args.name }) i.links.rows i.files.entries c.args.id (λ row. refl) c.self.invariant.0),
      rw c.move_to.ensures.room c.self.invariant.1,
      c.self.invariant.2,
    )
