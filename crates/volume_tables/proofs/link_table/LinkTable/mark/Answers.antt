use Rattle.std.proofs.Common.{refl}
use Rattle.volume_tables.proofs.DirectoryLaws.{ByDirectory-marked}
use Rattle.volume_tables.proofs.link_table.LinkTable.mark.Goals as goal

pub invariant_of-self : goal.invariant_of-self
invariant_of-self c =
    let i = c.self.inside in (
      rw c.mark.ensures c.self.invariant.0,
      c.self.invariant.1,
      rw c.mark.ensures (ByDirectory-marked i.table (λ row. record row { deleted = c.args.deleted }) c.args.id (λ link. refl) (λ link. refl) i.links.rows i.names c.self.invariant.2),
    )
