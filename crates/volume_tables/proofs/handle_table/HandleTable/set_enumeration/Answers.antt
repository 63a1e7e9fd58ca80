use Rattle.std.proofs.Common.{refl, Some}
use Rattle.fsa_model.specs.Volume.{Handle}
use Rattle.volume_tables.proofs.IndexLaws.{AreIndexed-changed}
use Rattle.volume_tables.proofs.LockLemmas.{AreTabled-changed}
use Rattle.volume_tables.proofs.OpenLemmas.{AreShared-changed}
use Rattle.volume_tables.proofs.handle_table.HandleTable.set_enumeration.Goals as goal

pub invariant_of-self : goal.invariant_of-self
invariant_of-self c =
    let i = c.self.inside in
    let change = λ (row : Handle). record row { enumeration = Some c.args.enumeration } in (
      rw c.set_enumeration.ensures.rows (AreTabled-changed change i.table.rows i.locks.rows i.ranges c.args.id (λ row. refl) c.self.invariant.0),
      c.self.invariant.1,
      rw c.set_enumeration.ensures.rows (AreIndexed-changed change i.table.rows c.args.id i.index (λ row. refl) (λ row. refl) (λ row. refl) (λ row. refl) c.self.invariant.2),
      rw c.set_enumeration.ensures.room c.self.invariant.3,
      rw c.set_enumeration.ensures.rows (AreShared-changed change i.table.rows c.args.id i.shares (λ row. refl) (λ row. refl) (λ row. refl) (λ row. refl) c.self.invariant.4),
      c.self.invariant.5,
    )
