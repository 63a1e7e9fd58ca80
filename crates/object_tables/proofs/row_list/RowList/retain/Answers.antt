use Rattle.fsa_types.proofs.RowLemmas.{IsNumbered-where}
use Rattle.object_tables.proofs.row_list.RowList.retain.Goals as goal

pub invariant_of-self : goal.invariant_of-self
invariant_of-self g c =
    let kept = c.retain.ensures.items in
    rw kept.4 (IsNumbered-where kept.0 _ _ c.self.invariant)
