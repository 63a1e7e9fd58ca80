use Rattle.volume_state.proofs.volume.Volume.packed_for.Goals as goal

pub take-requires : goal.take-requires
take-requires c = record { kept = rw c.log.ensures.base (rw (← c.self.view_is) at c.in-Some.ensures.kept) }
