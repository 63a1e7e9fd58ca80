use Rattle.volume_state.proofs.volume.Volume.due_size.Goals as goal

pub due_size-requires : goal.due_size-requires
due_size-requires c = record { kept = rw c.log.ensures.base (rw (← c.self.view_is) at c.in-Some.ensures.kept) }
