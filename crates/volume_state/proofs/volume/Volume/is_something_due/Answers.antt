use Rattle.volume_state.proofs.volume.Volume.is_something_due.Goals as goal

pub is_something_due-requires : goal.is_something_due-requires
is_something_due-requires c = record { kept = rw c.log.ensures.base (rw (← c.self.view_is) at c.in-Some.ensures.kept) }
