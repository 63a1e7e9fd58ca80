use Rattle.volume_breaks.proofs.granting.end_one.Goals as goal

pub returns-clause-done : goal.returns-clause-done
returns-clause-done c = λ v. rw (← c.oplock.view_is) (c.end_pending.ensures.done v)
