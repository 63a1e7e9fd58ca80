use Rattle.history_laws.proofs.AsAsked.{opens-and_locks_as_asked}
use Rattle.history_laws.proofs.law.opens_and_locks_leave_what_was_asked.Goals as goal

pub returns : goal.returns
returns c = record { asked = opens-and_locks_as_asked }
