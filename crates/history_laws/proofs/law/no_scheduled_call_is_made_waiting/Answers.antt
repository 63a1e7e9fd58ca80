use Rattle.history_laws.proofs.ScheduledCalls.{Scheduled-free}
use Rattle.history_laws.proofs.law.no_scheduled_call_is_made_waiting.Goals as goal

pub returns : goal.returns
returns c = record { free = Scheduled-free }
