use Rattle.history_laws.proofs.WaitedFor.{free-over, succeeded-ended, waits-over}
use Rattle.history_laws.proofs.law.calls_come_after_waits.Goals as goal

pub returns : goal.returns
returns c = record { success = succeeded-ended; over = waits-over; free = free-over }
