use Rattle.history_laws.proofs.PendingStay.{pending-stay}
use Rattle.history_laws.proofs.law.pending_calls_stay.Goals as goal

pub returns : goal.returns
returns c = record { stay = pending-stay }
