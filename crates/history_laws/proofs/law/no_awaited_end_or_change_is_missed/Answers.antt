use Rattle.history_laws.proofs.NoneMissed.{nothing-missed}
use Rattle.history_laws.proofs.law.no_awaited_end_or_change_is_missed.Goals as goal

pub returns : goal.returns
returns c = record { missed = nothing-missed }
