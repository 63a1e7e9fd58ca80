use Rattle.history_laws.proofs.OpenChecks.{opens-end_as_their_checks_say}
use Rattle.history_laws.proofs.law.opens_end_as_their_checks_say.Goals as goal

pub returns : goal.returns
returns c = record { checked = opens-end_as_their_checks_say }
