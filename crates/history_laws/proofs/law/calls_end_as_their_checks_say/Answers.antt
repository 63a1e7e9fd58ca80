use Rattle.history_laws.proofs.CallChecks.{calls-end_as_their_checks_say}
use Rattle.history_laws.proofs.law.calls_end_as_their_checks_say.Goals as goal

pub returns : goal.returns
returns c = record { checked = calls-end_as_their_checks_say }
