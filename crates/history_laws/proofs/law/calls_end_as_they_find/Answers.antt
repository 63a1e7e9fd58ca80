use Rattle.history_laws.proofs.EndsAsFound.{calls-end_as_found}
use Rattle.history_laws.proofs.law.calls_end_as_they_find.Goals as goal

pub returns : goal.returns
returns c = record { found = calls-end_as_found }
