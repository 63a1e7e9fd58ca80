use Rattle.history_laws.proofs.OplockChanges.{oplocks-change_for_cause}
use Rattle.history_laws.proofs.law.oplocks_change_for_a_cause.Goals as goal

pub returns : goal.returns
returns c = record { cause = oplocks-change_for_cause }
