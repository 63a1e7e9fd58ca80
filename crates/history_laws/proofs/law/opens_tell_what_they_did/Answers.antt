use Rattle.history_laws.proofs.OpensTell.{opens-tell_what_they_did}
use Rattle.history_laws.proofs.law.opens_tell_what_they_did.Goals as goal

pub returns : goal.returns
returns c = record { told = opens-tell_what_they_did }
