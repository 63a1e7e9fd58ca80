use Rattle.history_laws.proofs.NamingSteps.{namings-end_as_their_steps_say}
use Rattle.history_laws.proofs.law.renames_and_links_end_as_their_steps_say.Goals as goal

pub returns : goal.returns
returns c = record { ended = namings-end_as_their_steps_say }
