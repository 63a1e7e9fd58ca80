use Rattle.std.proofs.Common.{◌∙◌, ap}
use Rattle.std.specs.Prelude.{is_some}
use Rattle.fsa_model.specs.Edits.{is_call}
use Rattle.fsa_machine.proofs.WaitingLaws.{number_of-has}
use Rattle.fsa_machine.proofs.waiting.is_pending.Goals as goal

pub returns : goal.returns
returns c = c.is_some.ensures ∙ ap is_some c.pending_turn.ensures ∙ number_of-has (is_call c.args.client c.args.number) c.args.volume.now.content.pending
