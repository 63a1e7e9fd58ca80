use Rattle.std.proofs.Common.{◌≡◌, drop}
use Rattle.fsa_model.specs.Waiting.{is_notify_on}
use Rattle.volume_state.specs.Waits.{first_turn, lesser}
use Rattle.volume_state.proofs.due.next_notify.Given as goal

abbrev pub invariant-loop-entry : goal.invariant-loop-entry
invariant-loop-entry l =
    lesser l.first (first_turn (is_notify_on l.client l.handle) (drop l.entry-index l.pending)) ≡ lesser l.fn.first (first_turn (is_notify_on l.client l.handle) l.pending)
