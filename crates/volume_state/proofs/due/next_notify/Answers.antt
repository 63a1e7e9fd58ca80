use Rattle.std.proofs.Common.{ℕ, ◌+◌, ◌∙◌, ap, sym, drop}
use Rattle.std.specs.Prelude.{Option}
use Rattle.fsa_model.specs.Waiting.{is_notify_on}
use Rattle.volume_state.specs.Waits.{first_turn, lesser}
use Rattle.volume_state.proofs.WaitLaws.{first_turn-more}
use Rattle.volume_state.proofs.due.next_notify.Goals as goal

pub loop-entry-preserved : goal.loop-entry-preserved
loop-entry-preserved c =
    ap (λ (first : Option ℕ). lesser first (first_turn (is_notify_on c.args.client c.args.handle) (drop (c.loop-entry.entry-index + 1) c.args.pending.now))) c.with_notify-first.ensures
    ∙ sym (first_turn-more (is_notify_on c.args.client c.args.handle) c.args.pending.now c.loop-entry.entry-index c.entry-item.result c.loop-entry.first c.loop-entry-test.true c.entry-item.is)
    ∙ c.loop-entry.invariant
