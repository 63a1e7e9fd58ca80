use Rattle.std.proofs.Common.{◌≡◌, drop}
use Rattle.std.specs.List.{list_any}
use Rattle.volume_state.specs.Waits.{first_turn, lesser}
use Rattle.volume_state.specs.Watches.{is_due_on}
use Rattle.volume_state.proofs.due.next_among.Given as goal

abbrev pub invariant-loop-row : goal.invariant-loop-row
invariant-loop-row l =
    lesser l.first (first_turn (λ call. list_any (λ row. is_due_on l.volume.content row call) (drop l.row-index l.rows)) l.pending)
    ≡ first_turn (λ call. list_any (λ row. is_due_on l.volume.content row call) l.rows) l.pending
