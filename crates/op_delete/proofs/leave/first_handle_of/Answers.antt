use Rattle.std.proofs.Common.{◌≡◌, false, sym}
use Rattle.std.specs.Prelude.{◌==◌}
use Rattle.fsa_model.specs.Lookups.{has_row, is_after}
use Rattle.volume_state.proofs.OpenLaws.{IfNone-map}
use Rattle.op_delete.proofs.LeaveLaws.{IsFirst-0, IsFirst-later, none_of_client}
use Rattle.op_delete.proofs.leave.first_handle_of.Goals as goal

pub returns-in-Some-clause-first : goal.returns-in-Some-clause-first
returns-in-Some-clause-first c = IsFirst-0 c.args.volume.now.content c.args.client c.in-Some.id c.in-Some.ensures.opened

pub returns-in-None-clause-first : goal.returns-in-None-clause-first
returns-in-None-clause-first c =
    IsFirst-later c.args.volume.now.content c.args.client c.next_handle_of-later.result c.next_handle_of-later.ensures.numbers c.next_handle_of-later.ensures.differ (sym c.in-None.ensures.found)
    c.next_handle_of-later.ensures.found

pub returns-in-None-clause-none : goal.returns-in-None-clause-none
returns-in-None-clause-none c =
    IfNone-map (has_row (is_after c.args.client 0) c.args.volume.now.content.handles ≡ false) (has_row (λ row. row.client == c.args.client) c.args.volume.now.content.handles ≡ false)
    c.next_handle_of-later.result (none_of_client c.args.volume.now.content c.args.client (sym c.in-None.ensures.found)) c.next_handle_of-later.ensures.none
