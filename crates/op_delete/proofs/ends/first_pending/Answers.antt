use Rattle.std.proofs.Common.{◌≡◌, [], false}
use Rattle.std.specs.List.{list_any}
use Rattle.std.specs.Prelude.{nat_lt}
use Rattle.volume_state.proofs.OpenLaws.{IfNone-map}
use Rattle.op_delete.proofs.EndLaws.{found-pending, least-next, none-below_0, none-pending, not-pending}
use Rattle.op_delete.proofs.ends.first_pending.Goals as goal

pub returns-in-Some-clause-lives : goal.returns-in-Some-clause-lives
returns-in-Some-clause-lives c = found-pending c.args.volume.now.content.pending 0 c.in-Some.field-0.now c.in-Some.ensures.row

pub returns-in-Some-clause-least : goal.returns-in-Some-clause-least
returns-in-Some-clause-least c = none-below_0 c.args.volume.now.content.pending

pub returns-in-None-clause-least : goal.returns-in-None-clause-least
returns-in-None-clause-least c =
    least-next c.args.volume.now.content c.next_pending-later.result c.next_pending-later.ensures.found (not-pending c.args.volume.now.content.pending 0 c.in-None.ensures.lives)

pub returns-in-None-clause-none : goal.returns-in-None-clause-none
returns-in-None-clause-none c =
    IfNone-map (list_any (λ entry. nat_lt 0 entry.0) c.args.volume.now.content.pending ≡ false) (c.args.volume.now.content.pending ≡ []) c.next_pending-later.result
    (none-pending c.args.volume.now.content.pending (not-pending c.args.volume.now.content.pending 0 c.in-None.ensures.lives)) c.next_pending-later.ensures.none
