use Rattle.std.proofs.Common.{◌<◌, length}
use Rattle.std.specs.Prelude.{option_map}
use Rattle.fsa_types.specs.Rows.{row_of}
use Rattle.fsa_types.specs.declared.request.Call.{Call}
use Rattle.fsa_model.specs.Volume.{Pending}
use Rattle.fsa_model.proofs.RowLaws.{found-all, lent-row}
use Rattle.volume_state.specs.Content.{content_of}
use Rattle.volume_state.proofs.PendingLaws.{IfSome-map, lent-living}
use Rattle.volume_state.proofs.volume.Volume.pending.Goals as goal

pub returns-clause-lives : goal.returns-clause-lives
returns-clause-lives c =
    rw (← c.self.view_is) (lent-living (λ (row : Pending). row.call) c.self.inside.pending.items c.args.turn c.call_of.result c.call_of.ensures)

pub returns-clause-client : goal.returns-clause-client
returns-clause-client c =
    let rows = c.self.inside.pending.items in
    rw (← c.self.view_is)
    (lent-row (λ (call : Call). call.client < length (content_of c.self.inside).clients) c.call_of.result (option_map (λ (row : Pending). row.call) (row_of rows c.args.turn)) c.call_of.ensures
    (IfSome-map (λ (call : Call). call.client < length (content_of c.self.inside).clients) (λ (row : Pending). row.call) (row_of rows c.args.turn)
    (found-all (λ (row : Pending). row.call.client < length (content_of c.self.inside).clients) rows c.args.turn c.self.invariant.0.pending.have_clients)))
