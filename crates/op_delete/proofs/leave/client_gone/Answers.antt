use Rattle.std.proofs.Common.{ap}
use Rattle.fsa_model.specs.Volume.{Volume}
use Rattle.op_delete.proofs.LeaveLaws.{with_client_gone-steps}
use Rattle.op_delete.proofs.leave.client_gone.Goals as goal

pub returns-clause-content : goal.returns-clause-content
returns-clause-content c =
    with_client_gone-steps c.args.volume.now.content c.end_calls.new.volume.content c.close_all.new.volume.content c.leave.new.self.content c.args.client c.end_calls.ensures.content
    (ap (λ (w : Volume). w.handles) c.end_calls.ensures.rest) c.close_all.ensures.content c.leave.ensures.content
