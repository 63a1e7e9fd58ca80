use Rattle.std.proofs.Common.{ap, ◌∙◌}
use Rattle.fsa_model.specs.Close.{with_closed, with_mark_on_close, with_swept}
use Rattle.fsa_model.specs.Volume.{Volume}
use Rattle.op_delete.proofs.close.close.Goals as goal

pub returns-clause-content : goal.returns-clause-content
unfolding with_closed
returns-clause-content c =
    c.mark_and_sweep.ensures.content
    ∙ ap (λ (w : Volume). with_swept (with_mark_on_close w c.args.handle.now) c.args.handle.now) c.take_out.ensures.content
