use Rattle.std.proofs.Common.{◌∙◌, ap}
use Rattle.fsa_model.specs.Rename.{with_link_renamed}
use Rattle.fsa_model.specs.Volume.{Volume}
use Rattle.op_link.proofs.moved.rename_in_place.Goals as goal

pub returns-clause-content : goal.returns-clause-content
returns-clause-content c =
    c.rename_link.ensures.content ∙ ap (λ (w : Volume). with_link_renamed w c.args.named.now c.args.dir) c.make_way.ensures.content
