use Rattle.std.proofs.Common.{◌∙◌, ap}
use Rattle.fsa_model.specs.Security.{with_change_time}
use Rattle.fsa_model.specs.Volume.{Volume}
use Rattle.op_link.proofs.moved.rename.Goals as goal

pub returns-clause-content : goal.returns-clause-content
returns-clause-content c =
    c.set_change_time.ensures.content
    ∙ ap (λ file. with_change_time c.replace_and_rename.new.volume.content file) c.file.ensures
    ∙ ap (λ (w : Volume). with_change_time w c.args.named.now.file) c.replace_and_rename.ensures.content
