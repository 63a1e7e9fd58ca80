use Rattle.fsa_model.specs.Lookups.{is_on}
use Rattle.op_parts.proofs.HandleLaws.{any-count}
use Rattle.op_parts.proofs.handles.is_any_open.Goals as goal

pub returns : goal.returns
returns c = rw c.handles_on.ensures (any-count (λ entry. is_on c.args.volume.now.content c.args.on entry.1) c.args.volume.now.content.handles)
