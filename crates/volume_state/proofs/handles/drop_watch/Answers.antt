use Rattle.std.proofs.Common.{rules, not, ◌==◌}
use Rattle.std.proofs.lemmas.Fn.{filter_same}
use Rattle.volume_state.proofs.handles.drop_watch.Goals as goal

pub returns-clause-watches : goal.returns-clause-watches
returns-clause-watches c = filter_same _ (λ row. not (row.handle == c.args.handle)) _ (λ x b f k. search rules) _ _ c.retain.ensures.items
