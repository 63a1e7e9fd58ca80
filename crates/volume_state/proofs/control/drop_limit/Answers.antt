use Rattle.std.proofs.Common.{rules, not, ◌==◌}
use Rattle.std.proofs.lemmas.Fn.{filter_same}
use Rattle.volume_state.proofs.control.drop_limit.Goals as goal

pub returns-clause-items : goal.returns-clause-items
returns-clause-items c = filter_same _ (λ entry. not (entry.0 == c.args.sid)) _ (λ x b f k. search rules) _ _ c.retain.ensures.items
