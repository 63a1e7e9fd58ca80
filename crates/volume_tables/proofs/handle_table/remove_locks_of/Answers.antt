use Rattle.std.proofs.Common.{rules, not, ◌==◌}
use Rattle.std.proofs.lemmas.Fn.{filter_same}
use Rattle.volume_tables.proofs.handle_table.remove_locks_of.Goals as goal

pub returns-then-some-clause-rows : goal.returns-then-some-clause-rows
returns-then-some-clause-rows c = filter_same _ (λ entry. not (entry.1.handle == c.args.handle)) _ (λ x b f k. search rules) _ _ c.retain.ensures.rows
