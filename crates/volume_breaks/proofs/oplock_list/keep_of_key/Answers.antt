use Rattle.std.proofs.Common.{rules}
use Rattle.std.proofs.lemmas.Fn.{filter_same}
use Rattle.fsa_types.specs.OplockGrants.{is_of_key}
use Rattle.volume_breaks.proofs.oplock_list.keep_of_key.Goals as goal

pub returns-clause-rows : goal.returns-clause-rows
returns-clause-rows c = filter_same _ (is_of_key c.args.handle c.args.key) _ (λ x b f k. search rules) _ _ c.retain.ensures.filtered
