use Rattle.std.proofs.Common.{rules, not}
use Rattle.std.proofs.lemmas.Fn.{filter_same}
use Rattle.fsa_model.specs.Waiting.{is_granted_under}
use Rattle.volume_breaks.proofs.oplock_list.drop_granted.Goals as goal

pub returns-clause-rows : goal.returns-clause-rows
returns-clause-rows c = filter_same _ (λ oplock. not (is_granted_under c.args.turn oplock)) _ (λ x b f k. search rules) _ _ c.retain.ensures.filtered
