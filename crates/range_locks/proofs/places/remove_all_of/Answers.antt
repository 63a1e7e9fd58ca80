use Rattle.std.proofs.Common.{rules, not}
use Rattle.std.proofs.lemmas.Fn.{filter_same}
use Rattle.range_locks.specs.RangeTable.{is_range_of}
use Rattle.range_locks.proofs.places.remove_all_of.Goals as goal

pub returns-clause-ranges : goal.returns-clause-ranges
returns-clause-ranges c = filter_same _ (λ range. not (is_range_of c.args.handle range)) _ (λ x b f k. search rules) _ _ c.retain.ensures.items
