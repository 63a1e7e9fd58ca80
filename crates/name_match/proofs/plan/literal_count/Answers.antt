use Rattle.std.proofs.Common.{sym, arith}
use Rattle.std.proofs.lemmas.List.Sums.{prefix_len_is}
use Rattle.name_match.specs.Plan.{is_literal}
use Rattle.name_match.proofs.plan.literal_count.Goals as goal

pub returns-then-not-is_literal-clause-count : goal.returns-then-not-is_literal-clause-count
returns-then-not-is_literal-clause-count c =
    sym (prefix_len_is is_literal c.args.units.now c.loop-count.count 0 (omega arith) c.loop-count.invariant (λ within. grind arith))

pub returns-clause-count : goal.returns-clause-count
returns-clause-count c = sym (prefix_len_is is_literal c.args.units.now _ 0 (omega arith) (λ k below. c.loop-count.invariant k (omega arith)) (λ within. absurd (omega arith)))
