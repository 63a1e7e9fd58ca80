use Rattle.std.proofs.Common.{◌≡◌, ℕ, ◌<◌, true, get_or}
use Rattle.name_match.specs.Plan.{is_literal}
use Rattle.name_match.proofs.plan.literal_count.Given as goal

abbrev pub invariant-loop-count : goal.invariant-loop-count
invariant-loop-count l = (k : ℕ) → k < l.count → is_literal (get_or l.units k 0) ≡ true
