-- Laws on counts of faults, over one call after another.
use Rattle.std.proofs.Common.{ℕ, ◌-◌, ◌^◌, ◌<◌, ◌≤◌, arith}
use Rattle.wire_io.specs.Faults.{one_more, Rose}

-- a count that never falls and rises once has risen in all
pub Rose-later : (before mid now : ℕ) → before ≤ mid → Rose mid now → Rose before now
Rose-later before mid now later rose = grind arith

pub Rose-before : (before mid now : ℕ) → Rose before mid → mid ≤ now → Rose before now
Rose-before before mid now rose later = grind arith

-- one more than a count has risen
pub Rose-one_more : (before : ℕ) → Rose before (one_more before)
Rose-one_more before = omega arith

-- a count that stays, and isn't its last value, has not risen
pub not_Rose : (count : ℕ) → count < 2 ^ 64 - 1 → Rose count count → ⊥
not_Rose count below rose = omega arith
