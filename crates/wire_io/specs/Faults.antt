-- When a count of faults has risen, and what a call that may fail says of it. No public standard speaks of this.
use Rattle.std.specs.Prelude.{◌≡◌, ℕ, ◌+◌, ◌-◌, ◌^◌, ◌≤◌, ◌⊎◌, min, Result, OnOk, OnErr}
use Rattle.wire_io.specs.declared.faults.Failed.{Failed}

-- a count after one more; it stands still at its last value
abbrev pub one_more : ℕ → ℕ
one_more count = min (count + 1) (2 ^ 64 - 1)

-- a count after so many more
abbrev pub more : ℕ → ℕ → ℕ
more count n = min (count + n) (2 ^ 64 - 1)

-- the count has risen; one that stands at its last value has risen
abbrev pub Rose : ℕ → ℕ → Type 0
Rose before now = one_more before ≤ now

-- a call raises the count by one where it failed, and leaves it where it didn't
pub record HasCause {T : Type 0} (before now : ℕ) (result : Result T Failed) : Type 0 where
  pub later : before ≤ now
  pub once : now ≤ before + 1
  pub succeeded : OnOk result (now ≡ before)
  pub failed : OnErr result (Rose before now)

-- one call alone failed, and none was made since
pub record FailsLast (before now since : ℕ) : Type 0 where
  pub rose : Rose before now
  pub once : now ≤ before + 1
  pub last : since ≡ 0

-- no call failed, or the last one alone did
abbrev pub StopsAtFault : ℕ → ℕ → ℕ → Type 0
StopsAtFault before now since = (now ≡ before) ⊎ FailsLast before now since
