-- What each owner is charged, how many clusters there are in all, and how both change.
use Rattle.std.specs.Prelude.{◌≡◌, ℕ, List, ◌+◌, ◌*◌, ◌^◌, ◌≤◌, ◌<◌, ◌==◌, IsSome, if◌then◌else◌}
use Rattle.fsa_types.specs.Clusters.{cluster_size}
use Rattle.fsa_types.specs.Rows.{row_of}
use Rattle.tallies.specs.Charges.{sum_of}

-- the owners with what they are charged, in bytes; how many more owners can be admitted without taking memory;
-- and the clusters of all streams
pub record Space : Type 0 where
  pub sums : List (ℕ × ℕ)
  pub room : ℕ
  pub clusters : ℕ

-- the bytes of so many clusters of one owner's, as far as they are another one's: all, where both are the same
abbrev pub share : ℕ → ℕ → ℕ → ℕ
share owner other clusters = if owner == other then cluster_size * clusters else 0

-- the owner is there and charged for the clusters before, and with those after all sums fit
pub record MayResize (space : Space) (owner before after : ℕ) : Type 0 where
  pub there : IsSome (row_of space.sums owner)
  pub charged : cluster_size * before ≤ sum_of space.sums owner
  pub counted : before ≤ space.clusters
  pub fits : sum_of space.sums owner + cluster_size * after < 2 ^ 64
  pub few : space.clusters + after < 2 ^ 64

-- the owner is charged for the clusters after in place of those before, and all others as they were
pub record Resizes (old new : Space) (owner before after : ℕ) : Type 0 where
  pub charges : (other : ℕ) → sum_of new.sums other + share owner other before ≡ sum_of old.sums other + share owner other after
  pub clusters : new.clusters + before ≡ old.clusters + after
  pub there : (other : ℕ) → IsSome (row_of old.sums other) → IsSome (row_of new.sums other)
  pub room : new.room ≡ old.room

-- the one owner is charged for so many clusters less, and the other for so many more
pub record HandsOver (old new : Space) (from to many : ℕ) : Type 0 where
  pub charges : (other : ℕ) → sum_of new.sums other + share from other many ≡ sum_of old.sums other + share to other many
  pub clusters : new.clusters ≡ old.clusters
  pub there : (other : ℕ) → IsSome (row_of old.sums other) → IsSome (row_of new.sums other)
  pub room : new.room ≡ old.room

-- the owner is there, and everybody is charged what he was
pub record Admits (old new : Space) (owner : ℕ) : Type 0 where
  pub charges : (other : ℕ) → sum_of new.sums other ≡ sum_of old.sums other
  pub clusters : new.clusters ≡ old.clusters
  pub here : IsSome (row_of new.sums owner)
  pub there : (other : ℕ) → IsSome (row_of old.sums other) → IsSome (row_of new.sums other)
  pub left : old.room ≤ new.room + 1
