-- The clusters that the space of the volume is counted in.
use Rattle.std.specs.Prelude.{ℕ, ◌+◌, ◌-◌, ◌/◌}

-- the bytes of a cluster
abbrev pub cluster_size : ℕ
cluster_size = 4096

-- the clusters that so many bytes take
abbrev pub clusters_for : ℕ → ℕ
clusters_for bytes = (bytes + (cluster_size - 1)) / cluster_size
