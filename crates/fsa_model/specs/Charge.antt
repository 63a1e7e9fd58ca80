-- The space that streams take, in clusters, and what an owner is charged for it.
use Rattle.std.specs.Prelude.{ℕ, Bool, ◌*◌, ◌-◌, ◌^◌, ◌==◌, false, length, filter, sum_by}
use Rattle.std.specs.Option.{option_map_or}
use Rattle.fsa_types.specs.Clusters.{cluster_size, clusters_for}
use Rattle.fsa_types.specs.Rows.{row_of}
use Rattle.fsa_model.specs.Volume.{Volume}

-- the clusters that all streams take
abbrev pub clusters : Volume → ℕ
clusters v = sum_by (λ entry. clusters_for (length entry.1.bytes)) v.streams

-- the file is the owner's
abbrev pub is_owned_by : Volume → ℕ → ℕ → Bool
is_owned_by v owner file = option_map_or (λ row. row.owner == owner) (row_of v.files file) false

-- the bytes of the clusters of all streams of the owner's files
abbrev pub charge : Volume → ℕ → ℕ
charge v owner =
    sum_by (λ entry. cluster_size * clusters_for (length entry.1.bytes)) (filter (λ entry. is_owned_by v owner entry.1.file) v.streams)

-- the bytes of the clusters of all streams of a file
abbrev pub charge_of_file : Volume → ℕ → ℕ
charge_of_file v file = sum_by (λ entry. cluster_size * clusters_for (length entry.1.bytes)) (filter (λ entry. entry.1.file == file) v.streams)

-- the owner's limit, in bytes; one that isn't set is the largest number
abbrev pub limit : Volume → ℕ → ℕ
limit v owner = option_map_or (λ bytes. bytes) (row_of v.limits owner) (2 ^ 64 - 1)
