-- Whether a stream may grow: the owner's limit, and then the space of the volume.
use Rattle.std.specs.Prelude.{ℕ, ◌+◌, ◌-◌, ◌*◌, nat_lt, nat_le, Option, Some, None, length, if◌then◌else◌}
use Rattle.std.specs.Option.{option_map_or}
use Rattle.fsa_types.specs.Clusters.{cluster_size, clusters_for}
use Rattle.fsa_types.specs.Rows.{row_of}
use Rattle.fsa_types.specs.declared.status.Status.{Status}
use Rattle.fsa_types.specs.declared.status.Status.TheVariants.{QuotaExceeded, DiskFull}
use Rattle.fsa_model.specs.Charge.{charge, clusters, limit}
use Rattle.fsa_model.specs.Lookups.{bytes_of}
use Rattle.fsa_model.specs.Volume.{Volume}

-- the clusters of the volume: 64 MiB
abbrev pub most_clusters : ℕ
most_clusters = 16384

-- the owner of the file of a stream
abbrev pub owner_of_stream : Volume → ℕ → ℕ
owner_of_stream v stream =
    option_map_or (λ row. option_map_or (λ file. file.owner) (row_of v.files row.file) 0) (row_of v.streams stream) 0

-- the clusters that a stream takes, and how many more it takes once it has so many bytes
abbrev pub clusters_of : Volume → ℕ → ℕ
clusters_of v stream = clusters_for (length (bytes_of v stream))

abbrev pub clusters_more : Volume → ℕ → ℕ → ℕ
clusters_more v stream bytes = clusters_for bytes - clusters_of v stream

-- why a stream can't have so many bytes, where clusters would be added: the charge of the owner would
-- pass his limit, or else the clusters of the volume would pass all that there are
abbrev pub growth_fault : Volume → ℕ → ℕ → Option Status
growth_fault v stream bytes =
    if nat_le (clusters_for bytes) (clusters_of v stream) then None
    else if nat_lt (limit v (owner_of_stream v stream)) (charge v (owner_of_stream v stream) + cluster_size * clusters_more v stream bytes)
    then Some QuotaExceeded
    else if nat_lt most_clusters (clusters v + clusters_more v stream bytes) then Some DiskFull
    else None
