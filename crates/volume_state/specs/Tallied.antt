-- What owners are charged for streams, by the files and the streams alone, and a tally that has just that.
use Rattle.std.specs.Prelude.{◌≡◌, ℕ, List, ◌*◌, ◌==◌, false, length, filter, sum_by, All, Option, option_map, option_and_then, IsSome}
use Rattle.std.specs.Option.{option_map_or}
use Rattle.fsa_types.specs.Rows.{row_of}
use Rattle.fsa_types.specs.Clusters.{cluster_size, clusters_for}
use Rattle.fsa_model.specs.Volume.{File, Stream}
use Rattle.tallies.specs.Charges.{sum_of}
use Rattle.volume_tables.specs.Space.{Space}

-- the bytes of the clusters of all streams of the owner's files
abbrev pub charged : List (ℕ × File) → List (ℕ × Stream) → ℕ → ℕ
charged files streams owner =
    sum_by (λ entry. cluster_size * clusters_for (length entry.1.bytes)) (filter (λ entry. option_map_or (λ row. row.owner == owner) (row_of files entry.1.file) false) streams)

-- the clusters of all streams, and of those of one file
abbrev pub clusters_of_all : List (ℕ × Stream) → ℕ
clusters_of_all streams = sum_by (λ entry. clusters_for (length entry.1.bytes)) streams

abbrev pub clusters_of_file : List (ℕ × Stream) → ℕ → ℕ
clusters_of_file streams file = clusters_of_all (filter (λ entry. entry.1.file == file) streams)

-- the clusters of a stream; 0 where there is none
abbrev pub clusters_at : List (ℕ × Stream) → ℕ → ℕ
clusters_at streams stream = option_map_or (λ row. clusters_for (length row.bytes)) (row_of streams stream) 0

-- the owner who is charged for a stream, with its clusters
abbrev pub part_of_stream : List (ℕ × File) → List (ℕ × Stream) → ℕ → Option (ℕ × ℕ)
part_of_stream files streams stream =
    option_and_then (λ row. option_map (λ file. (file.owner, clusters_for (length row.bytes))) (row_of files row.file)) (row_of streams stream)

-- the owner who is charged for a file, with the clusters of its streams
abbrev pub part_of_file : List (ℕ × File) → List (ℕ × Stream) → ℕ → Option (ℕ × ℕ)
part_of_file files streams file = option_map (λ row. (row.owner, clusters_of_file streams file)) (row_of files file)

-- each owner has the sum that he is charged, the clusters are those of all streams, and the owner of each file
-- is there
pub record AreTallied (files : List (ℕ × File)) (streams : List (ℕ × Stream)) (space : Space) : Type 0 where
  pub charges : (owner : ℕ) → sum_of space.sums owner ≡ charged files streams owner
  pub clusters : space.clusters ≡ clusters_of_all streams
  pub owners : All (λ entry. IsSome (row_of space.sums entry.1.owner)) files
