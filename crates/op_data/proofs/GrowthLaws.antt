-- A stream that may grow has at most 2 ^ 26 bytes then.
use Rattle.std.proofs.Common.{◌≡◌, ℕ, ◌+◌, ◌^◌, ◌<◌, ◌≤◌, true, false, List, [], ◌∷◌, length, arith, inl, inr}
use Rattle.std.specs.Prelude.{◌==◌, sum_by, nat_lt}
use Rattle.std.specs.Option.{option_map_or}
use Rattle.std.proofs.lemmas.Bool.{cases_Bool}
use Rattle.std.proofs.lemmas.Bool.Decides.{leb_tells}
use Rattle.std.proofs.lemmas.List.Sums.{sum_by-cons}
use Rattle.fsa_types.specs.Rows.{row_of}
use Rattle.fsa_types.specs.Clusters.{clusters_for}
use Rattle.fsa_model.specs.Charge.{clusters}
use Rattle.fsa_model.specs.Growth.{clusters_of, clusters_more, most_clusters}
use Rattle.fsa_model.specs.Volume.{Stream, Volume}

-- what fits into all clusters
fits-clusters : (bytes : ℕ) → clusters_for bytes ≤ 16384 → bytes ≤ 2 ^ 26
fits-clusters bytes few = omega arith

-- a stream takes no more clusters than all do
row-le-clusters : (rows : List (ℕ × Stream)) (stream : ℕ)
    → clusters_for (length (option_map_or (λ row. row.bytes) (row_of rows stream) [])) ≤ sum_by (λ entry. clusters_for (length entry.1.bytes)) rows
row-le-clusters [] stream = omega arith
row-le-clusters (entry ∷ rows) stream =
    let sum = sum_by-cons (λ (e : ℕ × Stream). clusters_for (length e.1.bytes)) entry rows in
    elim (cases_Bool (entry.0 == stream)) [
      | inl here ↦ rw here (omega arith)
      | inr later ↦ (let rest = row-le-clusters rows stream in rw later (omega arith))
    ]

clusters_of-le : (v : Volume) (stream : ℕ) → clusters_of v stream ≤ clusters v
clusters_of-le v stream = row-le-clusters v.streams stream

-- what grows within the space of the volume is no longer than that
pub space_fits : (v : Volume) (stream bytes : ℕ) → clusters_of v stream < clusters_for bytes → nat_lt most_clusters (clusters v + clusters_more v stream bytes) ≡ false → bytes ≤ 2 ^ 26
space_fits v stream bytes more fits =
    let one = clusters_of-le v stream in
    elim (leb_tells 16385 (clusters v + clusters_more v stream bytes)) [
      | inl full ↦ (let impossible : true ≡ false = rw full.0 at fits in cc)
      | inr left ↦ fits-clusters bytes (omega (arith, left.1))
    ]
