-- Sums over the streams of a volume: that they fit, and what they are of the streams without their room.
use Rattle.std.proofs.Common.{◌≡◌, ℕ, Bool, ◌+◌, ◌^◌, ◌-◌, ◌<◌, ◌≤◌, List, length, get_or, ap, sym, ◌∙◌, arith}
use Rattle.std.specs.List.{All, filter, sum_by}
use Rattle.std.specs.Prelude.{map}
use Rattle.std.proofs.lemmas.List.{length-map, get_or-map}
use Rattle.std.proofs.lemmas.List.Folds.{fold-map}
use Rattle.std.proofs.lemmas.List.Sums.{sum_by-le}
use Rattle.fsa_types.specs.Rows.{IsNumbered}
use Rattle.fsa_types.proofs.RowLemmas.{length-numbered, map-filter_seen}
use Rattle.fsa_types.specs.Clusters.{clusters_for}
use Rattle.fsa_model.specs.Volume.{Stream}
use Rattle.volume_rows.specs.Streams.{StreamRowView, streams_in}

pub sum_by-map : {X Y : Type 0} (f : Y → ℕ) (g : X → Y) (xs : List X) → sum_by f (map g xs) ≡ sum_by (λ x. f (g x)) xs
sum_by-map f g xs = fold-map (λ a x. a + f x) g 0 xs

-- a sum of few and small terms fits
sum-fits : {X : Type 0} (f : X → ℕ) (xs : List X) → All (λ x. f x ≤ 2 ^ 27) xs → length xs < 2 ^ 32 → sum_by f xs < 2 ^ 64
sum-fits f xs small few = let sum = sum_by-le f (2 ^ 27) xs small in omega arith

-- where the streams are small, those that are kept with their room are
small-kept : (rows : List (ℕ × StreamRowView)) → All (λ entry. length entry.1.bytes ≤ 2 ^ 26) (streams_in rows) → All (λ entry. length entry.1.stream.bytes ≤ 2 ^ 26) rows
small-kept rows small k d within =
    let seen : ℕ × StreamRowView → ℕ × Stream = λ entry. (entry.0, entry.1.stream) in
    let at : length (get_or (streams_in rows) k (seen d)).1.bytes ≤ 2 ^ 26 = small k (seen d) (rw (length-map rows seen) within) in
    rw (get_or-map seen rows k d (seen d) within) at at

pub clusters-fit : (rows : List (ℕ × StreamRowView)) (last : ℕ) → IsNumbered rows last → last < 2 ^ 32 - 1 → All (λ entry. length entry.1.bytes ≤ 2 ^ 26) (streams_in rows)
    → sum_by (λ entry. clusters_for (length entry.1.stream.bytes)) rows < 2 ^ 64
clusters-fit rows last numbered few small =
    let count = length-numbered rows last numbered in
    sum-fits (λ entry. clusters_for (length entry.1.stream.bytes)) rows (λ k d within. let bound = small-kept rows small k d within in omega arith) (omega arith)

-- a sum over some of the streams is the one over their rows
pub sum-streams : (f : Stream → ℕ) (test : Stream → Bool) (rows : List (ℕ × StreamRowView))
    → sum_by (λ entry. f entry.1) (filter (λ entry. test entry.1) (streams_in rows)) ≡ sum_by (λ entry. f entry.1.stream) (filter (λ entry. test entry.1.stream) rows)
sum-streams f test rows =
    let seen : ℕ × StreamRowView → ℕ × Stream = λ entry. (entry.0, entry.1.stream) in
    ap (λ (streams : List (ℕ × Stream)). sum_by (λ entry. f entry.1) streams) (sym (map-filter_seen (λ kept. kept.stream) (λ entry. test entry.1) rows))
    ∙ sum_by-map (λ entry. f entry.1) seen (filter (λ entry. test entry.1.stream) rows)
