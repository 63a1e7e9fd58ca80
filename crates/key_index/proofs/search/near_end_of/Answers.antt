use Rattle.std.proofs.Common.{ℕ, List, ◌<◌, ◌≤◌, arith, length, take}
use Rattle.std.specs.List.Sorted.{IsPartitionPoint}
use Rattle.std.proofs.lemmas.List.{length-take-le}
use Rattle.key_index.proofs.KeyLemmas.{end-near}
use Rattle.key_index.proofs.search.near_end_of.Goals as goal

pub returns-clause-point : goal.returns-clause-point
returns-clause-point c =
    let xs = c.args.entries.now in
    let n = c.reach_of.result in
    let j = c.end_of.result in
    let near : IsPartitionPoint (λ e. e.0 ≤ c.args.key) (λ e. c.args.key < e.0) (take n xs) j = rw c.split_at.ensures.front at c.end_of.ensures.point in
    let bound : j ≤ length (take n xs) = rw c.split_at.ensures.front at c.end_of.ensures.bound in
    let within : j ≤ n = omega (arith, length-take-le n xs c.reach_of.ensures.bound) in
    end-near xs n j c.args.key c.requires.rising c.reach_of.ensures.bound within c.reach_of.ensures.behind near
