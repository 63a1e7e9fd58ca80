use Rattle.std.proofs.Common.{◌≡◌, ◌<◌, ◌≤◌, length}
use Rattle.std.specs.Prelude.{drop, take}
use Rattle.std.specs.List.Sorted.{IsPartitionPoint}
use Rattle.std.proofs.lemmas.List.{drop-drop, length-take-le}
use Rattle.key_index.proofs.KeyLemmas.{end-here, part-here, part-others, place-here}
use Rattle.key_index.proofs.search.part_at.Goals as goal

pub returns-clause-part : goal.returns-clause-part
returns-clause-part c =
    let high : IsPartitionPoint (λ e. e.0 ≤ c.args.key) (λ e. c.args.key < e.0) (drop c.begin_of-begin.result c.args.entries.now) c.near_end_of.result = rw c.split_at.ensures.back at c.near_end_of.ensures.point in
    rw (c.split_at-2.ensures.front, c.split_at.ensures.back) (part-here c.args.entries.now c.begin_of-begin.result c.near_end_of.result c.args.key c.begin_of-begin.ensures.point high)

pub returns-clause-places : goal.returns-clause-places
returns-clause-places c number =
    let high : IsPartitionPoint (λ e. e.0 ≤ c.args.key) (λ e. c.args.key < e.0) (drop c.begin_of-begin.result c.args.entries.now) c.near_end_of.result = rw c.split_at.ensures.back at c.near_end_of.ensures.point in
    rw (c.split_at-2.ensures.front, c.split_at.ensures.back) (place-here c.args.entries.now c.begin_of-begin.result c.near_end_of.result c.args.key number c.begin_of-begin.ensures.point high)

pub returns-clause-end : goal.returns-clause-end
returns-clause-end c =
    let xs = c.args.entries.now in
    let i = c.begin_of-begin.result in
    let j = c.near_end_of.result in
    let high : IsPartitionPoint (λ e. e.0 ≤ c.args.key) (λ e. c.args.key < e.0) (drop i xs) j = rw c.split_at.ensures.back at c.near_end_of.ensures.point in
    let bound : j ≤ length (drop i xs) = rw c.split_at.ensures.back at c.near_end_of.ensures.bound in
    let many : length (take j (drop i xs)) ≡ j = length-take-le j (drop i xs) bound in
    rw (c.split_at-2.ensures.front, c.split_at.ensures.back, many) (end-here xs i j c.args.key c.begin_of-begin.ensures.point high)

pub returns-clause-others : goal.returns-clause-others
returns-clause-others c =
    let xs = c.args.entries.now in
    let i = c.begin_of-begin.result in
    let j = c.near_end_of.result in
    let high : IsPartitionPoint (λ e. e.0 ≤ c.args.key) (λ e. c.args.key < e.0) (drop i xs) j = rw c.split_at.ensures.back at c.near_end_of.ensures.point in
    let bound : j ≤ length (drop i xs) = rw c.split_at.ensures.back at c.near_end_of.ensures.bound in
    let many : length (take j (drop i xs)) ≡ j = length-take-le j (drop i xs) bound in
    rw (c.split_at-2.ensures.front, c.split_at.ensures.back, many, ← drop-drop j i xs) (part-others xs i j c.args.key c.begin_of-begin.ensures.point high)
