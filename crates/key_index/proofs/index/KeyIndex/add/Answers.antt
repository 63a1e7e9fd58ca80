use Rattle.std.proofs.Common.{ℕ, ◌+◌, ◌<◌, ◌≤◌, length, arith}
use Rattle.std.specs.List.Sorted.{IsPartitionPoint}
use Rattle.std.proofs.lemmas.List.Sorted.{IsNonDecreasingBy-insert}
use Rattle.key_index.proofs.KeyLemmas.{insert-same}
use Rattle.key_index.proofs.NumberLemmas.{numbers-added}
use Rattle.key_index.proofs.index.KeyIndex.add.Goals as goal

pub returns-clause-added : goal.returns-clause-added
returns-clause-added c key =
    let xs = c.self.inside.entries.items in
    let place = c.part_at-begin.result.0 + length c.part_at-begin.result.1.now in
    let point : IsPartitionPoint (λ e. e.0 ≤ c.args.key) (λ e. c.args.key < e.0) xs place = rw c.as_slice.ensures at c.part_at-begin.ensures.end in
    rw (c.insert.ensures.items, ← c.self.view_is) (insert-same xs place (c.args.key, c.args.number) point key)

pub invariant_of-self : goal.invariant_of-self
invariant_of-self c =
    let xs = c.self.inside.entries.items in
    let place = c.part_at-begin.result.0 + length c.part_at-begin.result.1.now in
    let point : IsPartitionPoint (λ e. e.0 ≤ c.args.key) (λ e. c.args.key < e.0) xs place = rw c.as_slice.ensures at c.part_at-begin.ensures.end in
    let bound : place ≤ length xs = rw c.as_slice.ensures at c.part_at-begin.ensures.bound in (
      rw (c.insert.ensures.items) (IsNonDecreasingBy-insert (λ (e : ℕ × ℕ). e.0) xs place (c.args.key, c.args.number) c.self.invariant.0 bound
          (λ k d below. point.0 k d (omega arith) below) (λ k d from within. let more = point.1 k d from within in omega arith)),
      (λ rising.
          let behind = rw (c.part_at-begin.ensures.part, c.as_slice.ensures) at c.stays_rising-self-inside.ensures.behind in
          numbers-added xs c.insert.new.self.items c.args.key c.args.number (rw (← c.self.view_is) at (returns-clause-added c)) (c.self.invariant.1 (c.stays_rising-self-inside.ensures.before rising)) (behind rising)),
    )
