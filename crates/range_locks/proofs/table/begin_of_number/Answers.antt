use Rattle.std.proofs.Common.{◌≡◌, rules, refl}
use Rattle.std.proofs.lemmas.Bool.{ltb-true, ltb-false}
use Rattle.std.proofs.lemmas.List.Sorted.{IsPartitionedBy-ltb}
use Rattle.key_index.proofs.ClosureLemmas.{answers_by}
use Rattle.range_locks.proofs.NumberLemmas.{numbers-rise}
use Rattle.range_locks.proofs.table.begin_of_number.Goals as goal

-- the closure compares a range's number with the number
pub returns-clause-point : goal.returns-clause-point
returns-clause-point c =
    let xs = c.args.ranges.now in
    let id = c.args.id in
    let parted = c.partition_point.ensures.partitioned (λ e. lib.Dec.ltb e.id id) (answers_by _ _ (λ f. f.0.now ≡ id) (λ f a r g called same. (search rules, search rules)) _ refl) (IsPartitionedBy-ltb (λ e. e.id) xs id (numbers-rise xs c.requires.rising)) in
    (λ k d low high. ltb-true _ id (parted.0 k d low high), λ k d low high. ltb-false _ id (parted.1 k d low high))
