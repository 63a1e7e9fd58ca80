use Rattle.std.proofs.Common.{◌≡◌, rules, refl}
use Rattle.std.proofs.lemmas.Bool.{leb-true, leb-false}
use Rattle.std.proofs.lemmas.List.Sorted.{IsPartitionedBy-leb}
use Rattle.key_index.proofs.ClosureLemmas.{answers_by}
use Rattle.range_locks.proofs.places.end_of.Goals as goal

-- the closure compares a place with the place
pub returns-clause-point : goal.returns-clause-point
returns-clause-point c =
    let xs = c.args.ranges.now in
    let key = c.args.at in
    let parted = c.partition_point.ensures.partitioned (λ e. lib.Dec.leb e.at key) (answers_by _ _ (λ f. f.0.now ≡ key) (λ f a r g called same. (search rules, search rules)) _ refl) (IsPartitionedBy-leb (λ e. e.at) xs key c.requires.rising) in
    (λ k d low high. leb-true _ key (parted.0 k d low high), λ k d low high. leb-false _ key (parted.1 k d low high))
