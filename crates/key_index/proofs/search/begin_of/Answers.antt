use Rattle.std.proofs.Common.{◌≡◌, rules, refl}
use Rattle.std.proofs.lemmas.Bool.{ltb-true, ltb-false}
use Rattle.std.proofs.lemmas.List.Sorted.{IsPartitionedBy-ltb}
use Rattle.key_index.proofs.ClosureLemmas.{answers_by}
use Rattle.key_index.proofs.search.begin_of.Goals as goal

-- the closure compares an entry's key with the key
pub returns-clause-point : goal.returns-clause-point
returns-clause-point c =
    let xs = c.args.entries.now in
    let key = c.args.key in
    let parted = c.partition_point.ensures.partitioned (λ e. lib.Dec.ltb e.0 key) (answers_by _ _ (λ f. f.0.now ≡ key) (λ f a r g called same. (search rules, search rules)) _ refl) (IsPartitionedBy-ltb (λ e. e.0) xs key c.requires.rising) in
    (λ k d low high. ltb-true _ key (parted.0 k d low high), λ k d low high. ltb-false _ key (parted.1 k d low high))
