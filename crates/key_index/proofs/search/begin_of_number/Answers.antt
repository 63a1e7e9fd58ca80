use Rattle.std.proofs.Common.{◌≡◌, rules, refl}
use Rattle.std.proofs.lemmas.Bool.{ltb-true, ltb-false}
use Rattle.std.proofs.lemmas.List.Sorted.{IsPartitionedBy-ltb}
use Rattle.key_index.proofs.ClosureLemmas.{answers_by}
use Rattle.key_index.proofs.search.begin_of_number.Goals as goal

-- the closure compares an entry's number with the number
pub returns-clause-point : goal.returns-clause-point
returns-clause-point c =
    let xs = c.args.part.now in
    let number = c.args.number in
    let parted = c.partition_point.ensures.partitioned (λ e. lib.Dec.ltb e.1 number) (answers_by _ _ (λ f. f.0.now ≡ number) (λ f a r g called same. (search rules, search rules)) _ refl) (IsPartitionedBy-ltb (λ e. e.1) xs number c.requires.rising) in
    (λ k d low high. ltb-true _ number (parted.0 k d low high), λ k d low high. ltb-false _ number (parted.1 k d low high))
