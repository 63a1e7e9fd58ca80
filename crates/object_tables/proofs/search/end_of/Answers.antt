use Rattle.std.proofs.Common.{◌≡◌, rules, refl}
use Rattle.std.proofs.lemmas.Bool.{leb-true, leb-false}
use Rattle.std.proofs.lemmas.List.Sorted.{IsPartitionedBy-leb}
use Rattle.object_tables.proofs.ClosureLemmas.{answers_by}
use Rattle.object_tables.proofs.NextLemmas.{rising-steps}
use Rattle.object_tables.proofs.search.end_of.Goals as goal

-- the closure compares a row's number with the number
pub returns-clause-point : goal.returns-clause-point
returns-clause-point g c =
    let xs = c.args.rows.now in
    let after = c.args.after in
    let parted = c.partition_point.ensures.partitioned (λ e. lib.Dec.leb e.0 after) (answers_by _ _ (λ f. f.0.now ≡ after) (λ f a r h called same. (search rules, search rules)) _ refl) (IsPartitionedBy-leb (λ e. e.0) xs after (rising-steps xs c.requires.rising)) in
    (λ k d low high. leb-true _ after (parted.0 k d low high), λ k d low high. leb-false _ after (parted.1 k d low high))
