use Rattle.std.proofs.Common.{◌≡◌, rules, refl}
use Rattle.std.proofs.lemmas.Bool.{leb-true, leb-false}
use Rattle.std.proofs.lemmas.List.Sorted.{IsPartitionedBy-leb}
use Rattle.volume_breaks.proofs.OrderLemmas.{answers_by, never-falls}
use Rattle.volume_breaks.proofs.pending_calls.end_of.Goals as goal

-- the closure compares a row's turn with the turn
pub returns-clause-point : goal.returns-clause-point
returns-clause-point c =
    let rows = c.args.rows.now in
    let after = c.args.after in
    let parted = c.partition_point.ensures.partitioned (λ e. lib.Dec.leb e.0 after) (answers_by _ _ (λ f. f.0.now ≡ after) (λ f a r g called same. (search rules, search rules)) _ refl) (IsPartitionedBy-leb (λ e. e.0) rows after (never-falls rows c.requires.rising)) in
    (λ k d low high. leb-true _ after (parted.0 k d low high), λ k d low high. leb-false _ after (parted.1 k d low high))
