use Rattle.std.proofs.Common.{◌≡◌, ◌+◌, ◌≤◌, length}
use Rattle.std.specs.List.{slice_split}
use Rattle.fsa_types.specs.Paths.{is_separator, pieces_fault}
use Rattle.names.proofs.path.check_pieces.Given as goal

abbrev pub invariant-pieces : goal.invariant-pieces
invariant-pieces l = record {
  place : l.place + length l.left ≡ length l.rest + 1;
  below : l.count ≤ l.place;
  count : l.count + length (slice_split is_separator l.left) ≡ length (slice_split is_separator l.rest) + 1;
  fault : pieces_fault l.place (slice_split is_separator l.left) ≡ pieces_fault 1 (slice_split is_separator l.rest);
}

abbrev pub decreases-pieces : goal.decreases-pieces
decreases-pieces l = length l.left
