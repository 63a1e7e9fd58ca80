use Rattle.std.proofs.Common.{◌≡◌, drop}
use Rattle.std.specs.List.{slice_split}
use Rattle.fsa_types.specs.Paths.{is_separator}
use Rattle.names.proofs.path.tail_of.Given as goal

abbrev pub invariant-loop-place : goal.invariant-loop-place
invariant-loop-place l = slice_split is_separator l.left ≡ drop l._place (slice_split is_separator l.rest)
