use Rattle.std.proofs.Common.{◌≡◌, drop}
use Rattle.std.specs.List.{list_any}
use Rattle.fsa_types.specs.Match.{is_dot}
use Rattle.name_match.specs.Ends.{AreEnds}
use Rattle.name_match.proofs.ends.matches_by_ends.Given as goal

abbrev pub invariant-loop-start : goal.invariant-loop-start
invariant-loop-start l = record {
  dot : l.dot_follows ≡ list_any is_dot (drop l.start l.name);
  row : AreEnds l.table l.expression (drop l.start l.name) l.row;
}
