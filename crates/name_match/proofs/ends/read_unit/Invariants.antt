use Rattle.std.proofs.Common.{◌≡◌, false}
use Rattle.name_match.proofs.DeadLaws.{NoneFrom}
use Rattle.name_match.proofs.RowLaws.{IsBeingRead}
use Rattle.name_match.proofs.ends.read_unit.Given as goal

abbrev pub invariant-loop-place : goal.invariant-loop-place
invariant-loop-place l = record {
  row : IsBeingRead l.table l.expression l.name l.row l.next l.place;
  dead : l.lives ≡ false → NoneFrom l.table l.expression l.name l.place;
}
