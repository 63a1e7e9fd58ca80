use Rattle.std.proofs.Common.{[]}
use Rattle.name_match.proofs.RowLaws.{EndsFrom}
use Rattle.name_match.proofs.ends.read_end.Given as goal

abbrev pub invariant-loop-place : goal.invariant-loop-place
invariant-loop-place l = EndsFrom l.table l.expression [] l.row l.place
