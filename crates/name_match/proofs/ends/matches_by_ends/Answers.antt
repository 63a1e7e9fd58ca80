use Rattle.std.proofs.Common.{sym}
use Rattle.std.proofs.lemmas.List.{take_rest}
use Rattle.name_match.proofs.DeadLaws.{dead-name}
use Rattle.name_match.proofs.RowLaws.{drop-rest_before}
use Rattle.name_match.proofs.ends.matches_by_ends.Goals as goal

pub read_unit-lives-requires-clause-dot : goal.read_unit-lives-requires-clause-dot
read_unit-lives-requires-clause-dot c = rw (drop-rest_before c.args.name.now c.loop-start.start c.loop-start-test.true) c.loop-start.invariant.dot

pub read_unit-lives-requires-clause-row : goal.read_unit-lives-requires-clause-row
read_unit-lives-requires-clause-row c = rw (drop-rest_before c.args.name.now c.loop-start.start c.loop-start-test.true) c.loop-start.invariant.row

pub returns-then-not-lives : goal.returns-then-not-lives
returns-then-not-lives c = sym (dead-name c.args.table.now c.args.expression.now c.args.name.now _ (rw take_rest at (c.read_unit-lives.ensures.dead c.if-not-lives.true)))
