use Rattle.std.proofs.Common.{rules}
use Rattle.object_tables.proofs.SearchLemmas.{position-here}
use Rattle.object_tables.proofs.search.place_behind_first.Goals as goal

pub returns-then-rows-place : goal.returns-then-rows-place
returns-then-rows-place g c = position-here c.args.rows.now c.in_ok-place.place c.index-rows-place.result c.args.id c.requires.rising (search rules) c.if-rows-place.true
