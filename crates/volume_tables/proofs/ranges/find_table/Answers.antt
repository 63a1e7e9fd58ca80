use Rattle.std.proofs.Common.{sym}
use Rattle.fsa_types.proofs.PlaceLemmas.{row_of-missing}
use Rattle.volume_tables.proofs.PlaceLemmas.{row-at}
use Rattle.volume_tables.proofs.ranges.find_table.Goals as goal

pub returns-in-Ok : goal.returns-in-Ok
returns-in-Ok c = sym (row-at c.args.tables.now c.args.stream c.in-Ok.place c.index-tables-place.result c.requires.rising c.in-Ok.ensures.there)

pub returns-in-Err : goal.returns-in-Err
returns-in-Err c = sym (row_of-missing c.args.tables.now c.args.stream c.in-Err.field-0 c.in-Err.ensures.missing)
