use Rattle.std.proofs.Common.{sym}
use Rattle.fsa_model.proofs.RowLaws.{without_row-none}
use Rattle.volume_tables.proofs.OpenLemmas.{AreShared-counted}
use Rattle.volume_tables.proofs.handle_table.remove_row.Goals as goal

pub returns-in-Some-clause-indexed : goal.returns-in-Some-clause-indexed
returns-in-Some-clause-indexed c is =
    rw c.in-Some.ensures.rows (c.remove-in-Some.ensures.handles c.args.table.now.rows c.args.table.now.last c.len-numbered.ensures.numbered (sym c.in-Some.ensures.row) is)

pub returns-in_default-clause-indexed : goal.returns-in_default-clause-indexed
returns-in_default-clause-indexed c is =
    rw (c.in_default.ensures.rows, without_row-none c.args.table.now.rows c.args.id (sym c.in_default.ensures.row)) is

pub release-requires : goal.release-requires
release-requires c = AreShared-counted c.args.table.now.rows c.args.shares.now c.args.id c.in-Some.row (sym c.in-Some.ensures.row) c.requires.shared

pub returns-in-Some-clause-shared : goal.returns-in-Some-clause-shared
returns-in-Some-clause-shared c =
    rw c.in-Some.ensures.rows (c.release.ensures.handles c.args.table.now.rows c.args.table.now.last c.args.id c.len-numbered.ensures.numbered (sym c.in-Some.ensures.row) c.requires.shared)

pub returns-in_default-clause-shared : goal.returns-in_default-clause-shared
returns-in_default-clause-shared c =
    rw (c.in_default.ensures.rows, without_row-none c.args.table.now.rows c.args.id (sym c.in_default.ensures.row)) c.requires.shared
