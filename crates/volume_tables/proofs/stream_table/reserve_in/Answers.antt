use Rattle.std.proofs.Common.{sym}
use Rattle.volume_tables.proofs.StreamLemmas.{streams_in-kept, row_of-changed}
use Rattle.volume_tables.proofs.StreamLemmas.{row_of-other}
use Rattle.volume_tables.proofs.stream_table.reserve_in.Goals as goal

pub returns-in-Some-clause-rows : goal.returns-in-Some-clause-rows
returns-in-Some-clause-rows c =
    streams_in-kept c.args.streams.now.rows c.args.stream c.in-Some.row.now _ c.get_mut.ensures.one (sym c.in-Some.ensures.row) c.reserve.ensures.stream

pub returns-in-Some-clause-reserved : goal.returns-in-Some-clause-reserved
returns-in-Some-clause-reserved c =
    rw (row_of-changed c.args.streams.now.rows c.args.stream c.in-Some.row.now c.reserve.new.self (sym c.in-Some.ensures.row)) c.reserve.ensures.room

pub returns-in-Some-clause-others : goal.returns-in-Some-clause-others
returns-in-Some-clause-others c = row_of-other (λ _. c.reserve.new.self) c.args.streams.now.rows c.args.stream
