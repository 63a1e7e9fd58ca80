use Rattle.std.proofs.Common.{sym}
use Rattle.fsa_types.specs.StreamBytes.{put}
use Rattle.volume_tables.proofs.StreamLemmas.{streams_in-changed, streams_in-none}
use Rattle.volume_tables.proofs.StreamLemmas.{row_of-other}
use Rattle.volume_tables.proofs.stream_table.put_in.Goals as goal

pub returns-in-Some-clause-rows : goal.returns-in-Some-clause-rows
returns-in-Some-clause-rows c =
    streams_in-changed c.args.streams.now.rows c.args.stream c.in-Some.row.now _ (λ row. record row { bytes = put row.bytes c.args.at c.args.piece.now })
    c.get_mut.ensures.one (sym c.in-Some.ensures.row) c.put.ensures.stream

pub returns-in_default-clause-rows : goal.returns-in_default-clause-rows
returns-in_default-clause-rows c =
    streams_in-none c.args.streams.now.rows c.args.stream (λ row. record row { bytes = put row.bytes c.args.at c.args.piece.now }) (sym c.in_default.ensures.row)

pub returns-in-Some-clause-others : goal.returns-in-Some-clause-others
returns-in-Some-clause-others c = row_of-other (λ _. c.put.new.self) c.args.streams.now.rows c.args.stream
