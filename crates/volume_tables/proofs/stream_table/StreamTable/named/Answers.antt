use Rattle.std.proofs.Common.{◌∙◌, sym}
use Rattle.fsa_model.specs.Lookups.{is_stream_named}
use Rattle.volume_rows.specs.Streams.{streams_in}
use Rattle.volume_tables.specs.StreamTable.{stream_file_key}
use Rattle.volume_tables.proofs.IndexLaws.{number-by_key}
use Rattle.volume_tables.proofs.StreamLemmas.{IsNumbered-seen, named-only}
use Rattle.volume_tables.proofs.stream_table.StreamTable.named.Goals as goal

pub returns : goal.returns
returns c =
    let i = c.self.inside in
    rw (← c.self.view_is) ((rw c.of.ensures at c.find_named.ensures)
    ∙ sym (number-by_key stream_file_key c.args.file (is_stream_named c.args.upcase.now c.args.file c.args.units.now) (named-only c.args.upcase.now c.args.file c.args.units.now) (streams_in i.table.rows) i.table.last i.files.entries
    (IsNumbered-seen (λ kept. kept.stream) i.table.rows i.table.last c.len-numbered.ensures.numbered) c.self.invariant.0))
