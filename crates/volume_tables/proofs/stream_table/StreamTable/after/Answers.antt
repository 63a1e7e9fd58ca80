use Rattle.std.proofs.Common.{◌∙◌, sym}
use Rattle.volume_rows.specs.Streams.{streams_in}
use Rattle.volume_tables.proofs.OrderLemmas.{after-by_file}
use Rattle.volume_tables.proofs.StreamLemmas.{IsNumbered-seen}
use Rattle.volume_tables.proofs.stream_table.StreamTable.after.Goals as goal

pub returns : goal.returns
returns c =
    let i = c.self.inside in
    rw (← c.self.view_is) ((rw c.of.ensures at c.find_after.ensures)
    ∙ sym (after-by_file c.args.upcase.now c.args.file c.args.units.now (streams_in i.table.rows) i.table.last i.files.entries
    (IsNumbered-seen (λ kept. kept.stream) i.table.rows i.table.last c.len-numbered.ensures.numbered) c.self.invariant.0))
