use Rattle.std.proofs.Common.{refl}
use Rattle.fsa_types.proofs.RowLemmas.{map-change}
use Rattle.fsa_model.specs.Volume.{Stream}
use Rattle.key_index.proofs.RowLaws.{index-changed}
use Rattle.volume_rows.specs.Streams.{StreamRowView, streams_in}
use Rattle.volume_tables.specs.StreamTable.{stream_file_key}
use Rattle.volume_tables.proofs.stream_table.StreamTable.mark.Goals as goal

pub invariant_of-self : goal.invariant_of-self
invariant_of-self c =
    let i = c.self.inside in
    let change : StreamRowView → StreamRowView = λ row. record row { stream = record row.stream { deleted = c.args.deleted } } in
    let seen : Stream → Stream = λ row. record row { deleted = c.args.deleted } in (
      rw (c.mark.ensures.rows, map-change (λ kept. kept.stream) change seen i.table.rows c.args.stream (λ row. refl))
          (index-changed stream_file_key seen (streams_in i.table.rows) i.files.entries c.args.stream (λ row. refl) c.self.invariant.0),
      rw c.mark.ensures.room c.self.invariant.1,
      c.self.invariant.2,
    )
