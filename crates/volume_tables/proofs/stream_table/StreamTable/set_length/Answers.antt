use Rattle.std.proofs.Common.{refl}
use Rattle.fsa_types.specs.StreamBytes.{cut}
use Rattle.fsa_model.specs.Volume.{Stream}
use Rattle.key_index.proofs.RowLaws.{index-changed}
use Rattle.volume_rows.specs.Streams.{streams_in}
use Rattle.volume_tables.specs.StreamTable.{stream_file_key}
use Rattle.volume_tables.proofs.stream_table.StreamTable.set_length.Goals as goal

pub invariant_of-self : goal.invariant_of-self
invariant_of-self c =
    let i = c.self.inside in
    let change : Stream → Stream = λ row. record row { bytes = cut row.bytes c.args.bytes } in (
      rw c.set_length_in.ensures.rows (index-changed stream_file_key change (streams_in i.table.rows) i.files.entries c.args.stream (λ row. refl) c.self.invariant.0),
      rw c.set_length_in.ensures.room c.self.invariant.1,
      c.self.invariant.2,
    )
