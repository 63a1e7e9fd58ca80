use Rattle.std.proofs.Common.{◌≡◌, ◌+◌, ap, arith}
use Rattle.std.proofs.lemmas.List.{map-append}
use Rattle.key_index.proofs.RowLaws.{index-added}
use Rattle.volume_rows.specs.Streams.{streams_in}
use Rattle.volume_rows.specs.declared.rows.StreamInfo.{StreamInfo}
use Rattle.volume_tables.specs.StreamTable.{stream_file_key}
use Rattle.volume_tables.proofs.stream_table.StreamTable.add.Goals as goal

pub invariant_of-self : goal.invariant_of-self
invariant_of-self c =
    let i = c.self.inside in
    let file : c.info.result.now.file ≡ c.args.row.stream.file = ap (λ (info : StreamInfo). info.file) c.info.ensures in
    let promised = c.self.invariant in
    let table = c.add-2.ensures.left in
    let index = c.add.ensures.left in (
      rw (c.in-Ok.ensures.rows, map-append) (index-added stream_file_key (streams_in i.table.rows) i.files.entries c.add.new.self.entries (i.table.last + 1) c.args.row.stream c.self.invariant.0 (rw (file, c.last-id.ensures) at c.add.ensures.added)),
      omega arith,
      omega arith,
    )
