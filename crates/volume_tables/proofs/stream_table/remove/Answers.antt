use Rattle.std.proofs.Common.{◌≡◌, ◌==◌, not, Some, ap, sym, ◌∙◌}
use Rattle.std.specs.Prelude.{option_map}
use Rattle.fsa_types.specs.Rows.{row_of}
use Rattle.fsa_types.proofs.RowLemmas.{map-filter_seen, row_of-map}
use Rattle.fsa_model.proofs.RowLaws.{without_row-none}
use Rattle.key_index.proofs.RowLaws.{index-removed}
use Rattle.volume_rows.specs.Streams.{StreamRowView, streams_in}
use Rattle.volume_rows.specs.declared.rows.StreamInfo.{StreamInfo}
use Rattle.volume_tables.specs.StreamTable.{stream_file_key}
use Rattle.volume_tables.proofs.StreamLemmas.{IsNumbered-seen}
use Rattle.volume_tables.proofs.stream_table.remove.Goals as goal

pub returns-in-None-clause-indexed : goal.returns-in-None-clause-indexed
returns-in-None-clause-indexed c is =
    rw (c.in-None.ensures.rows, without_row-none c.args.table.now.rows c.args.id (sym c.in-None.ensures.row)) is

pub returns-in-Some-clause-indexed : goal.returns-in-Some-clause-indexed
returns-in-Some-clause-indexed c is =
    let rows = c.args.table.now.rows in
    let row = c.in-Some.row in
    let seen : row_of (streams_in rows) c.args.id ≡ Some row.stream = row_of-map (λ kept. kept.stream) rows c.args.id ∙ ap (option_map (λ (kept : StreamRowView). kept.stream)) (sym c.in-Some.ensures.row) in
    let file : c.info.result.now.file ≡ row.stream.file = ap (λ (info : StreamInfo). info.file) c.info.ensures in
    rw (c.in-Some.ensures.rows, map-filter_seen (λ kept. kept.stream) (λ e. not (e.0 == c.args.id)) rows, c.remove-in-Some.ensures.entries, file)
    (index-removed stream_file_key (streams_in rows) c.args.table.now.last c.args.files.now.entries c.args.id row.stream (IsNumbered-seen (λ kept. kept.stream) rows c.args.table.now.last c.len-numbered.ensures.numbered) is seen)
