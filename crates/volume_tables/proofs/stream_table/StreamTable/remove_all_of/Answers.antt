use Rattle.std.proofs.Common.{◌≡◌, ◌==◌, ◌∙◌, not, ℕ, List, ap, arith}
use Rattle.std.specs.Prelude.{filter, fold}
use Rattle.fsa_types.specs.Rows.{without_row}
use Rattle.fsa_types.proofs.RowLemmas.{map-filter_seen}
use Rattle.key_index.proofs.RowLaws.{index-cleared, index-entries}
use Rattle.volume_rows.specs.Streams.{StreamRowView, streams_in}
use Rattle.volume_tables.specs.StreamTable.{stream_file_key}
use Rattle.volume_tables.proofs.StreamLemmas.{key-goes}
use Rattle.volume_tables.proofs.stream_table.StreamTable.remove_all_of.Goals as goal

pub invariant_of-self : goal.invariant_of-self
invariant_of-self c =
    let i = c.self.inside in
    let table = c.take_all.ensures.room in
    let files = c.remove_all.ensures.room in
    let promised = c.self.invariant in
    let goes : c.take_all.new.streams.rows ≡ filter (λ e. not (e.1.stream.file == c.args.file)) i.table.rows =
    c.take_all.ensures.rows
    ∙ ap (fold (λ (rows : List (ℕ × StreamRowView)) (entry : ℕ × ℕ). without_row rows entry.1) i.table.rows) (c.of.ensures ∙ index-entries stream_file_key (streams_in i.table.rows) i.files.entries c.args.file c.self.invariant.0)
    ∙ key-goes (λ kept. kept.stream) stream_file_key c.args.file i.table.rows c.take_all.ensures.numbered.rising in (
      rw (goes, map-filter_seen (λ kept. kept.stream) (λ e. not (e.1.file == c.args.file)) i.table.rows, c.remove_all.ensures.entries)
          (index-cleared stream_file_key (streams_in i.table.rows) i.files.entries c.args.file c.self.invariant.0),
      omega arith,
      omega arith,
    )

pub returns-clause-rows : goal.returns-clause-rows
returns-clause-rows c =
    let i = c.self.inside in
    rw (← c.self.view_is)
    (c.take_all.ensures.rows
    ∙ ap (fold (λ (rows : List (ℕ × StreamRowView)) (entry : ℕ × ℕ). without_row rows entry.1) i.table.rows) (c.of.ensures ∙ index-entries stream_file_key (streams_in i.table.rows) i.files.entries c.args.file c.self.invariant.0)
    ∙ key-goes (λ kept. kept.stream) stream_file_key c.args.file i.table.rows c.take_all.ensures.numbered.rising)
