use Rattle.std.proofs.Common.{◌==◌, ◌∙◌, ℕ, length, arith}
use Rattle.fsa_types.specs.Clusters.{clusters_for}
use Rattle.fsa_model.specs.Volume.{Stream}
use Rattle.volume_rows.specs.Streams.{streams_in}
use Rattle.volume_tables.proofs.StreamLemmas.{IsNumbered-seen, sum-by_file, sum-filter_le}
use Rattle.volume_tables.proofs.stream_table.StreamTable.clusters_of_file.Goals as goal

pub clusters_among-requires : goal.clusters_among-requires
clusters_among-requires c =
    let i = c.self.inside in
    let numbered = IsNumbered-seen (λ kept. kept.stream) i.table.rows i.table.last c.len-numbered.ensures.numbered in
    let whole = rw (← c.self.view_is) at c.requires.fits in
    let part = sum-filter_le (λ (entry : ℕ × Stream). clusters_for (length entry.1.bytes)) (λ (entry : ℕ × Stream). entry.1.file == c.args.file) (streams_in i.table.rows) in
    rw (c.of.ensures, sum-by_file (λ (row : Stream). clusters_for (length row.bytes)) (streams_in i.table.rows) i.table.last i.files.entries c.args.file numbered c.self.invariant.0) (omega arith)

pub returns : goal.returns
returns c =
    let i = c.self.inside in
    let numbered = IsNumbered-seen (λ kept. kept.stream) i.table.rows i.table.last c.len-numbered.ensures.numbered in
    rw (← c.self.view_is) ((rw c.of.ensures at c.clusters_among.ensures)
    ∙ sum-by_file (λ (row : Stream). clusters_for (length row.bytes)) (streams_in i.table.rows) i.table.last i.files.entries c.args.file numbered c.self.invariant.0)
