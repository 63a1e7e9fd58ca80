use Rattle.std.proofs.Common.{◌≡◌, drop}
use Rattle.std.specs.Prelude.{option_map, slice_get}
use Rattle.key_index.specs.RowsByKey.{rows_of_entries}
use Rattle.volume_rows.specs.Streams.{streams_in}
use Rattle.volume_tables.specs.StreamOrder.{rows_after}
use Rattle.volume_tables.proofs.stream_table.first_among.Given as goal

abbrev pub invariant-loop-place : goal.invariant-loop-place
invariant-loop-place l = option_map (λ e. (e.0, e.1.now.stream)) l.first ≡ slice_get (rows_after l.upcase l.file l.units (rows_of_entries (streams_in l.table.rows) (drop l.place l.entries))) 0
