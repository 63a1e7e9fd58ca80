use Rattle.std.proofs.Common.{◌≡◌, ◌≤◌, ℕ, List, drop}
use Rattle.std.specs.Prelude.{fold}
use Rattle.fsa_types.specs.Rows.{without_row}
use Rattle.volume_rows.specs.Streams.{StreamRowView}
use Rattle.volume_tables.proofs.stream_table.take_all.Given as goal

-- what is to come takes out the rest
abbrev pub invariant-loop-entry : goal.invariant-loop-entry
invariant-loop-entry l = record {
  rows : fold (λ (rows : List (ℕ × StreamRowView)) (entry : ℕ × ℕ). without_row rows entry.1) l.streams.rows (drop l.entry-index l.entries)
      ≡ fold (λ (rows : List (ℕ × StreamRowView)) (entry : ℕ × ℕ). without_row rows entry.1) l.fn.streams.rows l.entries;
  last : l.streams.last ≡ l.fn.streams.last;
  room : l.fn.streams.room ≤ l.streams.room;
}
