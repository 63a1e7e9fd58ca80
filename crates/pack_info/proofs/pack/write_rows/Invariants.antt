use Rattle.std.proofs.Common.{◌≡◌, ◌++◌, length}
use Rattle.pack_info.specs.Entries.{AreEntries, AreWritable, rows_as_entries}
use Rattle.fsa_types.specs.Packing.{entries_bytes}
use Rattle.pack_info.proofs.pack.write_rows.Given as goal

abbrev pub invariant-rows : goal.invariant-rows
invariant-rows g l =
    let entries = rows_as_entries g.T.Row.row_of l.kind in
    record {
      all : l.out.items ++ entries_bytes l.kind (entries l.rest) ≡ entries_bytes l.kind (entries l.rows);
      each : AreEntries l.kind (entries l.rest) → AreEntries l.kind (entries l.rows);
      can : AreWritable l.kind (entries l.rest);
    }

abbrev pub decreases-rows : goal.decreases-rows
decreases-rows g l = length l.rest
