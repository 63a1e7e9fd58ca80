use Rattle.std.proofs.Common.{◌≡◌, ◌+◌, ◌≤◌, ◌<◌, ◌^◌, length}
use Rattle.pack_info.specs.Entries.{rows_as_entries}
use Rattle.pack_info.proofs.PackLaws.{fit}
use Rattle.pack_info.proofs.pack.count_fitting.Given as goal

abbrev pub invariant-rows : goal.invariant-rows
invariant-rows g l =
    let entries = rows_as_entries g.T.Row.row_of l.kind in
    record {
      all : l.count + fit l.kind l.used l.room (entries l.rest) ≡ fit l.kind 0 l.room (entries l.rows);
      used : l.used ≤ l.room + 7;
      small : l.room < 2 ^ 32;
      count : l.count + length l.rest ≡ length l.rows;
    }

abbrev pub decreases-rows : goal.decreases-rows
decreases-rows g l = length l.rest
