use Rattle.std.proofs.Common.{◌≡◌, ◌+◌, ◌≤◌, ◌++◌, length}
use Rattle.std.specs.Prelude.{All}
use Rattle.notify_queue.specs.Due.{due_among, rows_of}
use Rattle.notify_queue.proofs.watch.rows_among.Given as goal

abbrev pub invariant-entries : goal.invariant-entries
invariant-entries l = record {
  all : l.rows.items ++ rows_of (due_among l.watch l.units l.dirs l.rest) ≡ rows_of (due_among l.watch l.units l.dirs l.entries);
  lie : All (λ entry. (entry.first_unit + entry.units ≤ length l.units) × (entry.first_dir + entry.dirs ≤ length l.dirs)) l.rest;
}

abbrev pub decreases-entries : goal.decreases-entries
decreases-entries l = length l.rest
