use Rattle.std.proofs.Common.{◌≡◌, ◌+◌, ◌*◌, ◌≤◌, ◌<◌, ◌^◌, length}
use Rattle.std.specs.Prelude.{All}
use Rattle.notify_queue.specs.Due.{due_among, size_from}
use Rattle.notify_queue.specs.Log.{units_of_paths}
use Rattle.notify_queue.proofs.watch.fits_among.Given as goal

abbrev pub invariant-entries : goal.invariant-entries
invariant-entries l = record {
  all : size_from l.size (due_among l.watch l.units l.dirs l.rest) ≡ size_from 0 (due_among l.watch l.units l.dirs l.entries);
  lie : All (λ entry. (entry.first_unit + entry.units ≤ length l.units) × (entry.first_dir + entry.dirs ≤ length l.dirs)) l.rest;
  few : l.size + (15 * length l.rest + 2 * units_of_paths l.rest) < 2 ^ 64;
  fits : l.size ≤ l.room;
}

abbrev pub decreases-entries : goal.decreases-entries
decreases-entries l = length l.rest
