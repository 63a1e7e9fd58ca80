use Rattle.std.proofs.Common.{◌≡◌, ℕ, ◌+◌, ◌≤◌, List, length}
use Rattle.std.specs.List.{list_any}
use Rattle.std.specs.Prelude.{All}
use Rattle.notify_queue.specs.Due.{asks_for}
use Rattle.notify_queue.proofs.watch.asks_among.Given as goal

abbrev pub invariant-entries : goal.invariant-entries
invariant-entries l = record {
  all : (units : List ℕ) → list_any (asks_for l.watch units l.dirs) l.rest ≡ list_any (asks_for l.watch units l.dirs) l.entries;
  lie : All (λ entry. entry.first_dir + entry.dirs ≤ length l.dirs) l.rest;
}

abbrev pub decreases-entries : goal.decreases-entries
decreases-entries l = length l.rest
