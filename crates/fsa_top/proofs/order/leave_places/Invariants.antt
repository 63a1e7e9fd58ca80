use Rattle.std.proofs.Common.{ℕ, ◌≡◌, ◌<◌, ◌+◌, length, get_or}
use Rattle.fsa_top.proofs.order.leave_places.Given as goal

abbrev pub invariant-loop-client : goal.invariant-loop-client
invariant-loop-client l = record {
  long : length l.places.items ≡ l.client;
  each : (other : ℕ) → other < l.client → get_or l.places.items other 0 ≡ l.first + other;
}
