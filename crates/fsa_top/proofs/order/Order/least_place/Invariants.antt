use Rattle.std.proofs.Common.{◌≡◌, ◌+◌, length, Some}
use Rattle.fsa_model.specs.History.{Run, run}
use Rattle.fsa_model.specs.Waiting.{waits}
use Rattle.fsa_top.specs.Order.{IsLeastCursor}
use Rattle.fsa_top.proofs.order.Order.least_place.Given as goal

abbrev pub invariant-loop-client : goal.invariant-loop-client
invariant-loop-client l =
    (r : Run) → run l.machine.setup l.machine.entries ≡ Some r → IsLeastCursor (λ client. waits r.volume client) l.self.places.items l.client (length l.self.following.items + length l.self.places.items) l.least
