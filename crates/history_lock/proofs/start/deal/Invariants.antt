use Rattle.std.proofs.Common.{◌≡◌, ℕ, ◌+◌, [], ◌∷◌, slice_get, Some, vec_len, vec_capacity}
use Rattle.history_lock.specs.Turns.{newcomer}
use Rattle.history_lock.proofs.start.deal.Given as goal

abbrev pub invariant-loop-client : goal.invariant-loop-client
invariant-loop-client g l = record {
  place : l.first.table_id ≡ l.top.table_id;
  view : l.first.me.0 ≡ record (newcomer (g.M.Machine.base l.top.key.first.value ∷ []) l.clients 0 1) { served = l.client };
  out : l.first.me.1 ≡ [];
  dealt : vec_len l.passes + 1 ≡ l.client;
  room : vec_capacity l.passes ≡ l.clients;
  passes : (i : ℕ) (p : _) → slice_get l.passes.items i ≡ Some p → (p.seat.table_id ≡ l.top.table_id) × (p.seat.me.0 ≡ newcomer (g.M.Machine.base l.top.key.first.value ∷ []) l.clients (i + 1) 0);
}
