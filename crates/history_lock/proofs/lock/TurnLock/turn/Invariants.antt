use Rattle.std.proofs.Common.{◌≡◌, ◌≤◌}
use Rattle.history_lock.proofs.lock.TurnLock.turn.Given as goal

abbrev pub invariant-loop : goal.invariant-loop
invariant-loop g l = record {
  call : l.call ≡ l.fn.call;
  place : l.pass.seat.table_id ≡ l.fn.pass.seat.table_id;
  lost : l.fn.pass.seat.me.0.lost ≤ l.pass.seat.me.0.lost;
  view : l.pass.seat.me.0 ≡ record l.fn.pass.seat.me.0 { lost = l.pass.seat.me.0.lost };
}
