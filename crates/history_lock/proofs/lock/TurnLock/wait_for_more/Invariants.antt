use Rattle.history_lock.specs.Lock.{IsPassOf}
use Rattle.history_lock.specs.Passes.{OnlyLoaded}
use Rattle.history_lock.proofs.lock.TurnLock.wait_for_more.Given as goal

abbrev pub invariant-loop : goal.invariant-loop
invariant-loop g l = record {
  pass : IsPassOf g.M.Machine.base g.M.Machine.stands l.fn.self l.pass;
  loaded : OnlyLoaded l.fn.pass.seat.me.0 l.pass.seat.me.0;
}
