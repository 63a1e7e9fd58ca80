use Rattle.std.proofs.Common.{rules, ap, ◌∙◌, arith}
use Rattle.history_lock.proofs.Passing.{own_made}
use Rattle.history_lock.proofs.lock.TurnLock.try_turn.Goals as goal

pub invariant_of-pass-in-Ok : goal.invariant_of-pass-in-Ok
invariant_of-pass-in-Ok g c = let t = c.in-Some.ensures.taken in let d = c.in-Ok.ensures.done in let e = ap (λ m. m.0) c.commit.ensures.made in
    let v = c.args.pass.now.seat.me.0 in let m = g.M.Machine in
    let made = own_made m.call_of m.client_of v c.take.new.seat.me.0 c.commit.new.seat.me.0 (m.list c.in-Some.machine) (m.list c.turn.new.self) d.0 (ap (λ m. m.0) t.0) e d.1 (ap m.client_of d.2 ∙ c.requires.client) t.2 d.5 in
    record {
      resting = search rules;
      client_is = search rules;
      made_is = omega arith;
      few = omega arith;
      own_calls = made.0;
    }
