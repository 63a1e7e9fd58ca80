use Rattle.std.proofs.Common.{ap}
use Rattle.history_lock.proofs.Turning.{own_part}
use Rattle.history_lock.proofs.Passing.{refreshes, own_seen}
use Rattle.history_lock.proofs.lock.TurnLock.front.Goals as goal

pub invariant_of-pass-clause-own_calls : goal.invariant_of-pass-clause-own_calls
invariant_of-pass-clause-own_calls g c = let t = c.load.ensures.loaded in let v = c.args.pass.now.seat.me.0 in
    own_seen _ _ v c.load.new.seat.me.0 t.0 (ap (λ m. m.0) t.1) (t.4 0 v.own (own_part v c.requires.pass.1))

pub returns-clause-refreshed : goal.returns-clause-refreshed
returns-clause-refreshed g c = let t = c.load.ensures.loaded in let v = c.args.pass.now.seat.me.0 in
    refreshes v c.load.new.seat.me.0 t.0 (ap (λ m. m.0) t.1) (t.4 0 v.own (own_part v c.requires.pass.1)).seen
