use Rattle.std.proofs.Common.{length, sym, ap, ◌∙◌, subst, arith}
use lib.ListN.{get_elem?}
use Rattle.history_lock.specs.History.{calls_by}
use Rattle.history_lock.specs.Turns.{parts_of, Sees}
use Rattle.history_lock.proofs.Turning.{own_part}
use Rattle.history_lock.proofs.Joining.{shadows}
use Rattle.history_lock.proofs.lock.TurnLock.close.Goals as goal

pub join_all-client-requires-clause-passes : goal.join_all-client-requires-clause-passes
join_all-client-requires-clause-passes g c i p at = let t = c.requires.passes i p at in (t.0.0, t.0.1, t.1)

pub split_seat-seen-requires : goal.split_seat-seen-requires
split_seat-seen-requires g c = let z = c.args.self.sized.0 in (c.join_all-client.ensures.place.0, omega arith, shadows _ _ _ _ _ _ _ _ _)

pub finish-machine-requires-clause-all : goal.finish-machine-requires-clause-all
finish-machine-requires-clause-all g c client below = let t = c.join_all-client.ensures.all client below in
    (t.0, t.1, ap (λ m. get_elem? (parts_of m.0) t.0) c.split_seat-seen.ensures.2 ∙ t.2, t.3)

pub invariant_of-result : goal.invariant_of-result
invariant_of-result g c = let m = g.M.Machine in let e = c.split_seat-seen.ensures.4 in let v = c.join_all-client.result.seat.me.0 in let n = c.join_all-client.ensures.numbers in
    record {
      resting = (ap (λ z. z.1) e, ap (λ z. z.0.holds) e, ap (λ z. z.0.hand) e, ap (λ z. z.0.kept) e);
      client_is = n.0 ∙ ap (λ z. z.0.own.client) (sym e);
      made_is = n.2 ∙ ap (λ z. length z.0.own.mine) (sym e);
      few = n.3;
      own_calls = ap (λ z. z.0.own.mine) e ∙ (c.join_all-client.ensures.made 0 v.own (own_part v c.join_all-client.ensures.rests.0) ∙ ap (λ z. calls_by m.call_of m.client_of z.0.own.client z.0.own.seen) (sym e));
    }

pub returns-clause-each : goal.returns-clause-each
returns-clause-each g c i p at = let m = g.M.Machine in
    subst (λ l. Sees m.call_of m.client_of l p.seat.me.0.own) (sym (c.finish-machine.ensures.seen ∙ ap (λ z. z.0.own.seen) c.split_seat-seen.ensures.2)) (c.join_all-client.ensures.each i p at)
