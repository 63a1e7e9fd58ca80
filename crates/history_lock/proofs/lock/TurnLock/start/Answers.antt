use Rattle.std.proofs.Common.{arith, ap, sym, ◌∙◌, ◌++◌, ◌∷◌, [], subst, Some, ◌==◌, if◌then◌else◌}
use Rattle.history_lock.specs.Turns.{newcomer}
use Rattle.history_lock.proofs.Places.{given_below}
use Rattle.history_lock.proofs.Joining.{opens_filled}
use Rattle.history_lock.proofs.lock.TurnLock.start.Goals as goal

pub new-requires : goal.new-requires
new-requires g c = let m = g.M.Machine in
    opens_filled m.base m.list m.call_of m.client_of m.stands (m.base c.of.result.value) c.args.clients c.push_reserved.new.self.items c.args.machine
    (c.push_reserved.ensures.items ∙ ap (λ l. l ++ Some c.args.machine ∷ []) c.in-Ok-with_capacity.ensures.items) c.requires.empty (ap m.base (sym c.of.ensures)) c.requires.clients.0 (subst (λ z. m.stands z []) (ap m.base (sym c.of.ensures)) c.requires.history)

pub returns-in-Ok-new-clause-passes : goal.returns-in-Ok-new-clause-passes
returns-in-Ok-new-clause-passes g c i p at = let t = c.deal-passes.ensures.passes i p at in let o = c.in-Ok-new.ensures.ok in let m = g.M.Machine in
    let clients = ap (λ v. v.clients) t.1 ∙ ap (λ k. k.clients) (sym o.5) in (
      (
        t.0,
        ap (λ v. v.live) t.1,
        ap (λ v. v.base) t.1,
        clients,
        (let a = given_below c.deal-passes.result.items i p at in let b = c.deal-passes.ensures.one_each in let d = c.deal-passes.result.ok.0 in let e = ap (λ v. v.own.client) t.1 in let f = ap (λ k. k.clients) o.5 in omega arith),
        subst (λ b. m.stands b p.seat.me.0.own.seen) (sym (ap (λ k. m.base k.first.value) o.5 ∙ ap m.base c.of.ensures)) (subst (m.stands (m.base c.args.machine)) (sym (ap (λ v. v.own.seen) t.1)) c.requires.history),
      ),
      t.1 ∙ (ap (λ k. newcomer (m.base k.first.value ∷ []) c.args.clients i (if i == 0 then c.args.clients else 0)) o.5 ∙ ap (λ x. newcomer (m.base x ∷ []) c.args.clients i (if i == 0 then c.args.clients else 0)) c.of.ensures),
    )
