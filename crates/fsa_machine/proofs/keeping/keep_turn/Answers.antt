use Rattle.std.proofs.Common.{◌-◌, ap, ◌∙◌, arith}
use Rattle.fsa_model.proofs.TurnLaws.{turn-turns}
use Rattle.fsa_machine.specs.Spare.{SpareTurns}
use Rattle.fsa_machine.proofs.SpareLaws.{next-spare}
use Rattle.fsa_machine.proofs.keeping.keep_turn.Goals as goal

pub returns-in-Some-clause-spare : goal.returns-in-Some-clause-spare
returns-in-Some-clause-spare g c =
    let one = turn-turns (g.S.Store.content c.args.store.now) c.args.call c.keep_spare.result.starved.items _ c.requires.can.may c.requires.can.new c.keep_spare.ensures.turned.ok in
    next-spare (g.S.Store.content c.args.store.now) (g.S.Store.content c.keep_spare.new.store) _ _ _ _ _ _ _ _ c.args.spare.now c.keep_spare.new.spare c.requires.spare (omega (arith, one.number))
    c.keep_spare.ensures.turned.longer c.keep_spare.ensures.turned.ends c.keep_spare.ensures.turned.pending c.keep_spare.ensures.len c.keep_spare.ensures.capacity
    (omega (arith, c.keep_spare.ensures.left)) c.keep_spare.ensures.calls

pub returns-in_ok-out-in-None-clause-spare : goal.returns-in_ok-out-in-None-clause-spare
returns-in_ok-out-in-None-clause-spare g c =
    let one = turn-turns (g.S.Store.content c.args.store.now) c.args.call c.in_ok-out-in-None.out.starved.items _ c.requires.can.may c.requires.can.new c.in_ok-out-in-None.ensures.turned.ok in
    next-spare (g.S.Store.content c.args.store.now) (g.S.Store.content c.keep_new.new.store) _ _ _ _ _ _ _ _ c.args.spare.now c.drop_one.new.self c.requires.spare (omega (arith, one.number))
    c.in_ok-out-in-None.ensures.turned.longer c.in_ok-out-in-None.ensures.turned.ends c.in_ok-out-in-None.ensures.turned.pending c.in_ok-out-in-None.ensures.len c.in_ok-out-in-None.ensures.capacity
    (c.drop_one.ensures.left ∙ ap (λ (s : SpareTurns). s.turns - 1) c.in_ok-out-in-None.ensures.spare) (c.drop_one.ensures.calls ∙ ap (λ (s : SpareTurns). s.calls) c.in_ok-out-in-None.ensures.spare)
