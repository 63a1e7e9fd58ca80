use Rattle.std.proofs.Common.{[]}
use Rattle.fsa_machine.proofs.ReleasedLaws.{let_go-steps}
use Rattle.fsa_machine.proofs.StepLaws.{starved-serves}
use Rattle.fsa_machine.proofs.settle.take_up.Goals as goal

pub returns-clause-serves : goal.returns-clause-serves
returns-clause-serves g c =
    let none = c.try_ready.ensures.none c.if-try_ready.false in
    rw (c.end_so.ensures.content, none.0) (starved-serves (g.S.Store.content c.args.store.now) c.args.ready c.requires.serves c.requires.may (c.try_ready.ensures.starves c.if-try_ready.false))

pub returns-then-try_ready-clause-tries : goal.returns-then-try_ready-clause-tries
returns-then-try_ready-clause-tries g c = let_go-steps _ _ c.args.ready [] _ _ c.requires.may c.requires.next (c.try_ready.ensures.tried c.if-try_ready.true) c.try_ready.ensures.tries

pub returns-clause-tries : goal.returns-clause-tries
returns-clause-tries g c =
    let none = c.try_ready.ensures.none c.if-try_ready.false in
    rw (c.end_so.ensures.content, none.0)
    (let_go-steps _ _ c.args.ready _ _ _ c.requires.may c.requires.next (c.try_ready.ensures.starves c.if-try_ready.false) c.try_ready.ensures.tries)
