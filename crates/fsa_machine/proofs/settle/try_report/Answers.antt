use Rattle.fsa_machine.proofs.StepLaws.{reports-step}
use Rattle.fsa_machine.proofs.settle.try_report.Goals as goal

pub returns-clause-serves : goal.returns-clause-serves
returns-clause-serves g c = λ done.
    (let step = reports-step (g.S.Store.content c.args.store.now) c.args.ready c.args.asked c.requires.serves c.requires.may c.requires.next c.requires.free c.requires.report in
    rw (c.report_to.ensures.content done) step.serves)
