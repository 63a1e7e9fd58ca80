use Rattle.fsa_machine.proofs.StepLaws.{waits-step}
use Rattle.fsa_machine.proofs.settle.end_wait.Goals as goal

pub returns-clause-tried : goal.returns-clause-tried
returns-clause-tried g c = (let step = waits-step (g.S.Store.content c.args.store.now) c.args.ready c.requires.serves c.requires.may c.requires.next c.requires.free c.requires.no_report in rw c.end_so.ensures.content step.next)

pub returns-clause-serves : goal.returns-clause-serves
returns-clause-serves g c = (let step = waits-step (g.S.Store.content c.args.store.now) c.args.ready c.requires.serves c.requires.may c.requires.next c.requires.free c.requires.no_report in rw c.end_so.ensures.content step.serves)
