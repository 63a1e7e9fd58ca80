use Rattle.std.proofs.Common.{subst, sym}
use Rattle.client_run.specs.Serving.{FitsDesk}
use Rattle.client_run.proofs.ServeLaws.{serves_on, serves_over}
use Rattle.client_run.proofs.run.ClientRun.wait.Goals.{in-Done, in-Pending, in-Busy, in-NoMemory}
use Rattle.client_run.proofs.run.ClientRun.wait.Goals as goal

pub returns-clause-serves : goal.returns-clause-serves
returns-clause-serves g c = let w = g.D.Desk.view c.look.new.self in
    let kept = serves_on (g.D.Desk.view c.args.desk.now) w c.args.self.now c.requires.serves c.look.ensures.sees c.look.ensures.history in
    elim c.match-look.branch [
      | in-Done d ↦ subst (FitsDesk w) (sym d.self-is) (serves_over w c.args.self.now c.args.number d.in-Done.field-0 kept c.requires.waits d.in-Done.ensures.done)
      | in-Pending d ↦ subst (FitsDesk w) (sym d.self-is) kept
      | in-Busy d ↦ subst (FitsDesk w) (sym d.self-is) kept
      | in-NoMemory d ↦ subst (FitsDesk w) (sym d.self-is) kept
    ]
