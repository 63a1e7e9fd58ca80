use Rattle.std.proofs.Common.{refl, sym, ◌∙◌}
use Rattle.client_run.proofs.ServeLaws.{done_left, left_done}
use Rattle.client_run.proofs.run.ClientRun.step.Goals as goal

pub returns-in-Some-clause-ended : goal.returns-in-Some-clause-ended
returns-in-Some-clause-ended g c = (
  λ ends. absurd (c.wait.ensures.ended ends),
  λ left. absurd (c.requires.serves.more c.in-Some.number c.in-Some.is
      (sym c.wait.ensures.goes_on ∙ left_done (g.D.Desk.view c.wait.new.desk) c.wait.new.self c.wait.ensures.serves left)),
)

pub returns-in_default-next-clause-ended : goal.returns-in_default-next-clause-ended
returns-in_default-next-clause-ended g c = (λ ends. done_left (g.D.Desk.view c.args.desk.now) c.args.self.now c.requires.serves c.in_default-next.ensures.none, λ left. refl)

pub returns-clause-ended : goal.returns-clause-ended
returns-clause-ended g c = (
  λ ends. done_left (g.D.Desk.view c.ask.new.desk) c.ask.new.self c.ask.ensures.serves (c.ask.ensures.ended.0 ends),
  λ left. c.ask.ensures.ended.1 (left_done (g.D.Desk.view c.ask.new.desk) c.ask.new.self c.ask.ensures.serves left),
)
