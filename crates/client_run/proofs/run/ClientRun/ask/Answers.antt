use Rattle.std.proofs.Common.{subst, sym, ◌∙◌, inl}
use Rattle.client_run.specs.Serving.{FitsDesk, holding}
use Rattle.client_run.proofs.ServeLaws.{made_next, made_plan, next_can, serves_did, serves_on}
use Rattle.client_run.proofs.run.ClientRun.ask.Goals as goal

pub ask-requires-clause-can : goal.ask-requires-clause-can
ask-requires-clause-can g c = next_can (g.D.Desk.view c.args.desk.now) c.args.self.now c.args.call c.requires.serves

pub returns-then-is_empty-clause-serves : goal.returns-then-is_empty-clause-serves
returns-then-is_empty-clause-serves g c = let w = c.wait_of-self.ensures in
    serves_did (g.D.Desk.view c.args.desk.now) (g.D.Desk.view c.ask.new.self) c.in-Did.number c.in-Did.answer c.args.call c.args.self.now c.wait_of-self.result c.requires.next.0 c.requires.next.1
    c.requires.serves c.in-Did.ensures.did c.ask.ensures.history (λ none wait. w.ended none (c.is_wait-is_wait.ensures ∙ wait)) (λ n e. let t = w.only n e in (t.0, sym c.is_wait-is_wait.ensures ∙ t.1))

pub returns-then-is_empty-clause-plan : goal.returns-then-is_empty-clause-plan
returns-then-is_empty-clause-plan g c =
    made_plan (g.D.Desk.view c.args.desk.now) (g.D.Desk.view c.ask.new.self) c.in-Did.number c.in-Did.answer c.args.call c.args.self.now c.wait_of-self.result c.requires.next.0 c.requires.serves c.in-Did.ensures.did

pub returns-in-Did-clause-serves : goal.returns-in-Did-clause-serves
returns-in-Did-clause-serves g c = let w = c.wait_of-self.ensures in
    serves_did (g.D.Desk.view c.args.desk.now) (g.D.Desk.view c.ask.new.self) c.in-Did.number c.in-Did.answer c.args.call c.args.self.now c.wait_of-self.result c.requires.next.0 c.requires.next.1
    c.requires.serves c.in-Did.ensures.did c.ask.ensures.history (λ none wait. w.ended none (c.is_wait-is_wait.ensures ∙ wait)) (λ n e. let t = w.only n e in (t.0, sym c.is_wait-is_wait.ensures ∙ t.1))

pub returns-in-Did-clause-plan : goal.returns-in-Did-clause-plan
returns-in-Did-clause-plan g c =
    made_plan (g.D.Desk.view c.args.desk.now) (g.D.Desk.view c.ask.new.self) c.in-Did.number c.in-Did.answer c.args.call c.args.self.now c.wait_of-self.result c.requires.next.0 c.requires.serves c.in-Did.ensures.did

pub returns-in-Did-clause-steps : goal.returns-in-Did-clause-steps
returns-in-Did-clause-steps g c =
    inl (made_next (g.D.Desk.view c.args.desk.now) (g.D.Desk.view c.ask.new.self) c.in-Did.number c.in-Did.answer c.args.call c.args.self.now c.wait_of-self.result c.requires.next.0 c.requires.serves c.in-Did.ensures.did)

pub returns-in-Busy-clause-serves : goal.returns-in-Busy-clause-serves
returns-in-Busy-clause-serves g c = let back = c.in-Busy.ensures.busy in
    subst (λ what. FitsDesk (g.D.Desk.view c.ask.new.self) (holding (record c.args.call { what = what }) c.args.self.now)) (sym back.0)
    (serves_on (g.D.Desk.view c.args.desk.now) (g.D.Desk.view c.ask.new.self) (holding c.args.call c.args.self.now) c.requires.serves back.1 c.ask.ensures.history)

pub returns-clause-serves : goal.returns-clause-serves
returns-clause-serves g c = let back = c.in-Refused.ensures.refused in
    subst (λ what. FitsDesk (g.D.Desk.view c.ask.new.self) (holding (record c.args.call { what = what }) c.args.self.now)) (sym back.0)
    (serves_on (g.D.Desk.view c.args.desk.now) (g.D.Desk.view c.ask.new.self) (holding c.args.call c.args.self.now) c.requires.serves back.1 c.ask.ensures.history)
