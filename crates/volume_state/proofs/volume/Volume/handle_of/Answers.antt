use Rattle.fsa_model.specs.Lookups.{is_opened_by}
use Rattle.volume_state.proofs.HandleLaws.{number-passes}
use Rattle.volume_state.proofs.OpenLaws.{number-lives}
use Rattle.volume_state.proofs.volume.Volume.handle_of.Goals as goal

pub returns-clause-lives : goal.returns-clause-lives
returns-clause-lives c = rw (← c.self.view_is, c.opened_by.ensures) (number-lives (is_opened_by c.args.client c.args.number) c.self.inside.handles.rows)

pub returns-clause-opened : goal.returns-clause-opened
returns-clause-opened c =
    rw (← c.self.view_is, c.opened_by.ensures)
    (number-passes (is_opened_by c.args.client c.args.number) (is_opened_by c.args.client c.args.number) c.self.inside.handles.rows c.self.inside.handles.last c.self.invariant.0.handles_numbered (λ row passes. passes))
