use Rattle.fsa_model.specs.Lookups.{is_named}
use Rattle.volume_state.proofs.OpenLaws.{number-lives}
use Rattle.volume_state.proofs.volume.Volume.child.Goals as goal

pub returns-clause-lives : goal.returns-clause-lives
returns-clause-lives c = rw (← c.self.view_is, c.child.ensures) (number-lives (is_named c.self.inside.links.table c.args.parent c.args.units.now) c.self.inside.links.rows)
