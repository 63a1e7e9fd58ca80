use Rattle.fsa_model.specs.Lookups.{is_stream_named}
use Rattle.volume_state.specs.Content.{content_of}
use Rattle.volume_state.proofs.OpenLaws.{number-lives, found-of_link}
use Rattle.volume_state.proofs.volume.Volume.stream_of.Goals as goal

pub returns-clause-found : goal.returns-clause-found
returns-clause-found c = rw (← c.self.view_is) (rw c.table.ensures at c.named.ensures)

pub returns-clause-lives : goal.returns-clause-lives
returns-clause-lives c =
    rw (← c.self.view_is, c.named.ensures, c.table.ensures)
    (number-lives (is_stream_named c.self.inside.links.table c.args.file c.args.units.now) (content_of c.self.inside).streams)

pub returns-clause-of_link : goal.returns-clause-of_link
returns-clause-of_link c =
    rw (← c.self.view_is, c.named.ensures, c.table.ensures)
    (found-of_link c.self.inside.links.table c.self.inside.links.rows (content_of c.self.inside).streams c.args.file c.args.units.now)
