use Rattle.std.specs.Prelude.{[]}
use Rattle.fsa_model.specs.Lookups.{is_stream_named}
use Rattle.volume_state.specs.Content.{content_of}
use Rattle.volume_state.proofs.OpenLaws.{number-lives}
use Rattle.volume_state.proofs.OrderLaws.{default-first, default-none}
use Rattle.volume_state.proofs.volume.Volume.default_stream.Goals as goal

pub returns-clause-found : goal.returns-clause-found
returns-clause-found c = rw (← c.self.view_is) (rw c.table.ensures at c.named.ensures)

pub returns-clause-lives : goal.returns-clause-lives
returns-clause-lives c =
    rw (← c.self.view_is, c.named.ensures, c.table.ensures)
    (number-lives (is_stream_named c.self.inside.links.table c.args.file []) (content_of c.self.inside).streams)

pub returns-clause-first : goal.returns-clause-first
returns-clause-first c =
    rw (← c.self.view_is, c.named.ensures, c.table.ensures) (default-first (content_of c.self.inside) c.args.file c.self.invariant.0)

pub returns-clause-none : goal.returns-clause-none
returns-clause-none c =
    rw (← c.self.view_is, c.named.ensures, c.table.ensures) (default-none (content_of c.self.inside) c.args.file c.self.invariant.0)
