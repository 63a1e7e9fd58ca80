use Rattle.volume_state.specs.Content.{content_of}
use Rattle.volume_state.proofs.OrderLaws.{stream_after-lives, stream_after-none, stream_after-rest}
use Rattle.volume_state.proofs.volume.Volume.stream_after.Goals as goal

pub returns-clause-found : goal.returns-clause-found
returns-clause-found c = rw (← c.self.view_is) (rw c.table.ensures at c.after.ensures)

pub returns-clause-lives : goal.returns-clause-lives
returns-clause-lives c =
    rw (← c.self.view_is, c.after.ensures, c.table.ensures) (stream_after-lives (content_of c.self.inside) c.args.file c.args.units.now c.self.invariant.0)

pub returns-clause-rest : goal.returns-clause-rest
returns-clause-rest c =
    rw (← c.self.view_is, c.after.ensures, c.table.ensures) (stream_after-rest (content_of c.self.inside) c.args.file c.args.units.now c.self.invariant.0)

pub returns-clause-none : goal.returns-clause-none
returns-clause-none c =
    rw (← c.self.view_is, c.after.ensures, c.table.ensures) (stream_after-none (content_of c.self.inside) c.args.file c.args.units.now)
