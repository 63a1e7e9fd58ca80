use Rattle.std.proofs.Common.{refl}
use Rattle.volume_state.specs.Content.{content_of}
use Rattle.volume_state.proofs.WatchLaws.{IsSound-with_watch_seen}
use Rattle.volume_state.proofs.WatchedLaws.{watched-begun, watches-begun}
use Rattle.volume_state.proofs.KeptLaws.{kept-begun}
use Rattle.volume_state.proofs.volume.Volume.take_report.Goals as goal

pub invariant_of-self : goal.invariant_of-self
invariant_of-self c = (
  rw (c.begin_at.ensures.items, c.len-place.ensures, c.log.ensures.changes, watches-begun) (IsSound-with_watch_seen (content_of c.self.inside) c.args.handle c.self.invariant.0),
  c.self.invariant.1,
  c.self.invariant.2,
  c.self.invariant.3,
  rw (c.begin_at.ensures.items, c.len-place.ensures, c.log.ensures.changes) (watched-begun c.self.inside.handles.rows c.self.inside.links.rows c.self.inside.changes.changes c.self.inside.pending.items c.self.inside.watches.items c.args.handle c.self.invariant.4),
  rw (c.begin_at.ensures.items, c.len-place.ensures, c.log.ensures.changes) (kept-begun c.self.inside.changes.base _ c.self.inside.watches.items c.args.handle c.self.invariant.5),
)

pub returns-clause-seen : goal.returns-clause-seen
returns-clause-seen c = rw (← c.self.view_is, c.begin_at.ensures.items, c.len-place.ensures, c.log.ensures.changes, watches-begun) refl
