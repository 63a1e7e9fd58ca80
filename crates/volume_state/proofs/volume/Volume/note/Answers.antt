use Rattle.std.proofs.Common.{rules, refl}
use Rattle.volume_state.specs.Content.{content_of}
use Rattle.volume_state.proofs.WatchLaws.{IsSound-with_changes}
use Rattle.volume_state.proofs.WatchedLaws.{watched-noted, watches-noted}
use Rattle.volume_state.proofs.KeptLaws.{kept-noted, last-kept}
use Rattle.volume_state.proofs.volume.Volume.note.Goals as goal

pub pass_change-requires : goal.pass_change-requires
pass_change-requires c = record {
  kept = rw (c.log.ensures.base, c.log.ensures.changes, c.note.ensures.base, c.note.ensures.changes) (last-kept c.self.inside.changes.base c.self.inside.changes.changes _ c.self.invariant.5.within);
}

pub invariant_of-self : goal.invariant_of-self
invariant_of-self c = (
  rw (c.pass_change.ensures.items, watches-noted) (IsSound-with_changes (content_of c.self.inside) _ c.self.invariant.0),
  c.self.invariant.1,
  c.self.invariant.2,
  c.self.invariant.3,
  rw (c.pass_change.ensures.items, c.log.ensures.changes, c.note.ensures.changes)
      (watched-noted c.self.inside.handles.rows c.self.inside.links.rows c.self.inside.changes.changes _ c.self.inside.pending.items c.self.inside.watches.items c.self.invariant.4),
  rw (c.pass_change.ensures.items, c.note.ensures.base, c.note.ensures.changes) (kept-noted c.self.inside.changes.base c.self.inside.changes.changes _ c.self.inside.watches.items c.log.result.now.changes c.self.inside.pending.items c.self.invariant.5),
)

pub returns-clause-content : goal.returns-clause-content
returns-clause-content c = rw (c.pass_change.ensures.items, watches-noted) (search rules)

pub returns-clause-rest : goal.returns-clause-rest
returns-clause-rest c = rw (← c.self.view_is, c.pass_change.ensures.items, watches-noted) refl
