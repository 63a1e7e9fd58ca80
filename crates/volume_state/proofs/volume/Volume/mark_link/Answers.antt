use Rattle.std.proofs.Common.{refl}
use Rattle.fsa_model.proofs.SoundLaws.{IsSound-with_link_marked}
use Rattle.volume_state.specs.Content.{content_of}
use Rattle.volume_state.proofs.MarkLaws.{units_noted-link_marked, dirs_noted-link_marked}
use Rattle.volume_state.proofs.WatchedLaws.{watched-link_changed}
use Rattle.volume_state.proofs.volume.Volume.mark_link.Goals as goal

pub invariant_of-self : goal.invariant_of-self
invariant_of-self c = (
  (rw (c.mark.ensures.table, c.mark.ensures.rows, c.mark.ensures.last)
      (IsSound-with_link_marked (content_of c.self.inside) c.args.link c.args.deleted c.self.invariant.0 (rw (← c.self.view_is) at c.requires.empty))),
  c.self.invariant.1,
  c.self.invariant.2,
  c.self.invariant.3,
  rw c.mark.ensures.rows (watched-link_changed (λ link. record link { deleted = c.args.deleted }) c.self.inside.handles.rows c.self.inside.links.rows c.args.link c.self.inside.changes.changes c.self.inside.pending.items c.self.inside.watches.items (λ link. refl) c.self.invariant.4),
  c.self.invariant.5,
)

pub returns-clause-units : goal.returns-clause-units
returns-clause-units c = rw (← c.self.view_is, c.mark.ensures.rows) (λ other stream. units_noted-link_marked (content_of c.self.inside) c.args.link c.args.deleted other stream)

pub returns-clause-dirs : goal.returns-clause-dirs
returns-clause-dirs c = rw (← c.self.view_is, c.mark.ensures.rows) (λ other stream. dirs_noted-link_marked (content_of c.self.inside) c.args.link c.args.deleted other stream)
