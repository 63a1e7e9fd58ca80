use Rattle.std.proofs.Common.{refl}
use Rattle.fsa_model.proofs.MoveLaws.{IsSound-moved, free-named}
use Rattle.fsa_model.proofs.SoundLaws.{tree_of}
use Rattle.volume_state.specs.Content.{content_of}
use Rattle.volume_state.proofs.MovedLaws.{units_noted-moved, dirs_noted-moved}
use Rattle.volume_state.proofs.WatchedLaws.{watched-link_changed}
use Rattle.volume_state.proofs.volume.Volume.move_link.Goals as goal

pub invariant_of-self : goal.invariant_of-self
invariant_of-self c = (
  (rw (c.move_to.ensures.table, c.move_to.ensures.rows, c.move_to.ensures.last)
      (IsSound-moved (content_of c.self.inside) c.args.link c.args.parent c.args.name c.self.invariant.0
      (rw (← c.self.view_is) at c.requires.parent) (rw (← c.self.view_is) at c.requires.leads)
      (rw (← c.self.view_is) at c.requires.unmarked) (rw (← c.self.view_is) at c.requires.not_below) (rw (← c.self.view_is) at c.requires.free))),
  c.self.invariant.1,
  c.self.invariant.2,
  c.self.invariant.3,
  rw c.move_to.ensures.rows (watched-link_changed (λ link. record link { parent = c.args.parent; name = c.args.name }) c.self.inside.handles.rows c.self.inside.links.rows c.args.link c.self.inside.changes.changes c.self.inside.pending.items c.self.inside.watches.items (λ link. refl) c.self.invariant.4),
  c.self.invariant.5,
)

pub returns-clause-units : goal.returns-clause-units
returns-clause-units c =
    rw (← c.self.view_is, c.move_to.ensures.rows) (λ stream. units_noted-moved (content_of c.self.inside) c.args.link c.args.parent c.args.name stream c.self.invariant.0
    (rw (← c.self.view_is) at c.requires.parent) (rw (← c.self.view_is) at c.requires.not_below))

pub returns-clause-dirs : goal.returns-clause-dirs
returns-clause-dirs c =
    rw (← c.self.view_is, c.move_to.ensures.rows) (λ stream. dirs_noted-moved (content_of c.self.inside) c.args.link c.args.parent c.args.name stream c.self.invariant.0
    (rw (← c.self.view_is) at c.requires.parent) (rw (← c.self.view_is) at c.requires.not_below))

pub move_to-requires-clause-free : goal.move_to-requires-clause-free
move_to-requires-clause-free c = free-named (content_of c.self.inside) c.args.link c.args.parent c.args.name
    (tree_of (content_of c.self.inside) c.self.invariant.0) (rw (← c.self.view_is) at c.requires.free)
