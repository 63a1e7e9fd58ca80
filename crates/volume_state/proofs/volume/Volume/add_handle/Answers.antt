use Rattle.std.proofs.Common.{◌+◌, ◌∷◌, []}
use Rattle.fsa_model.proofs.SoundLaws.{IsSound-with_handle}
use Rattle.volume_state.specs.Content.{content_of}
use Rattle.volume_state.proofs.SortedLaws.{sorted-added}
use Rattle.volume_state.proofs.WatchedLaws.{watched-handle_added}
use Rattle.volume_state.proofs.volume.Volume.add_handle.Goals as goal

pub invariant_of-self : goal.invariant_of-self
invariant_of-self c = (
  (rw c.add.ensures.rows
      (IsSound-with_handle (content_of c.self.inside) c.args.row c.self.invariant.0
      (rw (← c.self.view_is) at c.requires.ids_left) (rw (← c.self.view_is) at c.requires.living) (rw (← c.self.view_is) at c.requires.stream)
      (rw (← c.self.view_is) at c.requires.new) (rw (← c.self.view_is) at c.requires.client))),
  rw c.add.ensures.rows c.self.invariant.1,
  c.self.invariant.2,
  rw c.add.ensures.rows (sorted-added c.self.inside.handles.rows ((c.self.inside.handles.last + 1, c.args.row) ∷ []) c.self.inside.oplocks.rows c.self.inside.oplocks.tables c.self.invariant.3),
  rw c.add.ensures.rows (watched-handle_added c.self.inside.handles.rows _ c.self.inside.links.rows c.self.inside.changes.changes c.self.inside.pending.items c.self.inside.watches.items c.self.invariant.4),
  c.self.invariant.5,
)
