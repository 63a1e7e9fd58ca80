use Rattle.std.proofs.Common.{refl}
use Rattle.fsa_model.proofs.SoundWaits.{IsSound-with_cursor}
use Rattle.volume_rows.specs.Cursors.{cursor_of}
use Rattle.volume_state.specs.Content.{content_of}
use Rattle.volume_state.proofs.SortedLaws.{sorted-changed}
use Rattle.volume_state.proofs.WatchedLaws.{watched-handle_changed}
use Rattle.volume_state.proofs.volume.Volume.set_cursor.Goals as goal

pub invariant_of-self : goal.invariant_of-self
invariant_of-self c = (
  rw (c.set_enumeration.ensures, c.new.ensures) (IsSound-with_cursor (content_of c.self.inside) c.args.handle c.args.expression (cursor_of c.args.cursor) c.self.invariant.0),
  rw c.set_enumeration.ensures c.self.invariant.1,
  c.self.invariant.2,
  rw c.set_enumeration.ensures (sorted-changed c.self.inside.handles.rows _ c.args.handle c.self.inside.oplocks.rows c.self.inside.oplocks.tables (λ row. refl) c.self.invariant.3),
  rw c.set_enumeration.ensures (watched-handle_changed _ c.self.inside.handles.rows c.args.handle c.self.inside.links.rows c.self.inside.changes.changes c.self.inside.pending.items c.self.inside.watches.items (λ row. (refl, refl, refl)) c.self.invariant.4),
  c.self.invariant.5,
)
