use Rattle.std.proofs.Common.{refl}
use Rattle.fsa_model.proofs.SoundLaws.{IsSound-without_handle}
use Rattle.volume_breaks.proofs.ReleaseLemmas.{lose-same}
use Rattle.volume_state.specs.Content.{content_of}
use Rattle.volume_state.proofs.ThereLaws.{held-without_handle}
use Rattle.volume_state.proofs.SortedLaws.{homes-fit, sorted-removed}
use Rattle.volume_state.proofs.WatchedLaws.{watched-without_handle, watches-dropped}
use Rattle.volume_state.proofs.KeptLaws.{kept-dropped}
use Rattle.volume_state.proofs.volume.Volume.drop_handle.Goals as goal

pub invariant_of-self : goal.invariant_of-self
invariant_of-self c = (
  rw (c.remove.ensures.rows, c.drop_of.ensures.rows, c.drop_watch.ensures.watches, watches-dropped c.args.handle c.self.inside.watches.items, c.release_breaks.ensures.others, c.release_locks.ensures.others) (
      IsSound-without_handle (content_of c.self.inside) c.args.handle c.self.invariant.0),
  rw (c.remove.ensures.rows, c.drop_of.ensures.rows) (
      held-without_handle c.self.inside.oplocks.rows c.self.inside.handles.locks c.self.inside.pending c.release_locks.new.pending c.release_breaks.new.pending c.args.handle
      c.self.inside.handles.last_lock c.self.inside.oplocks.last c.self.invariant.0.locks_numbered c.self.invariant.0.oplocks
      (lose-same c.self.inside.pending c.release_locks.new.pending c.locks_beside.result.now c.self.inside.handles.locks c.args.handle c.locks_beside.ensures c.release_locks.ensures.held) (rw c.as_slice.ensures at c.release_breaks.ensures.held) c.self.invariant.1),
  c.self.invariant.2,
  rw (c.remove.ensures.rows, c.drop_of.ensures.rows) (sorted-removed c.self.inside.handles.rows c.args.handle c.self.inside.oplocks.rows c.drop_of.new.self.tables (rw c.drop_of.ensures.rows at c.drop_of.ensures.sorted)),
  rw (c.remove.ensures.rows, c.drop_watch.ensures.watches, c.release_breaks.ensures.others, c.release_locks.ensures.others) (watched-without_handle c.self.inside.handles.rows c.args.handle c.self.inside.links.rows c.self.inside.changes.changes c.self.inside.pending.items c.self.inside.watches.items c.self.invariant.4),
  rw c.drop_watch.ensures.watches (kept-dropped c.self.inside.changes.base _ c.self.inside.watches.items c.args.handle c.self.invariant.5),
)

pub drop_of-requires-clause-fit : goal.drop_of-requires-clause-fit
drop_of-requires-clause-fit c = homes-fit (content_of c.self.inside) c.self.invariant.0

pub returns-clause-content : goal.returns-clause-content
returns-clause-content c =
    rw (← c.self.view_is, c.remove.ensures.rows, c.drop_of.ensures.rows, c.drop_watch.ensures.watches, watches-dropped c.args.handle c.self.inside.watches.items, c.release_breaks.ensures.others, c.release_locks.ensures.others) refl
