use Rattle.std.proofs.Common.{refl, sym}
use Rattle.volume_state.specs.Content.{content_of}
use Rattle.volume_state.proofs.KeptLaws.{found-kept}
use Rattle.volume_state.proofs.WatchedLaws.{due-in, quiet-row, unwatched}
use Rattle.volume_state.proofs.volume.Volume.watch_on.Goals as goal

pub returns-in_default-clause-none : goal.returns-in_default-clause-none
returns-in_default-clause-none c =
    rw (← c.self.view_is) (unwatched (content_of c.self.inside) c.self.inside.watches.items c.args.handle refl (rw c.as_slice.ensures at (sym c.in_default.ensures)))

pub returns-then-not-row-clause-none : goal.returns-then-not-row-clause-none
returns-then-not-row-clause-none c =
    rw (← c.self.view_is) (quiet-row (content_of c.self.inside) c.self.inside.watches.items c.args.handle c.in-Some.row.now refl c.self.invariant.4
    (rw c.as_slice.ensures at (sym c.in-Some.ensures)) c.if-not-row.true)

pub returns-clause-due : goal.returns-clause-due
returns-clause-due c =
    rw (← c.self.view_is) (due-in (content_of c.self.inside) c.self.inside.watches.items c.args.handle c.in-Some-dir_of.dir c.in-Some.row.now refl
    (rw c.as_slice.ensures at (sym c.in-Some.ensures)) (rw (← c.self.view_is) at (sym c.in-Some-dir_of.ensures)))

pub returns-clause-kept : goal.returns-clause-kept
returns-clause-kept c =
    rw (← c.self.view_is) (found-kept c.self.inside.changes.base _ c.self.inside.watches.items c.args.handle c.in-Some.row.now c.self.invariant.5 (rw c.as_slice.ensures at (sym c.in-Some.ensures)))
