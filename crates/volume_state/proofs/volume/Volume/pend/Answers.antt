use Rattle.std.proofs.Common.{refl}
use Rattle.fsa_model.proofs.RowLaws.{none-all}
use Rattle.fsa_model.proofs.SoundWaits.{IsSound-with_pending}
use Rattle.volume_state.specs.Held.{is_there}
use Rattle.volume_state.specs.Content.{content_of}
use Rattle.volume_state.proofs.ThereLaws.{all-given, all-there}
use Rattle.volume_state.proofs.WatchedLaws.{watched-asked, watches-asked}
use Rattle.volume_state.proofs.KeptLaws.{kept-asked}
use Rattle.volume_state.proofs.volume.Volume.pend.Goals as goal

pub invariant_of-self : goal.invariant_of-self
invariant_of-self c =
    let v = content_of c.self.inside in
    let living = rw (← c.self.view_is) at c.requires.living in (
      rw (c.pend.ensures.items, c.ask_by.ensures.items, watches-asked) (
          IsSound-with_pending v c.args.turn c.args.call c.args.blockers.items c.self.invariant.0 (rw (← c.self.view_is) at c.requires.client)
          (none-all _ v.pending (rw (← c.self.view_is) at c.requires.new_call)) (none-all _ v.pending (rw (← c.self.view_is) at c.requires.new_turn))
          (all-given v c.args.blockers.items c.self.invariant.0 living)),
      c.pend.ensures.held (is_there v.oplocks v.locks) c.self.invariant.1 (all-there v c.args.blockers.items living),
      c.self.invariant.2,
      c.self.invariant.3,
      rw (c.ask_by.ensures.items, c.pend.ensures.items) (watched-asked c.self.inside.handles.rows c.self.inside.links.rows c.self.inside.changes.changes c.self.inside.pending.items c.self.inside.watches.items c.args.turn _ c.self.invariant.4),
      rw c.ask_by.ensures.items (kept-asked c.self.inside.changes.base _ c.self.inside.watches.items c.args.call.client c.args.call.what c.self.invariant.5),
    )

pub returns-clause-content : goal.returns-clause-content
returns-clause-content c = rw (← c.self.view_is, c.pend.ensures.items, c.ask_by.ensures.items, watches-asked) refl
