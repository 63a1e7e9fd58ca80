use Rattle.fsa_model.proofs.SoundWaits.{IsSound-with_blockers}
use Rattle.volume_state.specs.Held.{is_there}
use Rattle.volume_state.specs.Content.{content_of}
use Rattle.volume_state.proofs.ThereLaws.{all-given, all-there, found-held, queue-held}
use Rattle.volume_state.proofs.WatchedLaws.{fewer-blockers, watched-fewer}
use Rattle.volume_state.proofs.volume.Volume.hold_anew.Goals as goal

pub hold_anew-requires-clause-held : goal.hold_anew-requires-clause-held
hold_anew-requires-clause-held c =
    let v = content_of c.self.inside in
    queue-held (is_there v.oplocks v.locks) c.self.inside.pending c.args.turn c.self.invariant.1 (found-held v.pending c.args.turn (rw (← c.self.view_is) at c.requires.there) (rw (← c.self.view_is) at c.requires.held))

pub hold_anew-requires-clause-under : goal.hold_anew-requires-clause-under
hold_anew-requires-clause-under c =
    found-held c.self.inside.pending.items c.args.turn (rw (← c.self.view_is) at c.requires.there) (rw (← c.self.view_is) at c.requires.held)

pub invariant_of-self : goal.invariant_of-self
invariant_of-self c =
    let v = content_of c.self.inside in
    let living = rw (← c.self.view_is) at c.requires.living in (
      rw c.hold_anew.ensures.items (IsSound-with_blockers v c.args.turn c.args.blockers.items c.self.invariant.0 (all-given v c.args.blockers.items c.self.invariant.0 living)),
      c.hold_anew.ensures.held (is_there v.oplocks v.locks) c.self.invariant.1 (all-there v c.args.blockers.items living),
      c.self.invariant.2,
      c.self.invariant.3,
      rw c.hold_anew.ensures.items (watched-fewer c.self.inside.handles.rows c.self.inside.links.rows c.self.inside.changes.changes c.self.inside.pending.items _ c.self.inside.watches.items (fewer-blockers c.self.inside.pending.items c.args.turn c.args.blockers.items) c.self.invariant.4),
      c.self.invariant.5,
    )
