use Rattle.std.proofs.Common.{◌≡◌, true}
use Rattle.fsa_types.specs.Rows.{lives}
use Rattle.volume_tables.proofs.LockLemmas.{lives-some}
use Rattle.volume_state.specs.Content.{content_of}
use Rattle.fsa_model.proofs.SoundWaits.{IsSound-with_lock}
use Rattle.volume_state.proofs.ThereLaws.{held-with_lock}
use Rattle.volume_state.proofs.volume.Volume.add_lock.Goals as goal

pub add_lock-requires-clause-room : goal.add_lock-requires-clause-room
add_lock-requires-clause-room c = rw (← c.self.view_is) at c.requires.room

pub invariant_of-self : goal.invariant_of-self
invariant_of-self c =
    let v = content_of c.self.inside in
    let living : lives c.self.inside.handles.rows c.args.handle ≡ true = lives-some c.self.inside.handles.rows c.args.handle (rw (← c.self.view_is) at c.requires.stream) in (
      rw c.add_lock.ensures.locks (
          IsSound-with_lock v c.args.handle c.args.at c.args.count c.args.exclusive c.self.invariant.0 living (rw (← c.self.view_is) at c.requires.ids_left)),
      rw c.add_lock.ensures.locks (
          held-with_lock c.self.inside.oplocks.rows c.self.inside.handles.locks c.self.inside.pending c.self.inside.handles.last_lock c.self.inside.oplocks.last
          (record { handle = c.args.handle; at = c.args.at; count = c.args.count; exclusive = c.args.exclusive }) c.self.invariant.0.blockers_given c.self.invariant.1),
      c.self.invariant.2,
      rw c.add_lock.ensures.locks c.self.invariant.3,
      rw c.add_lock.ensures.locks c.self.invariant.4,
      c.self.invariant.5,
    )
