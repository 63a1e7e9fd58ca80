use Rattle.std.proofs.Common.{◌≡◌, Some, sym, ◌∙◌}
use Rattle.fsa_model.specs.Edits.{is_lock_on}
use Rattle.fsa_model.specs.Lookups.{number_of}
use Rattle.fsa_model.proofs.SoundWaits.{IsSound-without_lock}
use Rattle.volume_state.specs.Content.{content_of}
use Rattle.volume_state.proofs.ThereLaws.{held-without_lock}
use Rattle.volume_state.proofs.volume.Volume.drop_lock.Goals as goal

pub invariant_of-self-2 : goal.invariant_of-self-2
invariant_of-self-2 c =
    let found : number_of (is_lock_on c.args.handle c.args.at c.args.count) c.self.inside.handles.locks ≡ Some c.in-Some.number = sym c.remove_lock.ensures.number ∙ c.in-Some.is in (
      rw (c.ended.ensures, c.remove_lock.ensures.locks) (IsSound-without_lock (content_of c.self.inside) c.args.handle c.args.at c.args.count c.self.invariant.0),
      rw (c.ended.ensures, c.remove_lock.ensures.locks, found) (
          held-without_lock c.self.inside.oplocks.rows c.self.inside.handles.locks c.self.inside.pending c.in-Some.number c.self.invariant.1),
      c.self.invariant.2,
      rw c.remove_lock.ensures.locks c.self.invariant.3,
      rw (c.remove_lock.ensures.locks, c.ended.ensures) c.self.invariant.4,
      c.self.invariant.5,
    )
