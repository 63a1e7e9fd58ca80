use Rattle.fsa_model.proofs.BreakLaws.{IsSound-with_end}
use Rattle.volume_state.specs.Held.{is_there}
use Rattle.volume_state.specs.Content.{content_of}
use Rattle.volume_state.proofs.WatchedLaws.{fewer-filter, watched-fewer}
use Rattle.volume_state.proofs.volume.Volume.end.Goals as goal

pub invariant_of-self : goal.invariant_of-self
invariant_of-self c = (
  rw (c.end_call.ensures.pending, c.end_call.ensures.ended) (IsSound-with_end (content_of c.self.inside) c.args.client c.args.number c.args.reply c.self.invariant.0),
  c.end_call.ensures.held (is_there c.self.inside.oplocks.rows c.self.inside.handles.locks) c.self.invariant.1,
  c.self.invariant.2,
  c.self.invariant.3,
  rw c.end_call.ensures.pending (watched-fewer c.self.inside.handles.rows c.self.inside.links.rows c.self.inside.changes.changes c.self.inside.pending.items _ c.self.inside.watches.items (fewer-filter _ c.self.inside.pending.items) c.self.invariant.4),
  c.self.invariant.5,
)
