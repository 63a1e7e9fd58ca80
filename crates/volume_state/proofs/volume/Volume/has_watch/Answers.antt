use Rattle.std.proofs.Common.{◌∙◌}
use Rattle.volume_state.proofs.WatchedLaws.{has-watch}
use Rattle.volume_state.proofs.volume.Volume.has_watch.Goals as goal

pub returns : goal.returns
returns c = c.is_some.ensures ∙ rw (← c.self.view_is) (has-watch c.self.inside.watches.items c.args.handle c.find_watch.result (rw c.as_slice.ensures at c.find_watch.ensures))
