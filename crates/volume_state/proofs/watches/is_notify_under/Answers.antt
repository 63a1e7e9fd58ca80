use Rattle.std.proofs.Common.{◌∙◌, sym}
use Rattle.volume_state.proofs.WatchedLaws.{notify-under}
use Rattle.volume_state.proofs.watches.is_notify_under.Goals as goal

pub returns-in-Some : goal.returns-in-Some
returns-in-Some c = λ is. notify-under c.args.pending.now.items c.args.turn c.args.client c.args.handle c.in-Some.call.now c.in-Some.ensures (sym c.is_notify_by.ensures ∙ is)
