use Rattle.std.proofs.Common.{sym}
use Rattle.volume_state.proofs.WatchedLaws.{notify-unnamed}
use Rattle.volume_state.proofs.watches.has_notify.Goals as goal

pub returns-in_default : goal.returns-in_default
returns-in_default c = notify-unnamed c.args.pending.now.items c.args.client c.args.handle c.in_default.ensures

pub returns-then-is_notify_under : goal.returns-then-is_notify_under
returns-then-is_notify_under c = sym (c.is_notify_under.ensures c.if-is_notify_under.true)
