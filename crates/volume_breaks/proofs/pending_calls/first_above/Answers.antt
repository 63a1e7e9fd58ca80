use Rattle.std.proofs.Common.{◌∙◌}
use Rattle.volume_breaks.proofs.OrderLemmas.{first-above}
use Rattle.volume_breaks.proofs.pending_calls.first_above.Goals as goal

pub returns : goal.returns
returns c = c.turn_at.ensures ∙ first-above c.args.rows.now c.end_of.result c.args.after c.requires.rising c.end_of.ensures.bound c.end_of.ensures.point
