use Rattle.std.proofs.Common.{◌∙◌, sym}
use Rattle.volume_breaks.proofs.WaitingLemmas.{is_at-place}
use Rattle.volume_breaks.proofs.pending_calls.place_of.Goals as goal

pub returns-then-is_at : goal.returns-then-is_at
returns-then-is_at c = is_at-place c.args.rows.now c.partition_point-place.result c.args.turn c.requires.differ (sym c.is_at.ensures ∙ c.if-is_at.true)
