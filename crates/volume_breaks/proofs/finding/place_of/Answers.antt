use Rattle.std.proofs.Common.{◌∙◌, sym}
use Rattle.volume_breaks.proofs.PlaceLemmas.{handle-place}
use Rattle.volume_breaks.proofs.finding.place_of.Goals as goal

pub returns-then-is_handle_at : goal.returns-then-is_handle_at
returns-then-is_handle_at c = handle-place c.args.oplocks.now c.partition_point-place.result c.args.handle c.requires.differ (sym c.is_handle_at.ensures ∙ c.if-is_handle_at.true)
