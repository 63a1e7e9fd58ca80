use Rattle.std.proofs.Common.{◌∙◌, arith}
use Rattle.std.proofs.lemmas.Grind.{common_steps}
use Rattle.std.proofs.lemmas.List.Edits.{map_over_more}
use Rattle.volume_state.specs.Watches.{row_begun}
use Rattle.volume_state.proofs.watches.begin_at.Goals as goal

pub loop-i-preserved : goal.loop-i-preserved
loop-i-preserved c = record {
  items = grind (arith, common_steps, map_over_more (row_begun c.args.handle c.args.place));
  room = c.begin_row.ensures.room ∙ c.loop-i.invariant.room;
}
