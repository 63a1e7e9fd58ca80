use Rattle.std.proofs.Common.{◌∙◌, arith}
use Rattle.std.proofs.lemmas.Grind.{common_steps}
use Rattle.std.proofs.lemmas.List.Edits.{map_over_more}
use Rattle.volume_state.specs.Watches.{row_noted}
use Rattle.volume_state.proofs.watches.pass_change.Goals as goal

pub loop-i-preserved : goal.loop-i-preserved
loop-i-preserved c = record {
  items = grind (arith, common_steps, map_over_more (row_noted c.args.log.now.changes c.args.pending.now.items));
  room = c.note_row.ensures.room ∙ c.loop-i.invariant.room;
}
