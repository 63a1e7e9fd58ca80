use Rattle.std.proofs.Common.{◌∙◌, arith}
use Rattle.std.proofs.lemmas.Grind.{common_steps}
use Rattle.std.proofs.lemmas.List.Edits.{map_over_more}
use Rattle.volume_state.specs.Watches.{asked_by}
use Rattle.volume_state.proofs.watches.ask_by.Goals as goal

pub loop-i-preserved : goal.loop-i-preserved
loop-i-preserved c = record {
  items = grind (arith, common_steps, map_over_more (asked_by c.args.client c.args.what.now));
  room = c.ask_row.ensures.room ∙ c.loop-i.invariant.room;
}
