use Rattle.std.proofs.Common.{◌∙◌, arith}
use Rattle.std.proofs.lemmas.Grind.{common_steps}
use Rattle.std.proofs.lemmas.List.Edits.{map_over_more}
use Rattle.notify_queue.specs.Log.{moved}
use Rattle.notify_queue.proofs.part.move_all.Goals as goal

pub loop-i-preserved : goal.loop-i-preserved
loop-i-preserved c = record {
  items = grind (arith, common_steps, map_over_more (moved c.args.unit c.args.dir));
  room = c.set.ensures.room ∙ c.loop-i.invariant.room;
}
