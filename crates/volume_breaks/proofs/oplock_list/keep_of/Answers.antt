use Rattle.std.proofs.Common.{arith}
use Rattle.std.proofs.lemmas.Grind.{common_steps}
use Rattle.std.proofs.lemmas.List.Edits.{map_over_more}
use Rattle.fsa_types.specs.OplockGrants.{as_answered}
use Rattle.volume_breaks.proofs.oplock_list.keep_of.Goals as goal

pub loop-row-preserved : goal.loop-row-preserved
loop-row-preserved c = grind (arith, common_steps, map_over_more (as_answered c.args.handle c.args.level c.args.turn))
