use Rattle.std.proofs.Common.{◌^◌, ◌*◌}
use Rattle.std.proofs.Math.Nat.{mod-add-mod}
use Rattle.script_read.proofs.generator.next_state.Goals as goal

pub returns : goal.returns
returns c = mod-add-mod (c.args.state * 6364136223846793005) (2 ^ 64) 1442695040888963407
