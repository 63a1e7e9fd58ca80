use Rattle.std.proofs.Common.{ap, length, arith}
use Rattle.pack_info.proofs.NumberLaws.{length-name_of}
use Rattle.pack_info.proofs.entry.size_of_name.Goals as goal

pub returns : goal.returns
returns c = omega (arith, length-name_of c.args.kind c.args.units.now, ap length c.before-2.ensures, ap length c.after.ensures)
