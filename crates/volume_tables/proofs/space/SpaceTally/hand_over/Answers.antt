use Rattle.std.proofs.Common.{arith}
use Rattle.volume_tables.proofs.SpaceLemmas.{charged-less, handed-over}
use Rattle.volume_tables.proofs.space.SpaceTally.hand_over.Goals as goal

pub resize-requires-2 : goal.resize-requires-2
resize-requires-2 c = record {
  there = c.resize.ensures.there c.args.to c.requires.to;
  charged = omega arith;
  counted = omega arith;
  fits = let less = charged-less c.args.self.now c.resize.new.self c.args.from c.args.to c.args.clusters c.resize.ensures in let fits = c.requires.fits in omega arith;
  few = let even = c.resize.ensures.clusters in let few = c.requires.from.few in omega arith;
}

pub returns : goal.returns
returns c = handed-over c.args.self.now c.resize.new.self c.resize-2.new.self c.args.from c.args.to c.args.clusters c.resize.ensures c.resize-2.ensures
