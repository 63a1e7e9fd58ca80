use Rattle.std.proofs.Common.{sym}
use Rattle.std.proofs.lemmas.List.{append-nil}
use Rattle.fsa_types.specs.LittleEndian.{zeros}
use Rattle.pack_info.proofs.NumberLaws.{zeros_next}
use Rattle.pack_info.proofs.number.push_zeros.Goals as goal

pub loop-init : goal.loop-init
unfolding zeros
loop-init c = sym (append-nil c.args.out.now.items)

pub loop-preserved : goal.loop-preserved
loop-preserved c = zeros_next c.args.out.now.items c.loop.out.items c.push.new.self.items c.loop.counter c.loop.invariant c.in_ok-push.ensures.items
