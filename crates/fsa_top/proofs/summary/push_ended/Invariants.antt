use Rattle.std.proofs.Common.{◌≡◌, ◌++◌, drop, map}
use Rattle.fsa_top.proofs.summary.push_ended.Given as goal

abbrev pub invariant-loop-end : goal.invariant-loop-end
invariant-loop-end l = l.ends.items ++ map (λ end. end.reply.status) (drop l.end-index l.ended) ≡ l.fn.ends.items ++ map (λ end. end.reply.status) l.ended
