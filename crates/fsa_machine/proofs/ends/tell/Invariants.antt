use Rattle.std.proofs.Common.{◌-◌, length}
use Rattle.fsa_machine.proofs.TellLaws.{Tells}
use Rattle.fsa_machine.proofs.ends.tell.Given as goal

abbrev pub invariant-ends : goal.invariant-ends
invariant-ends g l = Tells (g.S.Store.content l.store).ended l.from l.place l.fn.ended l.ended

abbrev pub decreases-ends : goal.decreases-ends
decreases-ends g l = length (g.S.Store.content l.store).ended - l.place
