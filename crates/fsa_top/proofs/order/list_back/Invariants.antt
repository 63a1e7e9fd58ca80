use Rattle.script_read.specs.ScriptView.{contents}
use Rattle.fsa_top.proofs.OrderLaws.{ListedFrom}
use Rattle.fsa_top.proofs.order.list_back.Given as goal

abbrev pub invariant-loop-place : goal.invariant-loop-place
invariant-loop-place l = ListedFrom (contents l.script) l.place l.places l.following
