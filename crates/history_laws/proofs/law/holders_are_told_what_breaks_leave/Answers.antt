use Rattle.history_laws.proofs.AsToldCalls.{left-as_told}
use Rattle.history_laws.proofs.ToldCalls.{told-of_oplocks}
use Rattle.history_laws.proofs.TurnTargets.{told-targets}
use Rattle.history_laws.proofs.law.holders_are_told_what_breaks_leave.Goals as goal

pub returns : goal.returns
returns c = record { of_oplock = told-of_oplocks; target = told-targets; as_told = left-as_told }
