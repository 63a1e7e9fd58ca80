use Rattle.fsa_model.proofs.HeldLaws.{run-blocked, run-holds, run-settling_holds}
use Rattle.fsa_model.proofs.law.a_held_call_has_living_blockers.Goals as goal

pub returns : goal.returns
returns c = record { own = run-holds; taken = run-settling_holds; blocked = run-blocked }
