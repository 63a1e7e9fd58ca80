use Rattle.std.proofs.Common.{◌≡◌, List, Some, length, refl, subst}
use Rattle.std.specs.Prelude.{slice_get}
use Rattle.std.proofs.lemmas.Option.{slice_get_read}
use Rattle.fsa_machine.specs.declared.kept.KeptTurn.{KeptTurn}
use Rattle.fsa_machine.proofs.StandLaws.{call-in}
use Rattle.fsa_machine.proofs.machine.StoreMachine.call_at.Goals as goal

pub returns : goal.returns
returns g c =
    let found = slice_get_read c.deref.result.now (length c.deref.result.now) c.args.i c.in-Some.kept.now refl c.in-Some.ensures.lookup.3.0 c.in-Some.ensures.lookup.1 in
    rw (← c.self.view_is) (call-in c.self.inside.kept.items c.args.i c.in-Some.kept.now (subst (λ (turns : List KeptTurn). slice_get turns c.args.i ≡ Some c.in-Some.kept.now) c.deref.ensures.value found))
