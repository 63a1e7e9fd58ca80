use Rattle.std.proofs.Common.{Some, ap, sym, ◌∙◌}
use Rattle.fsa_types.specs.declared.request.Call.{Call}
use Rattle.fsa_machine.proofs.StepLaws.{ready-call, ready-there}
use Rattle.fsa_machine.proofs.settle.held_call.Goals as goal

pub unreachable-requires : goal.unreachable-requires
unreachable-requires g c = ready-there (g.S.Store.content c.args.store.now) c.args.ready c.requires.may c.requires.next c.in_default.ensures

pub returns-clause-call : goal.returns-clause-call
returns-clause-call g c =
    sym (ready-call (g.S.Store.content c.args.store.now) c.args.ready c.requires.may c.requires.next) ∙ sym c.in-Some.ensures ∙ ap (λ (call : Call). Some call) (sym c.in-Ok.ensures)
