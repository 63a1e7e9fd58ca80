use Rattle.std.proofs.Common.{List, map, sym, subst}
use Rattle.fsa_machine.specs.Kept.{kept_entry, out_kept}
use Rattle.fsa_machine.specs.MachineView.{RunsTo, setup_in}
use Rattle.fsa_machine.specs.declared.kept.KeptTurn.{KeptTurn}
use Rattle.fsa_machine.proofs.SpareLaws.{none-spare}
use Rattle.fsa_machine.proofs.StandLaws.{RunsTo-begins}
use Rattle.fsa_machine.proofs.machine.StoreMachine.over.Goals as goal

pub invariant_of-result : goal.invariant_of-result
invariant_of-result g c = (
  rw c.trim.ensures.content
      (subst (λ (kept : List KeptTurn). RunsTo (setup_in (g.S.Store.content c.args.store)) (map kept_entry kept) (map out_kept kept) (g.S.Store.content c.args.store)) (sym c.new-kept.ensures.items)
      (RunsTo-begins (setup_in (g.S.Store.content c.args.store)) (g.S.Store.content c.args.store) c.requires.fresh)),
  none-spare _ _ _ _ _ _ c.none-spare.ensures,
  c.trim.ensures.trimmed,
)
