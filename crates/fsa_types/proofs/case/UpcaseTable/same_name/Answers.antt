use Rattle.std.specs.Cmp.Lexicographic.{texts_ties}
use Rattle.fsa_types.specs.CaseTable.{upcased}
use Rattle.fsa_types.proofs.case.UpcaseTable.same_name.Goals as goal

pub returns : goal.returns
returns c = rw (texts_ties (upcased c.args.self.now c.args.a.now) (upcased c.args.self.now c.args.b.now), ← c.cmp_name.ensures) c.is_eq.ensures
