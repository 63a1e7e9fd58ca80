use Rattle.fsa_types.specs.Places.{IsAt}
use Rattle.fsa_types.proofs.PlaceLemmas.{row_of-set_own, row_of-set_other}
use Rattle.tallies.proofs.charges.Charges.put.Goals as goal

pub returns-clause-own : goal.returns-clause-own
returns-clause-own c =
    let at : IsAt c.self.inside.sums.items c.args.owner c.args.place = rw (← c.self.view_is) at c.requires in
    row_of-set_own c.self.inside.sums.items c.args.owner c.args.place c.args.bytes c.self.invariant at

pub returns-clause-others : goal.returns-clause-others
returns-clause-others c =
    let at : IsAt c.self.inside.sums.items c.args.owner c.args.place = rw (← c.self.view_is) at c.requires in
    rw (← c.self.view_is) (λ other apart. row_of-set_other c.self.inside.sums.items c.args.owner c.args.place c.args.bytes other at apart)
