use Rattle.fsa_types.specs.Places.{StandsAt}
use Rattle.fsa_types.proofs.PlaceLemmas.{AreRising-inserted, row_of-insert_own, row_of-inserted_other, row_of-missing}
use Rattle.tallies.proofs.charges.Charges.insert.Goals as goal
use Rattle.tallies.proofs.charges.Charges.insert.Goals.{in-Ok, in-Err}

pub invariant_of-self : goal.invariant_of-self
invariant_of-self c =
    let at : StandsAt c.self.inside.sums.items c.args.owner c.args.place = rw (← c.self.view_is) at c.requires in
    rw c.insert.ensures.items (AreRising-inserted _ c.self.inside.sums.items c.args.owner c.args.place c.args.bytes c.self.invariant at)

pub returns-clause-own : goal.returns-clause-own
returns-clause-own c =
    let at : StandsAt c.self.inside.sums.items c.args.owner c.args.place = rw (← c.self.view_is) at c.requires in
    elim c.match-insert.branch [
      | in-Ok w ↦ rw (w.result-is, c.insert.ensures.items, w.in-Ok.is) (row_of-insert_own c.self.inside.sums.items c.args.owner c.args.place c.args.bytes at)
      | in-Err w ↦ rw w.result-is tt
    ]

pub returns-clause-others : goal.returns-clause-others
returns-clause-others c =
    let at : StandsAt c.self.inside.sums.items c.args.owner c.args.place = rw (← c.self.view_is) at c.requires in
    rw (c.insert.ensures.items, ← c.self.view_is) (λ other apart. row_of-inserted_other _ c.self.inside.sums.items c.args.owner c.args.place c.args.bytes other at apart)

pub returns-clause-missing : goal.returns-clause-missing
returns-clause-missing c = row_of-missing c.args.self.now.sums c.args.owner c.args.place c.requires
