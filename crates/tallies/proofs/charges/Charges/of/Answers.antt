use Rattle.std.proofs.Common.{ap, refl}
use Rattle.fsa_types.proofs.RowLemmas.{row_of-at}
use Rattle.fsa_types.specs.Places.{IsAt, StandsAt}
use Rattle.fsa_types.proofs.PlaceLemmas.{row_of-missing}
use Rattle.tallies.proofs.charges.Charges.of.Goals as goal

pub returns-in-Ok : goal.returns-in-Ok
returns-in-Ok c =
    let at : IsAt c.self.inside.sums.items c.args.owner c.in-Ok.place = rw c.deref.ensures.value at c.in-Ok.ensures.there in
    let found = row_of-at c.self.inside.sums.items c.in-Ok.place c.index.result.now c.args.owner c.self.invariant at.within (at.here c.index.result.now) in
    rw (← c.self.view_is, found) (ap (λ e. e.1) c.index.ensures)

pub returns-in-Err : goal.returns-in-Err
returns-in-Err c =
    let at : StandsAt c.self.inside.sums.items c.args.owner c.in-Err.field-0 = rw c.deref.ensures.value at c.in-Err.ensures.missing in
    rw (← c.self.view_is, row_of-missing c.self.inside.sums.items c.args.owner c.in-Err.field-0 at) refl
