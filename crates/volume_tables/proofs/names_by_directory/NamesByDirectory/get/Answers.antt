use Rattle.std.proofs.Common.{◌∙◌, ◌^◌, ℕ, ap, sym}
use Rattle.slab.specs.Slab.{get}
use Rattle.fsa_types.specs.Places.{IsAt, StandsAt}
use Rattle.volume_tables.proofs.ShareLemmas.{row-in, row-none}
use Rattle.volume_tables.proofs.names_by_directory.NamesByDirectory.get.Goals as goal

pub returns-in-Ok : goal.returns-in-Ok
returns-in-Ok c =
    let i = c.self.inside in
    let at : IsAt i.places.items c.args.dir c.in-Ok.place = rw c.as_slice.ensures at c.in-Ok.ensures.there in
    rw (← c.self.view_is) (c.get.ensures ∙ sym (row-in (get i.indexes) i.places.items (2 ^ 64) c.args.dir c.at.result.1 c.in-Ok.place c.at.result c.self.invariant at (ap (λ (e : ℕ × ℕ). e.1) (sym c.at.ensures))))

pub returns-in-Err : goal.returns-in-Err
returns-in-Err c =
    let i = c.self.inside in
    let at : StandsAt i.places.items c.args.dir c.in-Err.field-0 = rw c.as_slice.ensures at c.in-Err.ensures.missing in
    rw (← c.self.view_is) (sym (row-none (get i.indexes) i.places.items (2 ^ 64) c.args.dir c.in-Err.field-0 c.self.invariant at))
