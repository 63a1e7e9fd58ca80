use Rattle.std.proofs.Common.{◌≡◌, ◌==◌, ℕ, Some, ap, sym, ◌∙◌}
use Rattle.std.specs.List.{position}
use Rattle.slab.specs.Slab.{get}
use Rattle.object_tables.proofs.PlaceLemmas.{row-missing, row-placed}
use Rattle.object_tables.proofs.table.Table.get.Goals as goal

pub returns-in-None : goal.returns-in-None
returns-in-None g c =
    let i = c.self.inside in
    rw (← c.self.view_is) (sym (row-missing (get i.rows) i.places.items i.last c.args.id c.self.invariant (sym (rw c.as_slice-places.ensures at c.in-None.ensures))))

pub returns-in-Some : goal.returns-in-Some
returns-in-Some g c =
    let i = c.self.inside in
    let found : position (λ e. e.0 == c.args.id) i.places.items ≡ Some c.in-Some.place = sym (rw c.as_slice-places.ensures at c.in-Some.ensures) in
    rw (← c.self.view_is) (c.get.ensures ∙ ap (λ (e : ℕ × ℕ). get i.rows e.1) c.at.ensures
    ∙ sym (row-placed (get i.rows) i.places.items i.last c.args.id c.in-Some.place c.at.result c.self.invariant found))
