use Rattle.std.proofs.Common.{◌≡◌, ◌==◌, ℕ, Some, ap, sym, ◌∙◌}
use Rattle.std.specs.List.{position}
use Rattle.slab.specs.Slab.{get}
use Rattle.object_tables.proofs.PlaceLemmas.{placed-removed, row-missing, row-placed, rows-missing, rows-removed}
use Rattle.object_tables.proofs.table.Table.remove.Goals as goal

pub returns-in-None-clause-row : goal.returns-in-None-clause-row
returns-in-None-clause-row g c =
    let i = c.self.inside in
    rw (← c.self.view_is) (sym (row-missing (get i.rows) i.places.items i.last c.args.id c.self.invariant (sym (rw c.as_slice.ensures at c.in-None.ensures))))

pub returns-in-None-clause-rows : goal.returns-in-None-clause-rows
returns-in-None-clause-rows g c =
    let i = c.self.inside in
    rw (← c.self.view_is) (sym (rows-missing (get i.rows) i.places.items i.last c.args.id c.self.invariant (sym (rw c.as_slice.ensures at c.in-None.ensures))))

pub invariant_of-self : goal.invariant_of-self
invariant_of-self g c =
    let i = c.self.inside in
    let found : position (λ e. e.0 == c.args.id) i.places.items ≡ Some c.in-Some.place = sym (rw c.as_slice.ensures at c.in-Some.ensures) in
    let read = c.remove-key.ensures.value in
    rw c.remove-key.ensures.items (placed-removed (get i.rows) (get c.remove.new.self) i.places.items i.last c.args.id c.in-Some.place c.remove-key.result c.self.invariant found
    (λ other differs. c.remove.ensures.updates.others other (λ same. differs (same ∙ ap (λ (e : ℕ × ℕ). e.1) read))))

pub returns-in-Some-clause-row : goal.returns-in-Some-clause-row
returns-in-Some-clause-row g c =
    let i = c.self.inside in
    let found : position (λ e. e.0 == c.args.id) i.places.items ≡ Some c.in-Some.place = sym (rw c.as_slice.ensures at c.in-Some.ensures) in
    rw (← c.self.view_is) (sym c.remove.ensures.value ∙ ap (λ (e : ℕ × ℕ). get i.rows e.1) c.remove-key.ensures.value
    ∙ sym (row-placed (get i.rows) i.places.items i.last c.args.id c.in-Some.place c.remove-key.result c.self.invariant found))

pub returns-in-Some-clause-rows : goal.returns-in-Some-clause-rows
returns-in-Some-clause-rows g c =
    let i = c.self.inside in
    let found : position (λ e. e.0 == c.args.id) i.places.items ≡ Some c.in-Some.place = sym (rw c.as_slice.ensures at c.in-Some.ensures) in
    let read = c.remove-key.ensures.value in
    rw (← c.self.view_is, c.remove-key.ensures.items) (rows-removed (get i.rows) (get c.remove.new.self) i.places.items i.last c.args.id c.in-Some.place c.remove-key.result c.self.invariant found
    (λ other differs. c.remove.ensures.updates.others other (λ same. differs (same ∙ ap (λ (e : ℕ × ℕ). e.1) read))))
