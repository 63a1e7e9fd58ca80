use Rattle.std.proofs.Common.{sym, ◌∙◌, ap, Some, ◌≡◌, ◌==◌}
use Rattle.std.specs.List.{position}
use Rattle.fsa_types.proofs.RowLemmas.{row_of-none, without_row-none, IsNumbered-remove, IsAt-position, row_of-at, remove-at}
use Rattle.object_tables.proofs.row_list.RowList.remove.Goals as goal

pub returns-in-None-clause-row : goal.returns-in-None-clause-row
returns-in-None-clause-row g c = rw (← c.self.view_is) (sym (row_of-none c.self.inside.rows.items c.args.id (sym (rw c.as_slice.ensures at c.in-None.ensures))))

pub returns-in-None-clause-rows : goal.returns-in-None-clause-rows
returns-in-None-clause-rows g c = rw (← c.self.view_is) (sym (without_row-none c.self.inside.rows.items c.args.id (sym (rw c.as_slice.ensures at c.in-None.ensures))))

pub invariant_of-self : goal.invariant_of-self
invariant_of-self g c =
    let found : position (λ e. e.0 == c.args.id) c.self.inside.rows.items ≡ Some c.in-Some.place = sym (rw c.as_slice.ensures at c.in-Some.ensures) in
    rw c.remove.ensures.items (IsNumbered-remove c.self.inside.rows.items _ c.args.id c.in-Some.place c.remove.result c.self.invariant found)

pub returns-in-Some-clause-row : goal.returns-in-Some-clause-row
returns-in-Some-clause-row g c =
    let found : position (λ e. e.0 == c.args.id) c.self.inside.rows.items ≡ Some c.in-Some.place = sym (rw c.as_slice.ensures at c.in-Some.ensures) in
    let at = IsAt-position c.self.inside.rows.items c.args.id c.in-Some.place c.remove.result found in
    rw (← c.self.view_is) (ap (λ e. Some e.1) c.remove.ensures.value ∙
    sym (row_of-at c.self.inside.rows.items c.in-Some.place c.remove.result c.args.id c.self.invariant.rising at.within (at.here c.remove.result)))

pub returns-in-Some-clause-rows : goal.returns-in-Some-clause-rows
returns-in-Some-clause-rows g c =
    let found : position (λ e. e.0 == c.args.id) c.self.inside.rows.items ≡ Some c.in-Some.place = sym (rw c.as_slice.ensures at c.in-Some.ensures) in
    let at = IsAt-position c.self.inside.rows.items c.args.id c.in-Some.place c.remove.result found in
    rw (← c.self.view_is) (c.remove.ensures.items ∙
    remove-at c.self.inside.rows.items c.in-Some.place c.remove.result c.args.id c.self.invariant.rising at.within (at.here c.remove.result))
