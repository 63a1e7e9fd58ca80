use Rattle.std.proofs.Common.{◌≡◌, ◌∙◌, None, Some, ap, sym}
use Rattle.std.specs.Prelude.{find, option_map}
use Rattle.range_locks.specs.RangeTable.{is_range_of}
use Rattle.range_locks.specs.declared.range.Range.{Range}
use Rattle.range_locks.proofs.NumberLemmas.{any-first, none-first}
use Rattle.range_locks.proofs.table.RangeTable.remove_any_of.Goals as goal

pub returns-in-None-clause-ranges : goal.returns-in-None-clause-ranges
returns-in-None-clause-ranges c =
    let none : find (is_range_of c.args.handle) c.self.inside.ranges.items ≡ None = sym (rw c.as_slice.ensures at c.in-None.ensures) in
    rw (← c.self.view_is) (sym (none-first (is_range_of c.args.handle) c.self.inside.ranges.items none))

pub returns-in-Some-clause-id : goal.returns-in-Some-clause-id
returns-in-Some-clause-id c =
    let found : find (is_range_of c.args.handle) c.self.inside.ranges.items ≡ Some c.in-Some.range = sym (rw c.as_slice.ensures at c.in-Some.ensures) in
    let same = ap (option_map (λ (range : Range). range.id)) ((any-first c.args.handle c.self.inside.ranges.items c.in-Some.range found).0 ∙ sym found) in
    c.remove.ensures.id ∙ rw (← c.self.view_is) same

pub returns-in-Some-clause-ranges : goal.returns-in-Some-clause-ranges
returns-in-Some-clause-ranges c =
    let found : find (is_range_of c.args.handle) c.self.inside.ranges.items ≡ Some c.in-Some.range = sym (rw c.as_slice.ensures at c.in-Some.ensures) in
    c.remove.ensures.ranges ∙ rw (← c.self.view_is) (any-first c.args.handle c.self.inside.ranges.items c.in-Some.range found).1
