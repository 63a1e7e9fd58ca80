use Rattle.std.proofs.Common.{Bool, sym, ◌∙◌, ap, Some, None, ◌≡◌}
use Rattle.std.specs.List.{position}
use Rattle.std.proofs.lemmas.List.Quantifiers.{position-Some}
use Rattle.key_index.proofs.NumberLemmas.{rising-removed}
use Rattle.range_locks.specs.RangeTable.{is_range}
use Rattle.range_locks.specs.declared.range.Range.{Range}
use Rattle.range_locks.proofs.FirstLemmas.{HasNone-position, HasFirst-position}
use Rattle.range_locks.proofs.PlaceLemmas.{longest-removed}
use Rattle.range_locks.proofs.places.RangesByPlace.remove.Goals as goal

pub returns-in-None-clause-range : goal.returns-in-None-clause-range
returns-in-None-clause-range c =
    let test : Range → Bool = is_range c.args.handle c.args.at c.args.count in
    let none : position test c.self.inside.ranges.items ≡ None = sym (rw c.as_slice.ensures at c.in-None.ensures) in
    rw (← c.self.view_is) (sym (HasNone-position test c.self.inside.ranges.items none).none)

pub returns-in-None-clause-ranges : goal.returns-in-None-clause-ranges
returns-in-None-clause-ranges c =
    let test : Range → Bool = is_range c.args.handle c.args.at c.args.count in
    let none : position test c.self.inside.ranges.items ≡ None = sym (rw c.as_slice.ensures at c.in-None.ensures) in
    rw (← c.self.view_is) (sym (HasNone-position test c.self.inside.ranges.items none).same)

pub returns-in-Some-clause-range : goal.returns-in-Some-clause-range
returns-in-Some-clause-range c =
    let test : Range → Bool = is_range c.args.handle c.args.at c.args.count in
    let found : position test c.self.inside.ranges.items ≡ Some c.in-Some.place = sym (rw c.as_slice.ensures at c.in-Some.ensures) in
    let first = HasFirst-position test c.self.inside.ranges.items c.in-Some.place c.remove.result found in
    rw (← c.self.view_is) (ap Some c.remove.ensures.value ∙ sym first.some)

pub returns-in-Some-clause-ranges : goal.returns-in-Some-clause-ranges
returns-in-Some-clause-ranges c =
    let test : Range → Bool = is_range c.args.handle c.args.at c.args.count in
    let found : position test c.self.inside.ranges.items ≡ Some c.in-Some.place = sym (rw c.as_slice.ensures at c.in-Some.ensures) in
    rw (← c.self.view_is) (c.remove.ensures.items ∙ (HasFirst-position test c.self.inside.ranges.items c.in-Some.place c.remove.result found).rest)

pub invariant_of-self : goal.invariant_of-self
invariant_of-self c =
    let test : Range → Bool = is_range c.args.handle c.args.at c.args.count in
    let xs = c.self.inside.ranges.items in
    let found : position test xs ≡ Some c.in-Some.place = sym (rw c.as_slice.ensures at c.in-Some.ensures) in (
      rw c.remove.ensures.items (rising-removed (λ (range : Range). range.at) xs c.in-Some.place (position-Some test xs c.in-Some.place c.remove.result found).0 c.self.invariant.0),
      rw c.remove.ensures.items (longest-removed xs c.in-Some.place c.self.inside.longest c.self.invariant.1),
    )
