use Rattle.std.proofs.Common.{Bool, ◌≡◌, ◌∙◌, None, ap, sym}
use Rattle.std.specs.Prelude.{filter, find, option_map}
use Rattle.range_locks.specs.RangeTable.{begins_at, is_range}
use Rattle.range_locks.specs.declared.range.Range.{Range}
use Rattle.range_locks.proofs.NumberLemmas.{none-first, numbered-without}
use Rattle.range_locks.proofs.PlaceLemmas.{find-same, same-without}
use Rattle.range_locks.proofs.table.RangeTable.remove.Goals as goal

pub invariant_of-self : goal.invariant_of-self
invariant_of-self c =
    let test : Range → Bool = is_range c.args.handle c.args.at c.args.count in
    let ranges = c.self.inside.ranges.items in
    let places = c.self.inside.by_place.ranges in
    let none : find test ranges ≡ None = sym (find-same places ranges c.args.handle c.args.at c.args.count c.self.invariant.0) ∙ sym c.in-None.ensures.range in
    ((λ at. ap (filter (begins_at at)) c.remove.ensures.ranges ∙ same-without places ranges c.args.handle c.args.at c.args.count c.self.invariant.0 at ∙ ap (filter (begins_at at)) (none-first test ranges none)), c.self.invariant.1)

pub remove-requires-in-Some-clause-first : goal.remove-requires-in-Some-clause-first
remove-requires-in-Some-clause-first c =
    ap (option_map (λ (range : Range). range.id)) (sym (find-same c.self.inside.by_place.ranges c.self.inside.ranges.items c.args.handle c.args.at c.args.count c.self.invariant.0) ∙ sym c.in-Some.ensures.range)

pub invariant_of-self-in-Some : goal.invariant_of-self-in-Some
invariant_of-self-in-Some c =
    let test : Range → Bool = is_range c.args.handle c.args.at c.args.count in
    let ranges = c.self.inside.ranges.items in
    let places = c.self.inside.by_place.ranges in (
      (λ at. ap (filter (begins_at at)) c.remove.ensures.ranges ∙ same-without places ranges c.args.handle c.args.at c.args.count c.self.invariant.0 at ∙ ap (filter (begins_at at)) (sym c.remove-in-Some.ensures.ranges)),
      (λ rising. rw c.remove-in-Some.ensures.ranges (numbered-without test ranges (c.self.invariant.1 rising))),
    )

pub returns-in-None-clause-id : goal.returns-in-None-clause-id
returns-in-None-clause-id c =
    let test : Range → Bool = is_range c.args.handle c.args.at c.args.count in
    let none : find test c.self.inside.ranges.items ≡ None = sym (find-same c.self.inside.by_place.ranges c.self.inside.ranges.items c.args.handle c.args.at c.args.count c.self.invariant.0) ∙ sym c.in-None.ensures.range in
    rw (← c.self.view_is) (ap (option_map (λ (range : Range). range.id)) (sym none))

pub returns-in-None-clause-ranges : goal.returns-in-None-clause-ranges
returns-in-None-clause-ranges c =
    let test : Range → Bool = is_range c.args.handle c.args.at c.args.count in
    let none : find test c.self.inside.ranges.items ≡ None = sym (find-same c.self.inside.by_place.ranges c.self.inside.ranges.items c.args.handle c.args.at c.args.count c.self.invariant.0) ∙ sym c.in-None.ensures.range in
    rw (← c.self.view_is) (sym (none-first test c.self.inside.ranges.items none))

pub returns-in-Some-clause-id : goal.returns-in-Some-clause-id
returns-in-Some-clause-id c =
    rw (← c.self.view_is) (ap (option_map (λ (range : Range). range.id)) (c.in-Some.ensures.range ∙ find-same c.self.inside.by_place.ranges c.self.inside.ranges.items c.args.handle c.args.at c.args.count c.self.invariant.0))
