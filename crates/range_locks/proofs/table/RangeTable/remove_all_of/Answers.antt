use Rattle.std.proofs.Common.{Bool, ◌≡◌, ◌<◌, ◌∙◌, ap, sym, false}
use Rattle.std.specs.Prelude.{filter, not}
use Rattle.std.specs.List.{list_any}
use Rattle.std.proofs.lemmas.List.Kept.{AllPairs-filter}
use Rattle.range_locks.specs.RangeTable.{begins_at, is_range_of}
use Rattle.range_locks.specs.declared.range.Range.{Range}
use Rattle.range_locks.proofs.NumberLemmas.{none-of}
use Rattle.range_locks.proofs.PlaceLemmas.{same-filter}
use Rattle.range_locks.proofs.table.RangeTable.remove_all_of.Goals as goal

pub invariant_of-self : goal.invariant_of-self
invariant_of-self c =
    let other : Range → Bool = λ range. not (is_range_of c.args.handle range) in
    let ranges = c.self.inside.ranges.items in
    let places = c.self.inside.by_place.ranges in (
      (λ at. ap (filter (begins_at at)) c.remove_all_of-then-has_any_of.ensures.ranges ∙ same-filter other places ranges c.self.invariant.0 at ∙ ap (filter (begins_at at)) (sym c.remove_all_of.ensures.ranges)),
      (λ rising. rw c.remove_all_of.ensures.ranges (AllPairs-filter (λ one other. one.id < other.id) other ranges (c.self.invariant.1 rising))),
    )

pub returns-else-has_any_of-clause-ranges : goal.returns-else-has_any_of-clause-ranges
returns-else-has_any_of-clause-ranges c =
    let none : list_any (is_range_of c.args.handle) c.self.inside.ranges.items ≡ false = sym (rw c.as_slice.ensures at c.has_any_of.ensures) ∙ c.if-has_any_of.false in
    rw (← c.self.view_is) (sym (none-of c.args.handle c.self.inside.ranges.items none))
