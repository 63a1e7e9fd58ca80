use Rattle.std.proofs.Common.{List, ◌≡◌, ◌∙◌, ◌++◌, ◌∷◌, [], ap, sym}
use Rattle.std.specs.Prelude.{filter}
use Rattle.range_locks.specs.RangeTable.{begins_at}
use Rattle.range_locks.specs.declared.range.Range.{Range}
use Rattle.range_locks.proofs.NumberLemmas.{numbered-push}
use Rattle.range_locks.proofs.PlaceLemmas.{same-push}
use Rattle.range_locks.proofs.table.RangeTable.insert.Goals as goal

pub invariant_of-self-2 : goal.invariant_of-self-2
invariant_of-self-2 c =
    let xs = c.self.inside.ranges.items in
    let pushed : c.push.new.self.items ≡ xs ++ c.args.range ∷ [] = rw c.reserve-2.ensures.items at c.push.ensures.items in (
      (λ at. c.add.ensures.added at ∙ ap (λ (its : List Range). filter (begins_at at) (its ++ c.args.range ∷ [])) c.reserve.ensures.ranges
          ∙ same-push c.self.inside.by_place.ranges xs c.args.range c.self.invariant.0 at ∙ ap (filter (begins_at at)) (sym pushed)),
      (λ rising.
          let behind = rw (c.as_slice.ensures, c.reserve-2.ensures.items) at c.stays_rising-rising.ensures.behind in
          rw pushed (numbered-push xs c.args.range (c.self.invariant.1 (c.stays_rising-rising.ensures.before rising)) (behind rising))),
    )
