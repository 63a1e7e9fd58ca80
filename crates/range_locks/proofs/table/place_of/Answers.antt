use Rattle.std.proofs.Common.{ap, sym, ◌∙◌, ◌≡◌, Some, None}
use Rattle.std.specs.Prelude.{option_map}
use Rattle.range_locks.specs.RangeTable.{is_range}
use Rattle.range_locks.specs.declared.range.Range.{Range}
use Rattle.range_locks.proofs.FirstLemmas.{HasNone-position}
use Rattle.range_locks.proofs.NumberLemmas.{place-of-number}
use Rattle.range_locks.proofs.table.place_of.Goals as goal

pub returns-then-rising : goal.returns-then-rising
returns-then-rising c =
    place-of-number (is_range c.args.handle c.args.at c.args.count) c.args.ranges.now c.args.id c.begin_of_number.result (c.requires.numbered c.if-rising.true) c.requires.first c.begin_of_number.ensures.point

pub unreachable-requires : goal.unreachable-requires
unreachable-requires c =
    let none = (HasNone-position (is_range c.args.handle c.args.at c.args.count) c.args.ranges.now (sym c.in_default.ensures)).none in
    let wrong : None ≡ Some c.args.id = ap (option_map (λ (range : Range). range.id)) (sym none) ∙ c.requires.first in
    absurd (cc)
