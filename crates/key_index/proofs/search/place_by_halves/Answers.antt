use Rattle.key_index.proofs.NumberLemmas.{number-here, number-missing}
use Rattle.key_index.proofs.search.place_by_halves.Goals as goal

pub returns-then-has_number_at : goal.returns-then-has_number_at
returns-then-has_number_at c =
    let there = c.has_number_at.ensures.there c.if-has_number_at.true in
    number-here c.args.part.now c.args.key c.args.number c.begin_of_number-place.result c.requires.keys c.begin_of_number-place.ensures.point there.0 there.1

pub returns-else-has_number_at : goal.returns-else-has_number_at
returns-else-has_number_at c =
    number-missing c.args.part.now c.args.key c.args.number c.begin_of_number-place.result c.requires.keys c.begin_of_number-place.ensures.point c.requires.rising
    (c.has_number_at.ensures.other c.if-has_number_at.false)
