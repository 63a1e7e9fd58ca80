use Rattle.std.proofs.Common.{arith}
use Rattle.link_index.proofs.BeginningLemmas.{beginning-between}
use Rattle.link_index.proofs.beginning.beginning_with.Goals as goal

pub returns : goal.returns
returns c =
    beginning-between c.args.upcase.now c.args.links.now.rows c.args.numbers.now c.args.units.now c.first_place.result c.min-begin.result c.end_place-end.result
    (omega arith) (omega arith) (λ less. omega arith) c.first_place.ensures.bound c.end_place-end.ensures.bound c.first_place.ensures.point c.end_place-end.ensures.point
