use Rattle.std.proofs.Common.{◌≡◌, length, arith}
use Rattle.link_index.specs.Directory.{links_at}
use Rattle.link_index.proofs.HeadLemmas.{heads-many, place-new}
use Rattle.link_index.proofs.directory.place_of.Goals as goal

pub place_near-requires-clause-within : goal.place_near-requires-clause-within
place_near-requires-clause-within c =
    let many : length c.args.heads.now ≡ length c.args.numbers.now = heads-many c.args.upcase.now c.args.links.now.rows c.args.numbers.now c.args.heads.now c.requires.heads in
    omega (arith, many, c.in-Ok.ensures.bound)

pub returns-in-Err : goal.returns-in-Err
returns-in-Err c =
    place-new c.args.upcase.now (links_at c.args.links.now.rows c.args.numbers.now) c.requires.ordered c.args.units.now c.args.heads.now c.in-Err.place c.requires.heads
    (rw c.head_of.ensures at c.in-Err.ensures.position)
