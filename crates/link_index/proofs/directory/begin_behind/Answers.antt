use Rattle.std.proofs.Common.{◌≡◌, length, arith}
use Rattle.std.proofs.lemmas.List.{length-map}
use Rattle.link_index.specs.Directory.{link_numbered, links_at}
use Rattle.link_index.proofs.NameLemmas.{begin-here, begin-new}
use Rattle.link_index.proofs.directory.begin_behind.Goals as goal

pub returns-in-Ok : goal.returns-in-Ok
returns-in-Ok c =
    let links = links_at c.args.links.now.rows c.args.numbers.now in
    let many : length links ≡ length c.args.numbers.now = length-map c.args.numbers.now (link_numbered c.args.links.now.rows) in
    record { bound = omega (arith, many, c.in-Ok.ensures.0); begin = begin-here c.args.upcase.now c.args.units.now links c.in-Ok.place c.in-Ok.ensures }

pub returns-in-Err : goal.returns-in-Err
returns-in-Err c =
    let links = links_at c.args.links.now.rows c.args.numbers.now in
    let many : length links ≡ length c.args.numbers.now = length-map c.args.numbers.now (link_numbered c.args.links.now.rows) in
    record { bound = omega (arith, many, c.in-Err.ensures.0); begin = begin-new c.args.upcase.now c.args.units.now links c.in-Err.place c.in-Err.ensures }
