use Rattle.link_index.proofs.NameLemmas.{child-here, child-none}
use Rattle.link_index.proofs.directory.find_child.Goals as goal

pub returns-in-Ok : goal.returns-in-Ok
returns-in-Ok c = rw c.number_of.ensures (child-here c.args.upcase.now c.args.links.now.rows c.args.numbers.now c.args.units.now c.in-Ok.place c.in-Ok.ensures)

pub returns-in-Err : goal.returns-in-Err
returns-in-Err c = child-none c.args.upcase.now c.args.links.now.rows c.args.numbers.now c.args.units.now c.in-Err.field-0 c.in-Err.ensures
