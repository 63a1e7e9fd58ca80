use Rattle.std.proofs.Common.{arith}
use Rattle.volume_tables.proofs.DirectoryLaws.{ByDirectory-moved, left-new, left-ordered}
use Rattle.volume_tables.proofs.names_by_directory.NamesByDirectory.move_to.Goals as goal

pub put-requires-clause-room : goal.put-requires-clause-room
put-requires-clause-room c =
    let kept = c.take.ensures.kept c.args.dir in
    let room = c.requires.room in
    omega arith

pub put-requires-clause-ordered : goal.put-requires-clause-ordered
put-requires-clause-ordered c =
    left-ordered c.args.table.now c.args.links.now.rows c.args.links.now.last c.len.ensures.numbered c.args.self.now c.args.id c.args.dir c.args.units.now c.requires.by_name c.requires.free _ c.take.ensures.by_name

pub put-requires-clause-is_new : goal.put-requires-clause-is_new
put-requires-clause-is_new c =
    left-new c.args.table.now c.args.links.now.rows c.args.links.now.last c.len.ensures.numbered c.args.self.now c.args.id c.args.dir c.args.units.now c.requires.by_name c.requires.free _ c.take.ensures.by_name

pub returns-clause-by_name : goal.returns-clause-by_name
returns-clause-by_name c =
    ByDirectory-moved c.args.table.now c.args.links.now.rows c.args.links.now.last c.len.ensures.numbered c.args.self.now c.args.id c.args.dir c.args.units.now c.requires.by_name c.requires.free _ c.take.ensures.by_name
    _ c.requires.lives c.put.ensures.put c.put.ensures.others

pub returns-clause-left : goal.returns-clause-left
returns-clause-left c =
    let kept = c.take.ensures.kept c.args.dir in
    let left = c.put.ensures.put.left in
    omega arith

pub returns-clause-kept : goal.returns-clause-kept
returns-clause-kept c = λ other differ.
    let kept = c.take.ensures.kept other in
    rw (c.put.ensures.others other differ) kept
