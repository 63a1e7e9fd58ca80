use Rattle.volume_tables.proofs.DirectoryLaws.{ByDirectory-added, each-ordered, name-new}
use Rattle.volume_tables.proofs.names_by_directory.NamesByDirectory.add.Goals as goal

pub put-requires-clause-ordered : goal.put-requires-clause-ordered
put-requires-clause-ordered c = each-ordered c.args.table.now c.args.links.now.rows c.args.links.now.last c.len.ensures.numbered c.args.self.now c.requires.by_name c.args.dir

pub put-requires-clause-is_new : goal.put-requires-clause-is_new
put-requires-clause-is_new c =
    name-new c.args.table.now c.args.links.now.rows c.args.links.now.last c.len.ensures.numbered c.args.self.now c.requires.by_name c.args.id c.args.dir c.args.units.now c.requires.is_new

pub returns-clause-by_name : goal.returns-clause-by_name
returns-clause-by_name c = λ file deleted.
    ByDirectory-added c.args.table.now c.args.links.now.rows c.args.links.now.last c.len.ensures.numbered c.args.self.now c.requires.by_name c.args.id c.args.dir c.args.units.now c.requires.is_new
    _ file deleted c.put.ensures.put c.put.ensures.others
