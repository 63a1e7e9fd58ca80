use Rattle.std.proofs.Common.{◌≡◌, Some, sym}
use Rattle.fsa_types.specs.Rows.{row_of}
use Rattle.fsa_model.specs.Volume.{Link}
use Rattle.volume_tables.specs.Directories.{index_of}
use Rattle.link_index.specs.Directory.{IsNameTaken}
use Rattle.volume_tables.proofs.DirectoryLaws.{ByDirectory-none, ByDirectory-without, each-ordered}
use Rattle.volume_tables.proofs.names_by_directory.NamesByDirectory.take.Goals as goal

pub take_name-requires : goal.take_name-requires
take_name-requires c = each-ordered c.args.table.now c.args.links.now.rows c.args.links.now.last c.len.ensures.numbered c.args.self.now c.requires c.row.inside.parent

pub returns-in-None-clause-by_name : goal.returns-in-None-clause-by_name
returns-in-None-clause-by_name c = ByDirectory-none c.args.table.now c.args.links.now.rows c.args.links.now.last c.len.ensures.numbered c.args.self.now c.requires c.args.id (sym c.in-None.ensures)

pub returns-in-Some-clause-by_name : goal.returns-in-Some-clause-by_name
returns-in-Some-clause-by_name c =
    let row : Link = record { parent = c.row.inside.parent; name = c.row.inside.name; file = c.row.inside.file; deleted = c.row.inside.deleted } in
    let found : row_of c.args.links.now.rows c.args.id ≡ Some row = rw (← c.row.view_is) at (sym c.in-Some.ensures) in
    let taken : IsNameTaken c.args.table.now c.args.links.now.rows row.name (index_of c.args.self.now row.parent) (index_of c.take_name.new.self row.parent) = rw c.units.ensures at c.take_name.ensures.taken in
    ByDirectory-without c.args.table.now c.args.links.now.rows c.args.links.now.last c.len.ensures.numbered c.args.self.now c.requires c.args.id row found c.take_name.new.self taken c.take_name.ensures.others
