use Rattle.std.proofs.Common.{ℕ, ap, sym, ◌∙◌}
use Rattle.std.specs.Prelude.{find, option_map}
use Rattle.fsa_types.specs.CaseTable.{same_name}
use Rattle.fsa_model.specs.Volume.{Link}
use Rattle.link_index.specs.Directory.{DirectoryView, links_at}
use Rattle.volume_tables.proofs.DirectoryLaws.{child-found, child-missing, each-ordered, index_of-some}
use Rattle.volume_tables.proofs.names_by_directory.NamesByDirectory.child.Goals as goal

pub get-requires-in-Some : goal.get-requires-in-Some
get-requires-in-Some c =
    rw (index_of-some c.args.self.now c.args.dir c.in-Some.index.now (sym c.in-Some.ensures))
    at (each-ordered c.args.table.now c.args.links.now.rows c.args.links.now.last c.len.ensures.numbered c.args.self.now c.requires c.args.dir)

pub returns-in-None : goal.returns-in-None
returns-in-None c = child-missing c.args.table.now c.args.links.now.rows c.args.links.now.last c.len.ensures.numbered c.args.self.now c.requires c.args.dir c.args.units.now (sym c.in-None.ensures)

pub returns-in-Some : goal.returns-in-Some
returns-in-Some c =
    c.get-in-Some.ensures
    ∙ ap (λ (index : DirectoryView). option_map (λ (e : ℕ × Link). e.0) (find (λ (e : ℕ × Link). same_name c.args.table.now e.1.name c.args.units.now) (links_at c.args.links.now.rows index.numbers)))
    (sym (index_of-some c.args.self.now c.args.dir c.in-Some.index.now (sym c.in-Some.ensures)))
    ∙ ap (option_map (λ (e : ℕ × Link). e.0)) (child-found c.args.table.now c.args.links.now.rows c.args.links.now.last c.len.ensures.numbered c.args.self.now c.requires c.args.dir c.args.units.now)
