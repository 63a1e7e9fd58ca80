use Rattle.std.proofs.Common.{ℕ, ap, sym, ◌∙◌}
use Rattle.std.specs.Prelude.{filter, map}
use Rattle.std.specs.Option.{option_copied}
use Rattle.fsa_model.specs.Volume.{Link}
use Rattle.volume_rows.specs.Children.{is_name_after}
use Rattle.link_index.specs.Directory.{DirectoryView, links_at}
use Rattle.volume_tables.proofs.DirectoryLaws.{children-found, children-missing, each-ordered, index_of-some}
use Rattle.volume_tables.proofs.names_by_directory.NamesByDirectory.children_after.Goals as goal

pub after-requires : goal.after-requires
after-requires c =
    rw (index_of-some c.args.self.now c.args.dir c.in-Some.index.now (sym c.in-Some.ensures))
    at (each-ordered c.args.table.now c.args.links.now.rows c.args.links.now.last c.len.ensures.numbered c.args.self.now c.requires c.args.dir)

pub returns-in-None : goal.returns-in-None
returns-in-None c =
    ap (map (λ (e : ℕ × Link). e.0)) (children-missing c.args.table.now c.args.links.now.rows c.args.links.now.last c.len.ensures.numbered c.args.self.now c.requires c.args.dir (option_copied c.args.after) (sym c.in-None.ensures))

pub returns-in-Some : goal.returns-in-Some
returns-in-Some c =
    c.after.ensures
    ∙ ap (λ (index : DirectoryView). map (λ (e : ℕ × Link). e.0) (filter (λ (e : ℕ × Link). is_name_after c.args.table.now (option_copied c.args.after) e.1.name) (links_at c.args.links.now.rows index.numbers)))
    (sym (index_of-some c.args.self.now c.args.dir c.in-Some.index.now (sym c.in-Some.ensures)))
    ∙ ap (map (λ (e : ℕ × Link). e.0)) (children-found c.args.table.now c.args.links.now.rows c.args.links.now.last c.len.ensures.numbered c.args.self.now c.requires c.args.dir (option_copied c.args.after))
