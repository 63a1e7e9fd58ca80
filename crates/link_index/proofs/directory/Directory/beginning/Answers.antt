use Rattle.std.proofs.Common.{ℕ, ap, Bool}
use Rattle.std.specs.Prelude.{filter, map}
use Rattle.std.specs.Option.{option_copied}
use Rattle.std.specs.declared.cmp.Ordering.TheVariants.{Less}
use Rattle.std.proofs.lemmas.List.Kept.{AllPairs-filter}
use Rattle.std.specs.Prelude.{◌≡◌}
use Rattle.fsa_model.specs.Volume.{Link}
use Rattle.link_index.specs.Keyed.{cmp_keys}
use Rattle.volume_rows.specs.Children.{is_name_after}
use Rattle.link_index.specs.Beginnings.{begins_with, name_key}
use Rattle.link_index.specs.Directory.{links_at}
use Rattle.link_index.proofs.NameLemmas.{at-kept}
use Rattle.link_index.proofs.directory.Directory.beginning.Goals as goal

pub beginning_with-requires : goal.beginning_with-requires
beginning_with-requires c =
    let table = c.args.upcase.now in
    let rows = c.args.links.now.rows in
    let test : ℕ × Link → Bool = λ e. is_name_after table (option_copied c.args.after) e.1.name in
    rw (c.after.ensures, at-kept rows test c.args.self.now.numbers)
    (AllPairs-filter (λ one other. cmp_keys (name_key table one) (name_key table other) ≡ Less) test (links_at rows c.args.self.now.numbers) c.requires.ordered)

pub returns : goal.returns
returns c =
    let table = c.args.upcase.now in
    let rows = c.args.links.now.rows in
    let test : ℕ × Link → Bool = λ e. is_name_after table (option_copied c.args.after) e.1.name in
    rw (c.beginning_with.ensures, c.after.ensures)
    (ap (λ links. map (λ (e : ℕ × Link). e.0) (filter (λ (e : ℕ × Link). begins_with table c.args.units.now e.1.name) links)) (at-kept rows test c.args.self.now.numbers))
