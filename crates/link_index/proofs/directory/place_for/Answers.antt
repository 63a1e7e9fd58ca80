use Rattle.fsa_types.specs.CaseTable.{upcased}
use Rattle.std.proofs.Common.{◌∙◌, sym, get_or}
use Rattle.link_index.proofs.KeyLaws.{new-unfound}
use Rattle.link_index.specs.Beginnings.{name_key}
use Rattle.link_index.specs.Directory.{links_at}
use Rattle.link_index.proofs.NameLemmas.{same-key}
use Rattle.link_index.proofs.directory.place_for.Goals as goal

pub returns-in-Ok : goal.returns-in-Ok
returns-in-Ok c =
    let links = links_at c.args.links.now.rows c.args.numbers.now in
    new-unfound (name_key c.args.upcase.now) links (upcased c.args.upcase.now c.args.units.now) c.in-Ok.place
    (λ k d within. sym (same-key c.args.upcase.now (get_or links k d).1.name c.args.units.now) ∙ c.requires.is_new k d within) c.in-Ok.ensures
