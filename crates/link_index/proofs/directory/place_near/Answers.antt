use Rattle.fsa_types.specs.CaseTable.{upcased}
use Rattle.std.proofs.Common.{Ok, ap, sym, ◌∙◌}
use Rattle.std.proofs.lemmas.List.{get_or_default}
use Rattle.link_index.specs.Keyed.{cmp_keys}
use Rattle.link_index.specs.Beginnings.{name_key}
use Rattle.link_index.specs.Directory.{link_numbered}
use Rattle.link_index.proofs.NameLemmas.{place-of}
use Rattle.link_index.proofs.directory.place_near.Goals as goal

pub returns-in-Equal : goal.returns-in-Equal
returns-in-Equal c =
    place-of c.args.upcase.now c.args.links.now.rows c.args.numbers.now (upcased c.args.upcase.now c.args.units.now) c.requires.ordered (Ok c.args.place) c.requires.within
    (λ d. ap (λ n. cmp_keys (name_key c.args.upcase.now (link_numbered c.args.links.now.rows n)) (upcased c.args.upcase.now c.args.units.now)) (get_or_default c.args.numbers.now c.args.place d 0 c.requires.within) ∙ sym c.in-Equal.ensures)
