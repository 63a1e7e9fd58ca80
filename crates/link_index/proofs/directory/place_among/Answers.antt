use Rattle.fsa_types.specs.CaseTable.{upcased}
use Rattle.std.proofs.Common.{◌≡◌, rules, refl}
use Rattle.link_index.proofs.EntryLaws.{answers_by}
use Rattle.link_index.specs.Keyed.{cmp_keys}
use Rattle.link_index.specs.Beginnings.{name_key}
use Rattle.link_index.specs.Directory.{link_numbered}
use Rattle.link_index.proofs.NameLemmas.{place-of}
use Rattle.link_index.proofs.directory.place_among.Goals as goal

-- the closure compares the link of a number with the name
pub returns : goal.returns
returns c =
    let facts = c.binary_search_by.ensures in
    let by_name = facts.position (λ id. cmp_keys (name_key c.args.upcase.now (link_numbered c.args.links.now.rows id)) (upcased c.args.upcase.now c.args.units.now))
    (answers_by _ _ (λ f. (f.0.now ≡ c.args.links.now) × (f.1.now ≡ c.args.upcase.now) × (f.2.now ≡ c.args.units.now)) (λ f a r g called same. (search rules, search rules)) _ (refl, refl, refl)) in
    place-of c.args.upcase.now c.args.links.now.rows c.args.numbers.now (upcased c.args.upcase.now c.args.units.now) c.requires c.binary_search_by.result facts.bound by_name
