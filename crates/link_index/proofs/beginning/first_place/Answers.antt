use Rattle.std.proofs.Common.{◌≡◌, rules, refl}
use Rattle.std.specs.Ordering.{is_gt}
use Rattle.link_index.proofs.EntryLaws.{answers_by}
use Rattle.link_index.specs.Beginnings.{cmp_beginning}
use Rattle.link_index.specs.Directory.{link_numbered}
use Rattle.link_index.proofs.BeginningLemmas.{begin-parted}
use Rattle.link_index.proofs.beginning.first_place.Goals as goal

-- the closure tells whether the units are greater than the beginning of the name of a number's link
pub returns-clause-point : goal.returns-clause-point
returns-clause-point c =
    let rows = c.args.links.now.rows in
    let table = c.args.upcase.now in
    let units = c.args.units.now in
    c.partition_point.ensures.partitioned (λ id. is_gt (cmp_beginning table units (link_numbered rows id).1.name))
    (answers_by _ _ (λ f. (f.0.now ≡ c.args.links.now) × (f.1.now ≡ table) × (f.2.now ≡ units)) (λ f a r g called same. (search rules, search rules)) _ (refl, refl, refl))
    (begin-parted table rows c.args.numbers.now units c.requires)
