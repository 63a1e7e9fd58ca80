use Rattle.std.proofs.Common.{rules}
use Rattle.std.proofs.lemmas.List.Sorted.{answers_always}
use Rattle.object_tables.proofs.SearchLemmas.{position-searched}
use Rattle.object_tables.proofs.search.place_of.Goals as goal

-- the closure gives a row's number
pub returns : goal.returns
returns g c =
    let facts = c.binary_search_by_key.ensures in
    let by_number = facts.position (λ entry. entry.0) (answers_always _ _ _ (λ f a r g called. search rules)) in
    rw c.ok.ensures.value (position-searched c.args.rows.now c.args.id c.requires.rising c.binary_search_by_key.result facts.bound by_number)
