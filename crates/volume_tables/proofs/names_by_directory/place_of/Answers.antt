use Rattle.std.proofs.Common.{rules}
use Rattle.std.proofs.lemmas.List.Sorted.{answers_always}
use Rattle.fsa_types.proofs.PlaceLemmas.{there-searched, missing-searched}
use Rattle.volume_tables.proofs.names_by_directory.place_of.Goals as goal

-- the closure gives an entry's number
pub returns : goal.returns
returns c =
    let facts = c.binary_search_by_key.ensures in
    let by_number = facts.position (λ entry. entry.0) (answers_always _ _ _ (λ f a r g called. search rules)) in
    record {
      there = there-searched c.args.places.now c.args.dir c.requires.rising c.binary_search_by_key.result facts.bound by_number;
      missing = missing-searched c.args.places.now c.args.dir c.requires.rising c.binary_search_by_key.result facts.bound by_number;
    }
