use Rattle.std.proofs.Common.{rules}
use Rattle.std.proofs.lemmas.List.Sorted.{answers_always}
use Rattle.fsa_types.proofs.PlaceLemmas.{there-searched, missing-searched}
use Rattle.oplock_state.proofs.stream_tables.place_of.Goals as goal

-- the closure gives an entry's key
pub returns : goal.returns
returns c =
    let facts = c.binary_search_by_key.ensures in
    let by_key = facts.position (λ entry. entry.0) (answers_always _ _ _ (λ f a r g called. search rules)) in
    record {
      there = there-searched c.args.tables.now c.args.key c.requires.rising c.binary_search_by_key.result facts.bound by_key;
      missing = missing-searched c.args.tables.now c.args.key c.requires.rising c.binary_search_by_key.result facts.bound by_key;
    }
