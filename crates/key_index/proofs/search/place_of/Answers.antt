use Rattle.key_index.proofs.NumberLemmas.{keys-same}
use Rattle.key_index.proofs.search.place_of.Goals as goal

pub place_in-requires-clause-keys : goal.place_in-requires-clause-keys
place_in-requires-clause-keys c = rw c.part_at-begin.ensures.part (keys-same c.args.entries.now c.args.key)
