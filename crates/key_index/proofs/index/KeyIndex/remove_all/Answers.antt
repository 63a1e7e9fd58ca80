use Rattle.std.proofs.Common.{ℕ, not}
use Rattle.std.proofs.lemmas.List.Kept.{IsNonDecreasingBy-filter}
use Rattle.key_index.specs.Index.{has_key}
use Rattle.key_index.proofs.NumberLemmas.{numbers-cleared}
use Rattle.key_index.proofs.index.KeyIndex.remove_all.Goals as goal

pub invariant_of-self : goal.invariant_of-self
invariant_of-self c =
    let xs = c.self.inside.entries.items in (
      rw c.remove_all.ensures.entries (IsNonDecreasingBy-filter (λ (e : ℕ × ℕ). e.0) (λ e. not (has_key c.args.key e)) xs c.self.invariant.0),
      (λ rising. rw c.remove_all.ensures.entries (numbers-cleared xs c.args.key (c.self.invariant.1 rising))),
    )
