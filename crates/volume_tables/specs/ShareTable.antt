-- The opens that are held under keys, each a pair of its access and its share.
use Rattle.std.specs.Prelude.{◌≡◌, ◌≢◌, ℕ, Bool, true, false, List, [], ◌∷◌, ◌++◌, Some, IsPermutation}
use Rattle.std.specs.Option.{option_map_or}
use Rattle.slab.specs.Slab.{Slab, get}
use Rattle.fsa_types.specs.Rows.{row_of}

-- the keys with their opens, and how many more keys can be put in without taking memory
pub record Shares : Type 0 where
  pub rows : List (ℕ × List (ℕ × ℕ))
  pub room : ℕ

-- the opens of a key; none where it isn't there
abbrev pub held_in : List (ℕ × List (ℕ × ℕ)) → ℕ → List (ℕ × ℕ)
held_in rows key = option_map_or (λ held. held) (row_of rows key) []

-- each key that is there has an open
abbrev pub HaveOpens : List (ℕ × List (ℕ × ℕ)) → Type 0
HaveOpens rows = (key : ℕ) → row_of rows key ≢ Some []

-- the opens in a slot of a slab; none where it is free
abbrev pub held_at : Slab (List (ℕ × ℕ)) → ℕ → List (ℕ × ℕ)
held_at slab slot = option_map_or (λ held. held) (get slab slot) []

-- each key that passes has one open more, and the others have theirs
pub record IsAdded (on : ℕ → Bool) (old new : List (ℕ × List (ℕ × ℕ))) (masks : ℕ × ℕ) : Type 0 where
  pub here : (key : ℕ) → on key ≡ true → held_in new key ≡ held_in old key ++ masks ∷ []
  pub others : (key : ℕ) → on key ≡ false → held_in new key ≡ held_in old key

-- each key that passes has one open less, and the others have theirs
pub record IsTaken (on : ℕ → Bool) (old new : List (ℕ × List (ℕ × ℕ))) (masks : ℕ × ℕ) : Type 0 where
  pub here : (key : ℕ) → on key ≡ true → IsPermutation (held_in old key) (masks ∷ held_in new key)
  pub others : (key : ℕ) → on key ≡ false → held_in new key ≡ held_in old key
