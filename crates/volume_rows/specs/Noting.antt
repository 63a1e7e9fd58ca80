-- The changes that were noted, the place of the first that is kept, and the room for more of them.
use Rattle.std.specs.Prelude.{ℕ, List, [], ◌∷◌, Option}
use Rattle.std.specs.Option.{option_map_or}
use Rattle.std.specs.Borrow.{Bor}
use Rattle.fsa_model.specs.Volume.{Change}

pub record Noted : Type 0 where
  pub changes : List Change
  pub base : ℕ
  pub room : ℕ
  pub units : ℕ
  pub dirs : ℕ

-- `:` and the name of a stream, where there is one
abbrev pub suffix_of : Option (Bor (List ℕ)) → List ℕ
suffix_of stream = option_map_or (λ units. 58 ∷ units.now) stream []
