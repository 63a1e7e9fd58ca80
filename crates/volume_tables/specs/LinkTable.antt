-- Links under their numbers, and for each directory the room for more links in it.
use Rattle.std.specs.Prelude.{ℕ, List}
use Rattle.fsa_model.specs.Volume.{Link}

-- the case table by which names compare; the links with their numbers, in order; the last number that was
-- given; and how many more links can be added or moved to each directory without taking memory, none where it isn't told
pub record LinkRows : Type 0 where
  pub table : List (ℕ × ℕ)
  pub rows : List (ℕ × Link)
  pub last : ℕ
  pub rooms : List (ℕ × ℕ)
