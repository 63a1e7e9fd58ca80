-- Links under their numbers, found by their files.
use Rattle.std.specs.Prelude.{ℕ, List}
use Rattle.fsa_model.specs.Volume.{Link}

-- the links with their numbers, in order; the last number that was given; and how many more can be added without
-- taking memory
pub record FileLinks : Type 0 where
  pub rows : List (ℕ × Link)
  pub last : ℕ
  pub room : ℕ

-- the file of a link
abbrev pub file_key : Link → ℕ
file_key link = link.file
