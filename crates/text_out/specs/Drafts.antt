-- A text, and the lines that are made at its end.
use Rattle.std.specs.Prelude.{ℕ, List}

-- what was there before them, and the lines
pub record Drafted : Type 0 where
  pub before : List ℕ
  pub lines : List ℕ
