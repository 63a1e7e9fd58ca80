-- Where a number stands among rows under rising numbers.
use Rattle.std.specs.Prelude.{ℕ, ◌≡◌, ◌<◌, ◌≤◌, List, length, get_or}

-- the row of this number is at this place
pub record IsAt {T : Type 0} (rows : List (ℕ × T)) (number place : ℕ) : Type 0 where
  pub within : place < length rows
  pub here : (d : ℕ × T) → (get_or rows place d).0 ≡ number

-- it isn't there, and would stand at this place
pub record StandsAt {T : Type 0} (rows : List (ℕ × T)) (number place : ℕ) : Type 0 where
  pub within : place ≤ length rows
  pub before : (k : ℕ) (d : ℕ × T) → k < place → (get_or rows k d).0 < number
  pub after : (k : ℕ) (d : ℕ × T) → place ≤ k → k < length rows → number < (get_or rows k d).0
