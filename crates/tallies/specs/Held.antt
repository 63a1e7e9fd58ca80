-- The opens that are held on one stream or directory, as pairs of access and share, with one of them
-- taken out.
use Rattle.std.specs.Prelude.{ℕ, Bool, List, [], ◌∷◌, ◌==◌, ◌&&◌, if◌then◌else◌}

-- two opens have the same masks
abbrev pub is_like : (ℕ × ℕ) → (ℕ × ℕ) → Bool
is_like one other = (other.0 == one.0) && (other.1 == one.1)

-- the opens but for the first like this one
abbrev pub without_open : List (ℕ × ℕ) → (ℕ × ℕ) → List (ℕ × ℕ)
without_open [] gone = []
without_open (held_open ∷ held) gone = if is_like gone held_open then held else held_open ∷ without_open held gone
