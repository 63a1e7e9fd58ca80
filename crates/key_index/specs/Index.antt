-- Entries, each a key and a number, in the order of their keys.
use Rattle.std.specs.Prelude.{ℕ, Bool, List, ◌==◌, ◌&&◌, ◌≡◌, filter, nat_lt}
use Rattle.std.specs.List.Sorted.{IsNonDecreasingBy}

-- the entries, and how many more can be added without taking memory
pub record Entries : Type 0 where
  pub entries : List (ℕ × ℕ)
  pub room : ℕ

-- an entry has this key
abbrev pub has_key : ℕ → ℕ × ℕ → Bool
has_key key entry = entry.0 == key

-- an entry has a greater key
abbrev pub has_greater_key : ℕ → ℕ × ℕ → Bool
has_greater_key key entry = nat_lt key entry.0

-- the entries of a key, in order
abbrev pub entries_under : List (ℕ × ℕ) → ℕ → List (ℕ × ℕ)
entries_under entries key = filter (has_key key) entries

-- each key has the same entries in both, in the same order
abbrev pub IsSameByKey : List (ℕ × ℕ) → List (ℕ × ℕ) → Type 0
IsSameByKey one other = (key : ℕ) → entries_under one key ≡ entries_under other key

-- an entry is this one
abbrev pub is_entry : ℕ → ℕ → ℕ × ℕ → Bool
is_entry key number entry = entry.0 == key && entry.1 == number

-- the numbers of each key don't fall
abbrev pub AreNumbersRising : List (ℕ × ℕ) → Type 0
AreNumbersRising entries = (key : ℕ) → IsNonDecreasingBy (λ e. e.1) (entries_under entries key)
