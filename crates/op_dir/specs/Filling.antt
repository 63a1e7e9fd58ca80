-- Entries that fill a room.
use Rattle.std.specs.Prelude.{◌≡◌, ◌⊎◌, ℕ, ◌+◌, ◌-◌, ◌*◌, ◌<◌, List, [], ◌∷◌, ◌++◌, length}
use Rattle.fsa_types.specs.Packing.{head_size, rounded}
use Rattle.fsa_types.specs.declared.reply.PackKind.{PackKind}
use Rattle.fsa_model.specs.QueryDir.{DirectoryEntry}

-- the bytes that an entry of a directory takes with its padding, where its name has so many units
abbrev pub padded : PackKind → ℕ → ℕ
padded kind units = rounded kind (head_size kind + 2 * units)

-- the bytes of entries, each with its padding
abbrev pub padded_size : PackKind → List DirectoryEntry → ℕ
padded_size kind [] = 0
padded_size kind (entry ∷ entries) = padded kind (length entry.name) + padded_size kind entries

-- these are the first of all entries; they are all, or no other fits behind them
pub record Fills (kind : PackKind) (room : ℕ) (first all : List DirectoryEntry) : Type 0 where
  pub rest : List DirectoryEntry
  pub parts : all ≡ first ++ rest
  pub full : (rest ≡ []) ⊎ (room - padded_size kind first < head_size kind)
