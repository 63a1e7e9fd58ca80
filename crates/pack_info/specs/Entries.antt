-- Buffers of entries as they are written and read: how many rows fit, what an entry is that a layout
-- has, and what a buffer begins with.
use Rattle.std.specs.Prelude.{◌≡◌, ℕ, ◌+◌, ◌-◌, ◌<◌, ◌≤◌, ◌^◌, Bool, true, false, List, [], ◌∷◌, ◌++◌, length, take, map}
use Rattle.fsa_types.specs.declared.reply.PackKind.{PackKind}
use Rattle.fsa_types.specs.LittleEndian.{zeros}
use Rattle.fsa_types.specs.PackedRows.{Numbers, NumbersFit, PackRow}
use Rattle.fsa_types.specs.Packing.{Packed, packed, shown, name_field, head_size, rounded, size_of, entry_bytes, entries_bytes, is_nothing}

-- the entry of these numbers and units
abbrev pub entry_with : PackKind → Numbers → List ℕ → Packed
entry_with kind numbers units = record { numbers = shown kind numbers; name = name_field kind units }

-- the entries of what stands for rows
abbrev pub rows_as_entries : {T : Type 0} → (T → PackRow) → PackKind → List T → List Packed
rows_as_entries row_of kind items = map (λ item. packed kind (row_of item)) items

abbrev pub entries_size : PackKind → List Packed → ℕ
entries_size kind entries = length (entries_bytes kind entries)

-- the first `count` entries are the longest prefix whose size is at most the room
pub record IsFitting (kind : PackKind) (entries : List Packed) (room : ℕ) (count : ℕ) : Type 0 where
  pub within : count ≤ length entries
  pub fits : entries_size kind (take count entries) ≤ room
  pub longest : (more : ℕ) → more ≤ length entries → entries_size kind (take more entries) ≤ room → more ≤ count

-- the distance to the next entry; 0 for the last
abbrev pub next_distance : PackKind → ℕ → Bool → ℕ
next_distance kind size true = 0
next_distance kind size false = rounded kind size

-- what stands between an entry and the next
abbrev pub padding_of : PackKind → ℕ → Bool → List ℕ
padding_of kind size true = []
padding_of kind size false = zeros (rounded kind size - size)

-- the lengths of an entry fit their widths
pub record FitsWidths (kind : PackKind) (entry : Packed) (last : Bool) : Type 0 where
  pub now : size_of kind entry < 2 ^ 32
  pub next : last ≡ false → rounded kind (size_of kind entry) < 2 ^ 32

-- those of all entries do
abbrev pub AreWritable : PackKind → List Packed → Type 0
AreWritable kind [] = Unit {0}
AreWritable kind (entry ∷ entries) = FitsWidths kind entry (is_nothing entries) × AreWritable kind entries

-- the field of a name is that of some units
abbrev pub IsName : PackKind → List ℕ → Type 0
IsName kind name = (units : List ℕ) × (name ≡ name_field kind units)

-- an entry that the layout has
pub record IsEntry (kind : PackKind) (entry : Packed) (last : Bool) : Type 0 where
  pub numbers : NumbersFit entry.numbers
  pub only : shown kind entry.numbers ≡ entry.numbers
  pub name : IsName kind entry.name
  pub len : length entry.name < 2 ^ 32
  pub next : next_distance kind (size_of kind entry) last < 2 ^ 32

-- the layout has all these entries
abbrev pub AreEntries : PackKind → List Packed → Type 0
AreEntries kind [] = Unit {0}
AreEntries kind (entry ∷ entries) = IsEntry kind entry (is_nothing entries) × AreEntries kind entries

-- the buffer begins with this entry, and this is what follows; the last entry ends the buffer
pub record BeginsWithEntry (kind : PackKind) (buffer : List ℕ) (entry : Packed) (rest : List ℕ) : Type 0 where
  pub is_entry : IsEntry kind entry (is_nothing rest)
  pub spelled : buffer ≡ entry_bytes kind entry (is_nothing rest) ++ rest

-- what stands behind a head: a name, its padding, and the rest
pub record IsTail (kind : PackKind) (next len : ℕ) (after name rest : List ℕ) : Type 0 where
  pub spelled : after ≡ name ++ (padding_of kind (head_size kind + len) (is_nothing rest) ++ rest)
  pub len_is : length name ≡ len
  pub next_is : next ≡ next_distance kind (head_size kind + len) (is_nothing rest)
  pub name_is : IsName kind name
