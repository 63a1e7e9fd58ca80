-- The printed text of packed entries, after [MS-FSCC] 'FILE_NOTIFY_INFORMATION' and 'File Information
-- Classes': what a buffer of any bytes begins with, and what is printed of each entry.
use Rattle.std.specs.Prelude.{◌≡◌, ℕ, zero, suc, ◌+◌, ◌-◌, ◌*◌, ◌^◌, ◌<◌, ◌==◌, Bool, false, List, [], ◌∷◌, ◌++◌, length, take, drop, Option, Some, None, if◌then◌else◌, codes, decimal}
use Rattle.std.specs.List.{flat_map}
use Rattle.std.specs.Option.{option_map_or}
use Rattle.fsa_types.specs.Masks.{FILE_ACTION_ADDED, FILE_ACTION_REMOVED, FILE_ACTION_MODIFIED, FILE_ACTION_RENAMED_OLD_NAME, FILE_ACTION_RENAMED_NEW_NAME, FILE_ACTION_ADDED_STREAM, FILE_ACTION_REMOVED_STREAM, FILE_ACTION_MODIFIED_STREAM}
use Rattle.fsa_types.specs.PackedRows.{Numbers, NumbersFit, PackRow}
use Rattle.fsa_types.specs.Packing.{Packed, head_size, before_name, after_name, name_field, entry_bytes, is_nothing, shown, size_of, rounded}
use Rattle.fsa_types.specs.declared.reply.PackKind.{PackKind}
use Rattle.fsa_types.specs.declared.reply.PackKind.TheVariants.{Names, Dir, Full, IdFull, Streams, Changes}
use Rattle.fsa_model.specs.FieldText.{text_text, unit_text}
use Rattle.fsa_model.specs.Numbers.{spelled}
use Rattle.fsa_model.specs.Words.{same}

-- ---- what a buffer begins with

-- the number that these bytes are, the lowest first
abbrev pub number_in : List ℕ → ℕ
number_in [] = 0
number_in (byte ∷ bytes) = byte + number_in bytes * 256

-- the number in the four or eight bytes at this place
abbrev pub four_at : ℕ → List ℕ → ℕ
four_at place bytes = number_in (take 4 (drop place bytes))

abbrev pub eight_at : ℕ → List ℕ → ℕ
eight_at place bytes = number_in (take 8 (drop place bytes))

-- the units in a field of two bytes each
abbrev pub units_in : List ℕ → List ℕ
units_in (low ∷ high ∷ bytes) = (low + high * 256) ∷ units_in bytes
units_in _ = []

-- the numbers at the places where the layout has them; the others are 0
abbrev pub numbers_at : PackKind → List ℕ → Numbers
numbers_at Changes b = record { action = four_at 4 b; creation = 0; access = 0; write = 0; change = 0; length = 0; room = 0; attributes = 0; file = 0 }
numbers_at Names b = record { action = 0; creation = 0; access = 0; write = 0; change = 0; length = 0; room = 0; attributes = 0; file = 0 }
numbers_at Dir b = record { action = 0; creation = eight_at 8 b; access = eight_at 16 b; write = eight_at 24 b; change = eight_at 32 b; length = eight_at 40 b; room = eight_at 48 b; attributes = four_at 56 b; file = 0 }
numbers_at Full b = record { action = 0; creation = eight_at 8 b; access = eight_at 16 b; write = eight_at 24 b; change = eight_at 32 b; length = eight_at 40 b; room = eight_at 48 b; attributes = four_at 56 b; file = 0 }
numbers_at IdFull b = record { action = 0; creation = eight_at 8 b; access = eight_at 16 b; write = eight_at 24 b; change = eight_at 32 b; length = eight_at 40 b; room = eight_at 48 b; attributes = four_at 56 b; file = eight_at 72 b }
numbers_at Streams b = record { action = 0; creation = 0; access = 0; write = 0; change = 0; length = eight_at 8 b; room = eight_at 16 b; attributes = 0; file = 0 }

-- the distance to the next entry, and the number of bytes of the name's field
abbrev pub next_at : List ℕ → ℕ
next_at bytes = four_at 0 bytes

abbrev pub len_at : PackKind → List ℕ → ℕ
len_at Changes bytes = four_at 8 bytes
len_at Names bytes = four_at 8 bytes
len_at Dir bytes = four_at 60 bytes
len_at Full bytes = four_at 60 bytes
len_at IdFull bytes = four_at 60 bytes
len_at Streams bytes = four_at 4 bytes

-- the name's field
abbrev pub field_of : PackKind → List ℕ → List ℕ
field_of kind bytes = take (len_at kind bytes) (drop (head_size kind) bytes)

-- the units of the name: those of the field, but for what stands there before and behind each name
abbrev pub inner : PackKind → List ℕ → List ℕ
inner kind units = take (length units - (length (before_name kind) + length (after_name kind))) (drop (length (before_name kind)) units)

-- the entry with these numbers and this name
abbrev pub entry_at : PackKind → List ℕ → Packed
entry_at kind bytes = record { numbers = numbers_at kind bytes; name = name_field kind (inner kind (units_in (field_of kind bytes))) }

-- what follows: nothing where there is no next entry
abbrev pub rest_at : List ℕ → List ℕ
rest_at bytes = if next_at bytes == 0 then [] else drop (next_at bytes) bytes

-- the bytes of this entry and what follows it are the buffer
abbrev pub if_spelled : PackKind → List ℕ → Packed → List ℕ → Option (Packed × List ℕ)
if_spelled kind bytes entry rest = if same (entry_bytes kind entry (is_nothing rest) ++ rest) bytes then Some (entry, rest) else None

-- the entry that a buffer begins with, and what follows it
unfoldable pub read_entry : PackKind → List ℕ → Option (Packed × List ℕ)
read_entry kind bytes = if_spelled kind bytes (entry_at kind bytes) (rest_at bytes)

-- the entries of a buffer, up to where none begins, and `most` at most
abbrev pub first_entries : ℕ → PackKind → List ℕ → List Packed
first_entries zero kind bytes = []
first_entries (suc most) kind bytes = option_map_or (λ read. read.0 ∷ first_entries most kind read.1) (read_entry kind bytes) []

-- all of them; each has at least a byte
abbrev pub entries_in : PackKind → List ℕ → List Packed
entries_in kind bytes = first_entries (length bytes) kind bytes

-- ---- what is printed

-- the word of a change's action, and the number of one that isn't known
abbrev pub change_word : ℕ → List ℕ
change_word action =
    if action == FILE_ACTION_ADDED then codes "ADDED"
    else if action == FILE_ACTION_REMOVED then codes "REMOVED"
    else if action == FILE_ACTION_MODIFIED then codes "MODIFIED"
    else if action == FILE_ACTION_RENAMED_OLD_NAME then codes "RENAMED_OLD_NAME"
    else if action == FILE_ACTION_RENAMED_NEW_NAME then codes "RENAMED_NEW_NAME"
    else if action == FILE_ACTION_ADDED_STREAM then codes "ADDED_STREAM"
    else if action == FILE_ACTION_REMOVED_STREAM then codes "REMOVED_STREAM"
    else if action == FILE_ACTION_MODIFIED_STREAM then codes "MODIFIED_STREAM"
    else decimal action

-- behind a comma: a length, and attributes as a mask
abbrev pub length_text : ℕ → List ℕ
length_text n = 44 ∷ decimal n

abbrev pub attributes_text : ℕ → List ℕ
attributes_text mask = 44 ∷ 48 ∷ 120 ∷ spelled 16 mask

-- what is printed of these numbers and the units of the name's field
abbrev pub shown_text : PackKind → Numbers → List ℕ → List ℕ
shown_text Changes n units = 32 ∷ change_word n.action ++ 61 ∷ flat_map unit_text units
shown_text Names n units = text_text units
shown_text Dir n units = text_text units ++ attributes_text n.attributes ++ length_text n.length
shown_text Full n units = text_text units ++ attributes_text n.attributes ++ length_text n.length
shown_text IdFull n units = text_text units ++ attributes_text n.attributes ++ length_text n.length
shown_text Streams n units = text_text units ++ length_text n.length

-- what is printed of an entry
abbrev pub entry_text : PackKind → Packed → List ℕ
entry_text kind entry = shown_text kind entry.numbers (units_in entry.name)

-- what is printed of a buffer's entries
abbrev pub packed_text : PackKind → List ℕ → List ℕ
packed_text kind bytes = flat_map (entry_text kind) (entries_in kind bytes)

-- ---- rows that are packed, printed

-- what is printed of a row: the field of a stream's name is `:name:$DATA`
abbrev pub row_text : PackKind → PackRow → List ℕ
row_text kind row = shown_text kind row.numbers (before_name kind ++ row.name ++ after_name kind)

-- the layout has this entry: its numbers, its name, and lengths that fit their widths
pub record IsPacked (kind : PackKind) (entry : Packed) (last : Bool) : Type 0 where
  pub numbers : NumbersFit entry.numbers
  pub only : shown kind entry.numbers ≡ entry.numbers
  pub name : (units : List ℕ) × (entry.name ≡ name_field kind units)
  pub len : length entry.name < 2 ^ 32
  pub next : last ≡ false → rounded kind (size_of kind entry) < 2 ^ 32

-- a buffer begins with this entry, and this follows
pub record StartsWith (kind : PackKind) (bytes : List ℕ) (entry : Packed) (rest : List ℕ) : Type 0 where
  pub is_packed : IsPacked kind entry (is_nothing rest)
  pub spelled : bytes ≡ entry_bytes kind entry (is_nothing rest) ++ rest

-- units of 16 bits
abbrev pub AreUnits : List ℕ → Type 0
AreUnits [] = Unit {0}
AreUnits (unit ∷ units) = (unit < 2 ^ 16) × AreUnits units

-- a row whose numbers, units and lengths fit: the name has fewer than 2 ^ 31 - 64 units
pub record RowFits (row : PackRow) : Type 0 where
  pub numbers : NumbersFit row.numbers
  pub units : AreUnits row.name
  pub short : length row.name + 64 < 2 ^ 31

abbrev pub RowsFit : List PackRow → Type 0
RowsFit [] = Unit {0}
RowsFit (row ∷ rows) = RowFits row × RowsFit rows
