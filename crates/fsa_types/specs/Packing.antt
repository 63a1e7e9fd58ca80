-- Packed buffers: the layouts of their entries, the bytes of rows, and how many rows fit, after
-- [MS-FSCC] 'FILE_NOTIFY_INFORMATION', 'FileNamesInformation', 'FileDirectoryInformation',
-- 'FileFullDirectoryInformation', 'FileIdFullDirectoryInformation' and 'FileStreamInformation'.
use Rattle.std.specs.Prelude.{ℕ, zero, suc, ◌+◌, ◌-◌, ◌*◌, ◌/◌, nat_lt, Bool, true, false, List, [], ◌∷◌, ◌++◌, length, take, map, if◌then◌else◌}
use Rattle.fsa_types.specs.declared.reply.PackKind.{PackKind}
use Rattle.fsa_types.specs.declared.reply.PackKind.TheVariants.{Names, Dir, Full, IdFull, Streams, Changes}
use Rattle.fsa_types.specs.LittleEndian.{Field, Four, Eight, fields_bytes, utf16, zeros}
use Rattle.fsa_types.specs.PackedRows.{Numbers, PackRow}

-- the numbers before the name, in order: the distance to the next entry is `next`, the bytes of the
-- name are `len`, and the numbers 0 are the index, the size of extended attributes and the reserved
-- number
abbrev pub fields : PackKind → Numbers → ℕ → ℕ → List Field
fields Changes n next len = Four next ∷ Four n.action ∷ Four len ∷ []
fields Names n next len = Four next ∷ Four 0 ∷ Four len ∷ []
fields Dir n next len =
    Four next ∷ Four 0
    ∷ Eight n.creation ∷ Eight n.access ∷ Eight n.write ∷ Eight n.change
    ∷ Eight n.length ∷ Eight n.room ∷ Four n.attributes ∷ Four len ∷ []
fields Full n next len =
    Four next ∷ Four 0
    ∷ Eight n.creation ∷ Eight n.access ∷ Eight n.write ∷ Eight n.change
    ∷ Eight n.length ∷ Eight n.room ∷ Four n.attributes ∷ Four len ∷ Four 0 ∷ []
fields IdFull n next len =
    Four next ∷ Four 0
    ∷ Eight n.creation ∷ Eight n.access ∷ Eight n.write ∷ Eight n.change
    ∷ Eight n.length ∷ Eight n.room ∷ Four n.attributes ∷ Four len ∷ Four 0
    ∷ Four 0 ∷ Eight n.file ∷ []
fields Streams n next len = Four next ∷ Four len ∷ Eight n.length ∷ Eight n.room ∷ []

-- the bytes before the name
unfoldable pub head : PackKind → Numbers → ℕ → ℕ → List ℕ
head kind n next len = fields_bytes (fields kind n next len)

-- the place of the name
abbrev pub head_size : PackKind → ℕ
head_size Changes = 12
head_size Names = 12
head_size Dir = 64
head_size Full = 68
head_size IdFull = 80
head_size Streams = 24

-- what each entry but the last is padded to
abbrev pub align : PackKind → ℕ
align Changes = 4
align _ = 8

-- the next multiple of the alignment
abbrev pub rounded : PackKind → ℕ → ℕ
rounded kind size = (size + (align kind - 1)) / align kind * align kind

-- what stands in the field of a name before and behind its units: a stream's is `:name:$DATA`
abbrev pub before_name : PackKind → List ℕ
before_name Streams = 0x3A ∷ []
before_name _ = []

abbrev pub after_name : PackKind → List ℕ
after_name Streams = 0x3A ∷ 0x24 ∷ 0x44 ∷ 0x41 ∷ 0x54 ∷ 0x41 ∷ []
after_name _ = []

-- the field of the name with these units
unfoldable pub name_field : PackKind → List ℕ → List ℕ
name_field kind units = utf16 (before_name kind) ++ utf16 units ++ utf16 (after_name kind)

-- the numbers that the layout has; the others are 0
abbrev pub shown : PackKind → Numbers → Numbers
shown Changes n = record { action = n.action; creation = 0; access = 0; write = 0; change = 0; length = 0; room = 0; attributes = 0; file = 0 }
shown Names n = record { action = 0; creation = 0; access = 0; write = 0; change = 0; length = 0; room = 0; attributes = 0; file = 0 }
shown Dir n = record { action = 0; creation = n.creation; access = n.access; write = n.write; change = n.change; length = n.length; room = n.room; attributes = n.attributes; file = 0 }
shown Full n = record { action = 0; creation = n.creation; access = n.access; write = n.write; change = n.change; length = n.length; room = n.room; attributes = n.attributes; file = 0 }
shown IdFull n = record { action = 0; creation = n.creation; access = n.access; write = n.write; change = n.change; length = n.length; room = n.room; attributes = n.attributes; file = n.file }
shown Streams n = record { action = 0; creation = 0; access = 0; write = 0; change = 0; length = n.length; room = n.room; attributes = 0; file = 0 }

-- an entry: the numbers that its layout has, and the bytes of the field of its name
pub record Packed : Type 0 where
  pub numbers : Numbers
  pub name : List ℕ

-- the entry of a row
abbrev pub packed : PackKind → PackRow → Packed
packed kind row = record { numbers = shown kind row.numbers; name = name_field kind row.name }

-- the bytes of an entry without its padding
abbrev pub size_of : PackKind → Packed → ℕ
size_of kind entry = head_size kind + length entry.name

-- the bytes of an entry: the last one has no next entry and no padding
unfoldable pub entry_bytes : PackKind → Packed → Bool → List ℕ
entry_bytes kind entry true = head kind entry.numbers 0 (length entry.name) ++ entry.name
entry_bytes kind entry false =
    head kind entry.numbers (rounded kind (size_of kind entry)) (length entry.name) ++ entry.name
    ++ zeros (rounded kind (size_of kind entry) - size_of kind entry)

abbrev pub is_nothing : {A : Type 0} → List A → Bool
is_nothing [] = true
is_nothing (x ∷ xs) = false

-- the bytes of entries
abbrev pub entries_bytes : PackKind → List Packed → List ℕ
entries_bytes kind [] = []
entries_bytes kind (entry ∷ entries) = entry_bytes kind entry (is_nothing entries) ++ entries_bytes kind entries

-- the bytes of rows, and how many they are
abbrev pub bytes : PackKind → List PackRow → List ℕ
bytes kind rows = entries_bytes kind (map (packed kind) rows)

abbrev pub size : PackKind → List PackRow → ℕ
size kind rows = length (bytes kind rows)

-- the number of rows in the longest prefix of at most `most` rows whose size is at most the room
abbrev pub longest_fitting : PackKind → List PackRow → ℕ → ℕ → ℕ
longest_fitting kind rows room zero = 0
longest_fitting kind rows room (suc most) =
    if nat_lt room (size kind (take (suc most) rows)) then longest_fitting kind rows room most else suc most

-- the number of rows in the longest prefix whose size is at most the room
abbrev pub fitting : PackKind → List PackRow → ℕ → ℕ
fitting kind rows room = longest_fitting kind rows room (length rows)
