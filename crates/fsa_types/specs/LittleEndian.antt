-- Numbers and names as bytes, the lowest byte first, as the layouts of [MS-FSCC] have them.
use Rattle.std.specs.Prelude.{ℕ, List, replicate}
use Rattle.std.specs.List.{flat_map}
use Rattle.std.specs.Int.{bytes_low_first}

-- the lowest `count` bytes of a number
abbrev pub little_endian : ℕ → ℕ → List ℕ
little_endian count number = bytes_low_first 0 count number

-- a number in a layout, of four or of eight bytes
pub data Field : Type 0 where
  Four : ℕ → Field
  Eight : ℕ → Field

abbrev pub field_bytes : Field → List ℕ
field_bytes (Four number) = little_endian 4 number
field_bytes (Eight number) = little_endian 8 number

-- numbers one after the other
abbrev pub fields_bytes : List Field → List ℕ
fields_bytes fields = flat_map field_bytes fields

-- a unit of a name
abbrev pub unit_bytes : ℕ → List ℕ
unit_bytes unit = little_endian 2 unit

-- a name in UTF-16LE
abbrev pub utf16 : List ℕ → List ℕ
utf16 units = flat_map unit_bytes units

-- padding
unfoldable pub zeros : ℕ → List ℕ
zeros count = replicate count 0
