-- The text of a line's fields: numbers, masks, levels, texts of units and strings of bytes, each behind a space.
use Rattle.std.specs.Prelude.{ℕ, ◌+◌, ◌/◌, ◌%◌, nat_lt, Bool, List, [], ◌∷◌, if◌then◌else◌, codes}
use Rattle.std.specs.List.{flat_map}
use Rattle.fsa_types.specs.declared.request.Level.{Level}
use Rattle.fsa_types.specs.declared.request.Level.TheVariants.{Nil, R, RH, RW, RWH}
use Rattle.fsa_model.specs.Numbers.{glyph, spelled}
use Rattle.fsa_model.specs.Words.{is_plain}

-- a decimal number, and a mask, as fields
abbrev pub number_text : ℕ → List ℕ
number_text n = 32 ∷ spelled 10 n

abbrev pub mask_text : ℕ → List ℕ
mask_text n = 32 ∷ 48 ∷ 120 ∷ spelled 16 n

-- one of two words, as a field
abbrev pub choice_text : List ℕ → List ℕ → Bool → List ℕ
choice_text first second choice = 32 ∷ (if choice then first else second)

-- `none`, `r`, `rh`, `rw` or `rwh`
abbrev pub level_word : Level → List ℕ
level_word Nil = codes "none"
level_word R = codes "r"
level_word RH = codes "rh"
level_word RW = codes "rw"
level_word RWH = codes "rwh"

-- it, as a field
abbrev pub level_text : Level → List ℕ
level_text level = 32 ∷ level_word level

-- the upper-case hexadecimal digit of a value
abbrev pub upper_glyph : ℕ → ℕ
upper_glyph digit = if nat_lt digit 10 then 48 + digit else 55 + digit

-- `%` and the four digits of a unit
abbrev pub escape_text : ℕ → List ℕ
escape_text unit = 37 ∷ upper_glyph (unit / 16 / 16 / 16) ∷ upper_glyph (unit / 16 / 16 % 16) ∷ upper_glyph (unit / 16 % 16) ∷ upper_glyph (unit % 16) ∷ []

-- a unit, as itself or escaped
abbrev pub unit_text : ℕ → List ℕ
unit_text unit = if is_plain unit then unit ∷ [] else escape_text unit

abbrev pub text_text : List ℕ → List ℕ
text_text units = 32 ∷ 61 ∷ flat_map unit_text units

-- a byte in two digits
abbrev pub byte_text : ℕ → List ℕ
byte_text byte = glyph (byte / 16) ∷ glyph (byte % 16) ∷ []

-- bytes in two digits each
abbrev pub hex_digits : List ℕ → List ℕ
hex_digits bytes = flat_map byte_text bytes

-- these digits behind `x`
abbrev pub bytes_text : List ℕ → List ℕ
bytes_text bytes = 120 ∷ hex_digits bytes

-- bytes behind `x`, as a field
abbrev pub string_text : List ℕ → List ℕ
string_text bytes = 32 ∷ bytes_text bytes
