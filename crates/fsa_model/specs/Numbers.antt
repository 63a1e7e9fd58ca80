-- How scripts write numbers: decimal or lower-case hexadecimal digits, without sign or leading zero.
use Rattle.std.specs.Prelude.{ℕ, ◌+◌, ◌-◌, ◌*◌, ◌==◌, ◌&&◌, nat_le, nat_lt, List, [], ◌∷◌, Option, Some, None, if◌then◌else◌, map}
use Rattle.std.specs.Int.Digits.{digits_of}

-- the digit that a byte stands for: `0` to `9`, then `a` to `f`; 16 where it is none
abbrev pub digit_of : ℕ → ℕ
digit_of byte =
    if nat_le 48 byte && nat_le byte 57 then byte - 48
    else if nat_le 97 byte && nat_le byte 102 then byte - 87
    else 16

-- the byte of a digit
abbrev pub glyph : ℕ → ℕ
glyph digit = if nat_lt digit 10 then 48 + digit else 87 + digit

-- a number, written in this base
abbrev pub spelled : ℕ → ℕ → List ℕ
spelled base n = if n == 0 then 48 ∷ [] else map glyph (digits_of base n)

-- the number whose first digits say `n`, and whose further digits these bytes are; it is `most` at most
abbrev pub number_after : ℕ → ℕ → ℕ → List ℕ → Option ℕ
number_after base most n [] = Some n
number_after base most n (byte ∷ bytes) =
    if nat_lt (digit_of byte) base && nat_le (n * base + digit_of byte) most
    then number_after base most (n * base + digit_of byte) bytes
    else None

-- the number that these bytes write in this base, `most` at most
abbrev pub written_number : ℕ → ℕ → List ℕ → Option ℕ
written_number base most [] = None
written_number base most (byte ∷ []) = number_after base most 0 (byte ∷ [])
written_number base most (byte ∷ second ∷ bytes) = if byte == 48 then None else number_after base most 0 (byte ∷ second ∷ bytes)
