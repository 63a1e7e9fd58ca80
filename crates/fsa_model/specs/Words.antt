-- The fields of a script's line: numbers, masks, texts, bytes and clients' names, each a word behind a space.
use Rattle.std.specs.Prelude.{ℕ, ◌+◌, ◌-◌, ◌*◌, ◌^◌, ◌==◌, ◌&&◌, ◌||◌, not, nat_le, nat_lt, nat_eq, Bool, true, false, List, [], ◌∷◌, Result, Ok, Err, if◌then◌else◌, length, drop, codes}
use Rattle.std.specs.List.{before_first, position_or_len, list_all}
use Rattle.std.specs.Cmp.Lexicographic.{pointwise}
pub use Rattle.fsa_types.specs.Request.{most_bytes}
use Rattle.fsa_model.specs.Fault.{Kind, BadSyntax, ◌>>=◌, read_as, only_if}
use Rattle.fsa_model.specs.Numbers.{digit_of, written_number}

-- handles, numbers of calls and SIDs are below 2 ^ 32
abbrev pub most_id : ℕ
most_id = 4294967295

-- masks are below 2 ^ 32
abbrev pub most_mask : ℕ
most_mask = 4294967295

-- places in a stream, and the lengths of locks, are below 2 ^ 64
abbrev pub most_place : ℕ
most_place = 18446744073709551615

-- the bytes are these
abbrev pub same : List ℕ → List ℕ → Bool
same bytes text = pointwise nat_eq bytes text

-- the word at the front, up to the first space or to the end
abbrev pub word_of : List ℕ → List ℕ
word_of bytes = before_first (λ byte. byte == 32) bytes

-- what follows it, from that space on
abbrev pub after_word : List ℕ → List ℕ
after_word bytes = drop (position_or_len (λ byte. byte == 32) bytes) bytes

-- a field is a space and a word; beside the word stands what is left of the line
unfoldable pub field_at : List ℕ → Result (List ℕ × List ℕ) Kind
field_at [] = Err BadSyntax
field_at (byte ∷ bytes) = only_if (byte == 32) (word_of bytes, after_word bytes)

-- nothing is left of the line
abbrev pub ended : {A : Type 0} → List ℕ → A → Result A Kind
ended rest value = only_if (length rest == 0) value

-- a decimal number, `most` at most
unfoldable pub number_at : ℕ → List ℕ → Result (ℕ × List ℕ) Kind
number_at most bytes = do
  word ← field_at bytes
  number ← read_as (written_number 10 most word.0)
  Ok (number, word.1)

-- `0x` and a hexadecimal number below 2 ^ 32
unfoldable pub mask_of : List ℕ → Result ℕ Kind
mask_of [] = Err BadSyntax
mask_of (first ∷ []) = Err BadSyntax
mask_of (first ∷ x ∷ digits) = if first == 48 && x == 120 then read_as (written_number 16 (2 ^ 32 - 1) digits) else Err BadSyntax

unfoldable pub mask_at : List ℕ → Result (ℕ × List ℕ) Kind
mask_at bytes = do
  word ← field_at bytes
  mask ← mask_of word.0
  Ok (mask, word.1)

-- one of two words: true for the first
abbrev pub choice_of : List ℕ → List ℕ → List ℕ → Result Bool Kind
choice_of first second word = if same word first then Ok true else if same word second then Ok false else Err BadSyntax

unfoldable pub choice_at : List ℕ → List ℕ → List ℕ → Result (Bool × List ℕ) Kind
choice_at first second bytes = do
  word ← field_at bytes
  choice ← choice_of first second word.0
  Ok (choice, word.1)

-- the value of an upper-case hexadecimal digit; 16 where the byte is none
abbrev pub upper_digit_of : ℕ → ℕ
upper_digit_of byte =
    if nat_le 48 byte && nat_le byte 57 then byte - 48
    else if nat_le 65 byte && nat_le byte 70 then byte - 55
    else 16

-- the unit that four upper-case hexadecimal digits write
abbrev pub are_upper_digits : ℕ → ℕ → ℕ → ℕ → Bool
are_upper_digits a b c d = nat_lt (upper_digit_of a) 16 && nat_lt (upper_digit_of b) 16 && nat_lt (upper_digit_of c) 16 && nat_lt (upper_digit_of d) 16

abbrev pub unit_of_digits : ℕ → ℕ → ℕ → ℕ → ℕ
unit_of_digits a b c d = upper_digit_of a * 4096 + upper_digit_of b * 256 + upper_digit_of c * 16 + upper_digit_of d

-- a byte that is a unit as it stands: 0x21 to 0x7E but for `%`
abbrev pub is_plain : ℕ → Bool
is_plain byte = nat_le 33 byte && nat_le byte 126 && not (byte == 37)

-- this item before those that are read
abbrev pub onto : ℕ → Result (List ℕ) Kind → Result (List ℕ) Kind
onto item (Ok items) = Ok (item ∷ items)
onto item (Err kind) = Err kind

abbrev mutual
  -- units, each a plain byte or `%` and four upper-case hexadecimal digits
  pub units_of : List ℕ → Result (List ℕ) Kind
  units_of [] = Ok []
  units_of (byte ∷ bytes) = if byte == 37 then escaped_units bytes else if is_plain byte then onto byte (units_of bytes) else Err BadSyntax

  pub escaped_units : List ℕ → Result (List ℕ) Kind
  escaped_units (a ∷ b ∷ c ∷ d ∷ bytes) = if are_upper_digits a b c d then onto (unit_of_digits a b c d) (units_of bytes) else Err BadSyntax
  escaped_units _ = Err BadSyntax

-- `=` and units
unfoldable pub text_of : List ℕ → Result (List ℕ) Kind
text_of [] = Err BadSyntax
text_of (byte ∷ bytes) = if byte == 61 then units_of bytes else Err BadSyntax

unfoldable pub text_at : List ℕ → Result (List ℕ × List ℕ) Kind
text_at bytes = do
  word ← field_at bytes
  units ← text_of word.0
  Ok (units, word.1)

-- the bytes that pairs of lower-case hexadecimal digits write
abbrev pub written_bytes : List ℕ → Result (List ℕ) Kind
written_bytes [] = Ok []
written_bytes (digit ∷ []) = Err BadSyntax
written_bytes (high ∷ low ∷ digits) =
    if nat_lt (digit_of high) 16 && nat_lt (digit_of low) 16
    then onto (digit_of high * 16 + digit_of low) (written_bytes digits)
    else Err BadSyntax

-- `x` and at most most_bytes bytes, two digits each
unfoldable pub string_of : List ℕ → Result (List ℕ) Kind
string_of [] = Err BadSyntax
string_of (byte ∷ digits) = if byte == 120 && nat_le (length digits) (2 * most_bytes) then written_bytes digits else Err BadSyntax

unfoldable pub string_at : List ℕ → Result (List ℕ × List ℕ) Kind
string_at bytes = do
  word ← field_at bytes
  string ← string_of word.0
  Ok (string, word.1)

-- `a` to `z`, `0` to `9` and `_`
abbrev pub is_name_byte : ℕ → Bool
is_name_byte byte = nat_le 97 byte && nat_le byte 122 || nat_le 48 byte && nat_le byte 57 || byte == 95

-- a client's name: 1 to 16 of these bytes, and not `client`
abbrev pub is_name : List ℕ → Bool
is_name word = nat_le 1 (length word) && nat_le (length word) 16 && list_all is_name_byte word && not (same word (codes "client"))
