-- Texts and strings of bytes that are written are read again.
use Rattle.std.proofs.Common.{◌≡◌, ◌∙◌, sym, ap, ℕ, ◌+◌, ◌*◌, ◌/◌, ◌%◌, ◌<◌, ◌≤◌, Bool, true, false, List, [], ◌∷◌, ◌++◌, length, if◌then◌else◌, inl, inr, refl, arith}
use Rattle.std.specs.Prelude.{Ok, Err, nat_le, nat_lt, ◌==◌}
use Rattle.std.specs.List.{flat_map, list_all}
use Rattle.std.proofs.lemmas.List.{append-nil}
use Rattle.std.proofs.lemmas.Bool.{cases_Bool}
use Rattle.std.proofs.lemmas.Bool.Decides.{nat_tests}
use Rattle.fsa_model.specs.Fault.{BadSyntax}
use Rattle.fsa_model.specs.Numbers.{glyph}
use Rattle.fsa_model.specs.Words.{onto, is_plain, upper_digit_of, units_of, escaped_units, text_of, text_at, written_bytes, string_of, string_at}
use Rattle.fsa_model.specs.FieldText.{upper_glyph, unit_text, text_text, byte_text, string_text}
use Rattle.fsa_model.specs.Spelled.{SpellsUnit, SpellsUnits}
use Rattle.script_read.proofs.SpellLemmas.{both, at_most, digit_of-glyph, NoSpace, EndsWord, Lacks-append, field_at-again}

upper_digit_of-glyph : (digit : ℕ) → digit < 16 → upper_digit_of (upper_glyph digit) ≡ digit
upper_digit_of-glyph digit small = grind (arith, nat_tests)

below_16 : (digit : ℕ) → digit < 16 → nat_lt digit 16 ≡ true
below_16 digit small = grind (arith, nat_tests)

escaped : (a b c d unit : ℕ) (rest : List ℕ) → a < 16 → b < 16 → c < 16 → d < 16 → a * 4096 + b * 256 + c * 16 + d ≡ unit
    → escaped_units (upper_glyph a ∷ upper_glyph b ∷ upper_glyph c ∷ upper_glyph d ∷ rest) ≡ onto unit (units_of rest)
escaped a b c d unit rest small_a small_b small_c small_d whole =
    rw (
      upper_digit_of-glyph a small_a,
      upper_digit_of-glyph b small_b,
      upper_digit_of-glyph c small_c,
      upper_digit_of-glyph d small_d,
      below_16 a small_a,
      below_16 b small_b,
      below_16 c small_c,
      below_16 d small_d,
      whole,
    ) refl

second_of : {A : Type 0} (first second : Bool) (x y z : A) → first ≡ false → second ≡ true
    → (if first then x else if second then y else z) ≡ y
second_of first second x y z not_first is_second = rw (not_first, is_second) refl

units_of-unit : (unit : ℕ) (rest : List ℕ) → unit ≤ 65535 → units_of (unit_text unit ++ rest) ≡ onto unit (units_of rest)
units_of-unit unit rest small =
    elim (cases_Bool (is_plain unit)) [
      | inl plain ↦
          let other : (unit == 37) ≡ false = grind (arith, nat_tests) in
          rw plain (second_of (unit == 37) (is_plain unit) (escaped_units rest) (onto unit (units_of rest)) (Err BadSyntax) other plain)
      | inr not_plain ↦
          rw not_plain
          (escaped (unit / 16 / 16 / 16) (unit / 16 / 16 % 16) (unit / 16 % 16) (unit % 16) unit rest
          (omega arith) (omega arith) (omega arith) (omega arith) (omega arith))
    ]

NoSpace-unit : (unit : ℕ) → NoSpace (unit_text unit)
NoSpace-unit unit =
    elim (cases_Bool (is_plain unit)) [
      | inl plain ↦
          let no : (unit == 32) ≡ false = grind (arith, nat_tests) in
          rw plain (no, tt)
      | inr not_plain ↦
          let no = λ (digit : ℕ). (let e : (upper_glyph digit == 32) ≡ false = grind (arith, nat_tests) in e) in
          rw not_plain (refl, (no (unit / 16 / 16 / 16), (no (unit / 16 / 16 % 16), (no (unit / 16 % 16), (no (unit % 16), tt)))))
    ]

units_of-again : (units : List ℕ) → list_all (λ unit. nat_le unit 65535) units ≡ true → units_of (flat_map unit_text units) ≡ Ok units
units_of-again [] small = refl
units_of-again (unit ∷ units) small =
    let parts = both (nat_le unit 65535) (list_all (λ u. nat_le u 65535) units) small in
    units_of-unit unit (flat_map unit_text units) (at_most unit 65535 parts.0)
    ∙ ap (onto unit) (units_of-again units parts.1)

NoSpace-units : (units : List ℕ) → NoSpace (flat_map unit_text units)
NoSpace-units [] = tt
NoSpace-units (unit ∷ units) = Lacks-append 32 (unit_text unit) (flat_map unit_text units) (NoSpace-unit unit) (NoSpace-units units)

text_of-again : (units : List ℕ) → list_all (λ unit. nat_le unit 65535) units ≡ true → text_of (61 ∷ flat_map unit_text units) ≡ Ok units
unfolding text_of
text_of-again units small = units_of-again units small

pub text_at-again : (units rest : List ℕ) → list_all (λ unit. nat_le unit 65535) units ≡ true → EndsWord rest
    → text_at (text_text units ++ rest) ≡ Ok (units, rest)
unfolding text_at
text_at-again units rest small ends =
    rw (field_at-again (61 ∷ flat_map unit_text units) rest (refl, NoSpace-units units) ends, text_of-again units small) refl

-- ---- units that are written as themselves or as escapes

plain_other : (unit : ℕ) → is_plain unit ≡ true → (unit == 37) ≡ false
plain_other unit plain = grind (arith, nat_tests)

plain_no_space : (unit : ℕ) → is_plain unit ≡ true → (unit == 32) ≡ false
plain_no_space unit plain = grind (arith, nat_tests)

glyph_no_space : (digit : ℕ) → (upper_glyph digit == 32) ≡ false
glyph_no_space digit = grind (arith, nat_tests)

unit-spelled : (unit : ℕ) (front rest : List ℕ) → SpellsUnit unit front → unit ≤ 65535 → units_of (front ++ rest) ≡ onto unit (units_of rest)
unit-spelled unit front rest spells small =
    elim spells [
      | inl h ↦
          rw h.1 (second_of (unit == 37) (is_plain unit) (escaped_units rest) (onto unit (units_of rest)) (Err BadSyntax) (plain_other unit h.0) h.0)
      | inr is ↦
          rw is
          (escaped (unit / 16 / 16 / 16) (unit / 16 / 16 % 16) (unit / 16 % 16) (unit % 16) unit rest
          (omega arith) (omega arith) (omega arith) (omega arith) (omega arith))
    ]

NoSpace-spelled_unit : (unit : ℕ) (front : List ℕ) → SpellsUnit unit front → NoSpace front
NoSpace-spelled_unit unit front spells =
    elim spells [
      | inl h ↦ rw h.1 (plain_no_space unit h.0, tt)
      | inr is ↦
          rw is
          (refl, (glyph_no_space (unit / 16 / 16 / 16), (glyph_no_space (unit / 16 / 16 % 16), (glyph_no_space (unit / 16 % 16), (glyph_no_space (unit % 16), tt)))))
    ]

units-spelled : (units text : List ℕ) → SpellsUnits units text → list_all (λ unit. nat_le unit 65535) units ≡ true → (units_of text ≡ Ok units) × NoSpace text
units-spelled [] text spells small = rw spells (refl, tt)
units-spelled (unit ∷ units) text spells small =
    let parts = both (nat_le unit 65535) (list_all (λ u. nat_le u 65535) units) small in
    let rest = units-spelled units spells.1 spells.4 parts.1 in
    rw spells.2 (
      unit-spelled unit spells.0 spells.1 spells.3 (at_most unit 65535 parts.0) ∙ ap (onto unit) rest.0,
      Lacks-append 32 spells.0 spells.1 (NoSpace-spelled_unit unit spells.0 spells.3) rest.1,
    )

text_of-spelled : (units text : List ℕ) → units_of text ≡ Ok units → text_of (61 ∷ text) ≡ Ok units
unfolding text_of
text_of-spelled units text is = is

pub text_at-spelled : (units text rest : List ℕ) → SpellsUnits units text → list_all (λ unit. nat_le unit 65535) units ≡ true → EndsWord rest
    → text_at (32 ∷ 61 ∷ (text ++ rest)) ≡ Ok (units, rest)
unfolding text_at
text_at-spelled units text rest spells small ends =
    let read = units-spelled units text spells small in
    rw (field_at-again (61 ∷ text) rest (refl, read.1) ends, text_of-spelled units text read.0) refl

-- ---- strings of bytes

bytes_of-byte : (byte : ℕ) (rest : List ℕ) → byte ≤ 255 → written_bytes (byte_text byte ++ rest) ≡ onto byte (written_bytes rest)
bytes_of-byte byte rest small =
    let high : byte / 16 < 16 = omega arith in
    let low : byte % 16 < 16 = omega arith in
    let whole : byte / 16 * 16 + byte % 16 ≡ byte = omega arith in
    rw (digit_of-glyph (byte / 16) high, digit_of-glyph (byte % 16) low, below_16 (byte / 16) high, below_16 (byte % 16) low, whole) refl

bytes_of-again : (bytes : List ℕ) → list_all (λ byte. nat_le byte 255) bytes ≡ true → written_bytes (flat_map byte_text bytes) ≡ Ok bytes
bytes_of-again [] small = refl
bytes_of-again (byte ∷ bytes) small =
    let parts = both (nat_le byte 255) (list_all (λ b. nat_le b 255) bytes) small in
    bytes_of-byte byte (flat_map byte_text bytes) (at_most byte 255 parts.0)
    ∙ ap (onto byte) (bytes_of-again bytes parts.1)

NoSpace-bytes : (bytes : List ℕ) → NoSpace (flat_map byte_text bytes)
NoSpace-bytes [] = tt
NoSpace-bytes (byte ∷ bytes) =
    let no = λ (digit : ℕ). (let e : (glyph digit == 32) ≡ false = grind (arith, nat_tests) in e) in
    (no (byte / 16), (no (byte % 16), NoSpace-bytes bytes))

length-bytes : (bytes : List ℕ) → length (flat_map byte_text bytes) ≡ 2 * length bytes
length-bytes [] = refl
length-bytes (byte ∷ bytes) =
    let later : length (flat_map byte_text bytes) ≡ 2 * length bytes = length-bytes bytes in
    omega arith

string_of-again : (bytes : List ℕ) → list_all (λ byte. nat_le byte 255) bytes ≡ true → length bytes ≤ 16384
    → string_of (120 ∷ flat_map byte_text bytes) ≡ Ok bytes
unfolding string_of
string_of-again bytes small few =
    let fits : nat_le (length (flat_map byte_text bytes)) 32768 ≡ true = rw (length-bytes bytes) (grind (arith, nat_tests)) in
    rw fits (bytes_of-again bytes small)

pub string_at-again : (bytes rest : List ℕ) → list_all (λ byte. nat_le byte 255) bytes ≡ true → length bytes ≤ 16384 → EndsWord rest
    → string_at (string_text bytes ++ rest) ≡ Ok (bytes, rest)
unfolding string_at
string_at-again bytes rest small few ends =
    rw (field_at-again (120 ∷ flat_map byte_text bytes) rest (refl, NoSpace-bytes bytes) ends, string_of-again bytes small few) refl

pub string_at-last : (bytes : List ℕ) → list_all (λ byte. nat_le byte 255) bytes ≡ true → length bytes ≤ 16384
    → string_at (string_text bytes) ≡ Ok (bytes, [])
string_at-last bytes small few = ap string_at (sym (append-nil (string_text bytes))) ∙ string_at-again bytes [] small few tt
