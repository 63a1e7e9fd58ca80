-- What is read as a field is written so: the readings of words, numbers, masks, texts and strings, backwards.
use Rattle.std.proofs.Common.{◌≡◌, ◌∙◌, sym, ap, subst, ℕ, ◌+◌, ◌*◌, ◌/◌, ◌%◌, ◌<◌, ◌≤◌, Bool, true, false, List, [], ◌∷◌, ◌++◌, Option, Some, None, Result, Ok, Err, length, map, inl, inr, refl, arith, append-nil, append_assoc, leb-true, le-leb, ltb-true, eqb-true}
use Rattle.std.specs.Prelude.{◌==◌, ◌&&◌, nat_le, nat_lt, if◌then◌else◌}
use Rattle.std.specs.List.{flat_map, list_all, position_or_len}
use Rattle.std.specs.Int.Digits.{digits_of}
use Rattle.std.proofs.lemmas.Int.Digits.{digits_of_step}
use Rattle.std.proofs.lemmas.List.{map-append, take-append-drop}
use Rattle.std.proofs.lemmas.Nat.{div-mul-add, mod-mul-add}
use Rattle.std.proofs.Math.Nat.{le-mul_of_pos_right}
use Rattle.std.proofs.lemmas.Bool.{and_parts, cases_Bool}
use Rattle.std.proofs.lemmas.Bool.Decides.{nat_tests}
use Rattle.fsa_model.specs.Fault.{Kind, BadSyntax, ◌>>=◌, only_if, read_as}
use Rattle.fsa_model.specs.Numbers.{digit_of, glyph, spelled, number_after, written_number}
use Rattle.fsa_model.specs.Words.{word_of, after_word, field_at, ended, number_at, mask_of, mask_at, upper_digit_of, are_upper_digits, unit_of_digits, is_plain, onto, units_of, escaped_units, text_of, text_at, written_bytes, string_of, string_at}
use Rattle.fsa_model.specs.FieldText.{number_text, mask_text, upper_glyph, byte_text, string_text}
use Rattle.fsa_model.specs.Spelled.{escape_text, SpellsUnit, SpellsUnits}

-- ---- readings one after another

pub bind_ok : {A B : Type 0} (read : Result A Kind) (more : A → Result B Kind) (value : B) → read >>= more ≡ Ok value → (first : A) × (read ≡ Ok first) × (more first ≡ Ok value)
bind_ok (Ok first) more value is = (first, refl, is)
bind_ok (Err kind) more value is = absurd (let e : Err kind ≡ Ok value = is in cc)

pub only_if_ok : {A : Type 0} (test : Bool) (value other : A) → only_if test value ≡ Ok other → (test ≡ true) × (value ≡ other)
only_if_ok true value other is = (refl, (let e : Ok value ≡ Ok other = is in cc))
only_if_ok false value other is = absurd (let e : Err BadSyntax ≡ Ok other = is in cc)

pub if_ok : {A : Type 0} (test : Bool) (read : Result A Kind) (value : A) → (if test then read else Err BadSyntax) ≡ Ok value → (test ≡ true) × (read ≡ Ok value)
if_ok true read value is = (refl, is)
if_ok false read value is = absurd (let e : Err BadSyntax ≡ Ok value = is in cc)

pub read_as_ok : {A : Type 0} (read : Option A) (value : A) → read_as read ≡ Ok value → read ≡ Some value
read_as_ok (Some other) value is = (let e : Ok other ≡ Ok value = is in cc)
read_as_ok None value is = absurd (let e : Err BadSyntax ≡ Ok value = is in cc)

pub none_left : (rest : List ℕ) → (length rest == 0) ≡ true → rest ≡ []
none_left [] is = refl
none_left (byte ∷ rest) is = absurd (let e : length (byte ∷ rest) ≡ 0 = eqb-true (length (byte ∷ rest)) 0 is in omega arith)

pub ended_ok : {A : Type 0} (rest : List ℕ) (value other : A) → ended rest value ≡ Ok other → (rest ≡ []) × (value ≡ other)
ended_ok rest value other is = let parts = only_if_ok (length rest == 0) value other is in (none_left rest parts.0, parts.1)

-- ---- words

pub field_back : (bytes : List ℕ) (word : List ℕ × List ℕ) → field_at bytes ≡ Ok word → bytes ≡ 32 ∷ (word.0 ++ word.1)
unfolding field_at
field_back [] word is = absurd (let e : Err BadSyntax ≡ Ok word = is in cc)
field_back (byte ∷ bytes) word is =
    let parts = only_if_ok (byte == 32) (word_of bytes, after_word bytes) word is in
    ap (λ (b : ℕ). b ∷ bytes) (eqb-true byte 32 parts.0)
    ∙ ap (λ (rest : List ℕ). 32 ∷ rest)
    (sym (take-append-drop (position_or_len (λ (b : ℕ). b == 32) bytes) bytes) ∙ ap (λ (w : List ℕ × List ℕ). w.0 ++ w.1) parts.1)

-- ---- numbers

some_if : (test : Bool) (o : Option ℕ) (m : ℕ) → (if test then o else None) ≡ Some m → (test ≡ true) × (o ≡ Some m)
some_if true o m is = (refl, is)
some_if false o m is = absurd (let e : None ≡ Some m = is in cc)

none_if : (test : Bool) (o : Option ℕ) (m : ℕ) → (if test then None else o) ≡ Some m → (test ≡ false) × (o ≡ Some m)
none_if true o m is = absurd (let e : None ≡ Some m = is in cc)
none_if false o m is = (refl, is)

-- a byte that is a digit is that digit's
glyph-digit_of : (byte : ℕ) → digit_of byte < 16 → glyph (digit_of byte) ≡ byte
glyph-digit_of byte small = grind (arith, nat_tests)

-- one digit more
digits-push : (base n digit : ℕ) → 2 ≤ base → digit < base → 0 < n * base + digit → digits_of base (n * base + digit) ≡ digits_of base n ++ digit ∷ []
digits-push base n digit two small some =
    digits_of_step base (n * base + digit) two some
    ∙ ap (λ (front : ℕ). digits_of base front ++ (n * base + digit) % base ∷ []) (div-mul-add n base digit small)
    ∙ ap (λ (last : ℕ). digits_of base n ++ last ∷ []) (mod-mul-add n base digit small)

glyphs-push : (base n byte : ℕ) → 2 ≤ base → base ≤ 16 → digit_of byte < base → 0 < n * base + digit_of byte
    → map glyph (digits_of base (n * base + digit_of byte)) ≡ map glyph (digits_of base n) ++ byte ∷ []
glyphs-push base n byte two hexadecimal small some =
    ap (map glyph) (digits-push base n (digit_of byte) two small some)
    ∙ map-append glyph (digits_of base n) (digit_of byte ∷ [])
    ∙ ap (λ (last : ℕ). map glyph (digits_of base n) ++ last ∷ []) (glyph-digit_of byte (omega arith))

digits_after : (base most n m : ℕ) (bytes : List ℕ) → 2 ≤ base → base ≤ 16 → 0 < n → number_after base most n bytes ≡ Some m
    → (map glyph (digits_of base m) ≡ map glyph (digits_of base n) ++ bytes) × (0 < m)
digits_after base most n m [] two hexadecimal some is =
    let same : n ≡ m = cc in
    (ap (λ (k : ℕ). map glyph (digits_of base k)) (sym same) ∙ sym (append-nil (map glyph (digits_of base n))), subst (λ (k : ℕ). 0 < k) same some)
digits_after base most n m (byte ∷ bytes) two hexadecimal some is =
    let parts = some_if (nat_lt (digit_of byte) base && nat_le (n * base + digit_of byte) most) (number_after base most (n * base + digit_of byte) bytes) m is in
    let small : digit_of byte < base = ltb-true (digit_of byte) base (and_parts (nat_lt (digit_of byte) base) (nat_le (n * base + digit_of byte) most) parts.0).0 in
    let grows : n ≤ n * base = le-mul_of_pos_right n (omega arith) in
    let more = digits_after base most (n * base + digit_of byte) m bytes two hexadecimal (omega arith) parts.1 in (
      more.0
          ∙ ap (λ (front : List ℕ). front ++ bytes) (glyphs-push base n byte two hexadecimal small (omega arith))
          ∙ append_assoc (map glyph (digits_of base n)) (byte ∷ []) bytes,
      more.1,
    )

spelled-some : (base n : ℕ) → 0 < n → spelled base n ≡ map glyph (digits_of base n)
spelled-some base n some = let test : (n == 0) ≡ false = grind (arith, nat_tests) in rw test refl

-- a first digit that isn't zero, and what follows it
digits_from : (base most n byte : ℕ) (bytes : List ℕ) → 2 ≤ base → base ≤ 16 → 0 < digit_of byte → number_after base most 0 (byte ∷ bytes) ≡ Some n → byte ∷ bytes ≡ spelled base n
digits_from base most n byte bytes two hexadecimal first is =
    let parts = some_if (nat_lt (digit_of byte) base && nat_le (0 * base + digit_of byte) most) (number_after base most (0 * base + digit_of byte) bytes) n is in
    let small : digit_of byte < base = ltb-true (digit_of byte) base (and_parts (nat_lt (digit_of byte) base) (nat_le (0 * base + digit_of byte) most) parts.0).0 in
    let more = digits_after base most (0 * base + digit_of byte) n bytes two hexadecimal (omega arith) parts.1 in
    sym (spelled-some base n more.1 ∙ more.0 ∙ ap (λ (front : List ℕ). front ++ bytes) (glyphs-push base 0 byte two hexadecimal small (omega arith)))

zero_digit : (byte : ℕ) → digit_of byte ≡ 0 → byte ≡ 48
zero_digit byte is = grind (arith, nat_tests)

some_digit : (byte : ℕ) → (byte == 48) ≡ false → 0 < digit_of byte
some_digit byte other = grind (arith, nat_tests)

pub number_back : (base most n : ℕ) (word : List ℕ) → 2 ≤ base → base ≤ 16 → written_number base most word ≡ Some n → word ≡ spelled base n
number_back base most n [] two hexadecimal is = absurd (let e : None ≡ Some n = is in cc)
number_back base most n (byte ∷ []) two hexadecimal is =
    elim (cases_Bool (byte == 48)) [
      | inl null ↦
          let zero_is : byte ≡ 48 = eqb-true byte 48 null in
          let parts = some_if (nat_lt (digit_of byte) base && nat_le (0 * base + digit_of byte) most) (Some (0 * base + digit_of byte)) n is in
          let value : 0 * base + digit_of byte ≡ n = (let e : Some (0 * base + digit_of byte) ≡ Some n = parts.1 in cc) in
          let digit : digit_of byte ≡ 0 = ap digit_of zero_is in
          let none : n ≡ 0 = omega arith in
          rw (zero_is, none) refl
      | inr other ↦ digits_from base most n byte [] two hexadecimal (some_digit byte other) is
    ]
number_back base most n (byte ∷ second ∷ bytes) two hexadecimal is =
    let parts = none_if (byte == 48) (number_after base most 0 (byte ∷ second ∷ bytes)) n is in
    digits_from base most n byte (second ∷ bytes) two hexadecimal (some_digit byte parts.0) parts.1

number_after-most : (base most n m : ℕ) (bytes : List ℕ) → n ≤ most → number_after base most n bytes ≡ Some m → m ≤ most
number_after-most base most n m [] within is = (let same : n ≡ m = cc in omega arith)
number_after-most base most n m (byte ∷ bytes) within is =
    let parts = some_if (nat_lt (digit_of byte) base && nat_le (n * base + digit_of byte) most) (number_after base most (n * base + digit_of byte) bytes) m is in
    number_after-most base most (n * base + digit_of byte) m bytes (leb-true _ most (and_parts (nat_lt (digit_of byte) base) (nat_le (n * base + digit_of byte) most) parts.0).1) parts.1

pub number_of-most : (base most n : ℕ) (word : List ℕ) → written_number base most word ≡ Some n → n ≤ most
number_of-most base most n [] is = absurd (let e : None ≡ Some n = is in cc)
number_of-most base most n (byte ∷ []) is = number_after-most base most 0 n (byte ∷ []) (omega arith) is
number_of-most base most n (byte ∷ second ∷ bytes) is =
    number_after-most base most 0 n (byte ∷ second ∷ bytes) (omega arith) (none_if (byte == 48) (number_after base most 0 (byte ∷ second ∷ bytes)) n is).1

-- a field that is read as this number is its text, and it is at most this
pub number_at-back : (most : ℕ) (bytes : List ℕ) (number : ℕ × List ℕ) → number_at most bytes ≡ Ok number → (bytes ≡ number_text number.0 ++ number.1) × (number.0 ≤ most)
unfolding number_at
number_at-back most bytes number is =
    let word = bind_ok (field_at bytes) _ number is in
    let value = bind_ok (read_as (written_number 10 most word.0.0)) _ number word.2 in
    let pair : (value.0, word.0.1) ≡ number = (let e : Ok (value.0, word.0.1) ≡ Ok number = value.2 in cc) in
    let read : written_number 10 most word.0.0 ≡ Some value.0 = read_as_ok (written_number 10 most word.0.0) value.0 value.1 in (
      field_back bytes word.0 word.1
          ∙ ap (λ (w : List ℕ). 32 ∷ (w ++ word.0.1)) (number_back 10 most value.0 word.0.0 (omega arith) (omega arith) read)
          ∙ ap (λ (p : ℕ × List ℕ). number_text p.0 ++ p.1) pair,
      subst (λ (p : ℕ × List ℕ). p.0 ≤ most) pair (number_of-most 10 most value.0 word.0.0 read),
    )

-- ---- masks

pub mask_of-back : (word : List ℕ) (mask : ℕ) → mask_of word ≡ Ok mask → (word ≡ 48 ∷ 120 ∷ spelled 16 mask) × (mask ≤ 4294967295)
unfolding mask_of
mask_of-back [] mask is = absurd (let e : Err BadSyntax ≡ Ok mask = is in cc)
mask_of-back (first ∷ []) mask is = absurd (let e : Err BadSyntax ≡ Ok mask = is in cc)
mask_of-back (first ∷ x ∷ digits) mask is =
    let parts = if_ok (first == 48 && x == 120) (read_as (written_number 16 4294967295 digits)) mask is in
    let marks = and_parts (first == 48) (x == 120) parts.0 in
    let read : written_number 16 4294967295 digits ≡ Some mask = read_as_ok (written_number 16 4294967295 digits) mask parts.1 in (
      ap (λ (a : ℕ). a ∷ x ∷ digits) (eqb-true first 48 marks.0)
          ∙ ap (λ (b : ℕ). 48 ∷ b ∷ digits) (eqb-true x 120 marks.1)
          ∙ ap (λ (rest : List ℕ). 48 ∷ 120 ∷ rest) (number_back 16 4294967295 mask digits (omega arith) (omega arith) read),
      number_of-most 16 4294967295 mask digits read,
    )

pub mask_at-back : (bytes : List ℕ) (mask : ℕ × List ℕ) → mask_at bytes ≡ Ok mask → (bytes ≡ mask_text mask.0 ++ mask.1) × (mask.0 ≤ 4294967295)
unfolding mask_at
mask_at-back bytes mask is =
    let word = bind_ok (field_at bytes) _ mask is in
    let value = bind_ok (mask_of word.0.0) _ mask word.2 in
    let pair : (value.0, word.0.1) ≡ mask = (let e : Ok (value.0, word.0.1) ≡ Ok mask = value.2 in cc) in
    let back = mask_of-back word.0.0 value.0 value.1 in (
      field_back bytes word.0 word.1
          ∙ ap (λ (w : List ℕ). 32 ∷ (w ++ word.0.1)) back.0
          ∙ ap (λ (p : ℕ × List ℕ). mask_text p.0 ++ p.1) pair,
      subst (λ (p : ℕ × List ℕ). p.0 ≤ 4294967295) pair back.1,
    )

-- ---- texts

onto_ok : (item : ℕ) (read : Result (List ℕ) Kind) (value : List ℕ) → onto item read ≡ Ok value → (items : List ℕ) × (read ≡ Ok items) × (item ∷ items ≡ value)
onto_ok item (Ok items) value is = (items, refl, (let e : Ok (item ∷ items) ≡ Ok value = is in cc))
onto_ok item (Err kind) value is = absurd (let e : Err kind ≡ Ok value = is in cc)

glyph-upper_digit_of : (byte : ℕ) → upper_digit_of byte < 16 → upper_glyph (upper_digit_of byte) ≡ byte
glyph-upper_digit_of byte small = grind (arith, nat_tests)

escape_of : (a b c d : ℕ) → are_upper_digits a b c d ≡ true → (37 ∷ a ∷ b ∷ c ∷ d ∷ [] ≡ escape_text (unit_of_digits a b c d)) × (unit_of_digits a b c d ≤ 65535)
escape_of a b c d digits =
    let third = and_parts (nat_lt (upper_digit_of a) 16 && nat_lt (upper_digit_of b) 16 && nat_lt (upper_digit_of c) 16) (nat_lt (upper_digit_of d) 16) digits in
    let second = and_parts (nat_lt (upper_digit_of a) 16 && nat_lt (upper_digit_of b) 16) (nat_lt (upper_digit_of c) 16) third.0 in
    let first = and_parts (nat_lt (upper_digit_of a) 16) (nat_lt (upper_digit_of b) 16) second.0 in
    let sa : upper_digit_of a < 16 = ltb-true (upper_digit_of a) 16 first.0 in
    let sb : upper_digit_of b < 16 = ltb-true (upper_digit_of b) 16 first.1 in
    let sc : upper_digit_of c < 16 = ltb-true (upper_digit_of c) 16 second.1 in
    let sd : upper_digit_of d < 16 = ltb-true (upper_digit_of d) 16 third.1 in
    let unit = unit_of_digits a b c d in
    let qa : upper_digit_of a ≡ unit / 16 / 16 / 16 = omega arith in
    let qb : upper_digit_of b ≡ unit / 16 / 16 % 16 = omega arith in
    let qc : upper_digit_of c ≡ unit / 16 % 16 = omega arith in
    let qd : upper_digit_of d ≡ unit % 16 = omega arith in (
      ap (λ (x : ℕ). 37 ∷ x ∷ b ∷ c ∷ d ∷ []) (sym (glyph-upper_digit_of a sa) ∙ ap upper_glyph qa)
          ∙ ap (λ (x : ℕ). 37 ∷ upper_glyph (unit / 16 / 16 / 16) ∷ x ∷ c ∷ d ∷ []) (sym (glyph-upper_digit_of b sb) ∙ ap upper_glyph qb)
          ∙ ap (λ (x : ℕ). 37 ∷ upper_glyph (unit / 16 / 16 / 16) ∷ upper_glyph (unit / 16 / 16 % 16) ∷ x ∷ d ∷ []) (sym (glyph-upper_digit_of c sc) ∙ ap upper_glyph qc)
          ∙ ap (λ (x : ℕ). 37 ∷ upper_glyph (unit / 16 / 16 / 16) ∷ upper_glyph (unit / 16 / 16 % 16) ∷ upper_glyph (unit / 16 % 16) ∷ x ∷ []) (sym (glyph-upper_digit_of d sd) ∙ ap upper_glyph qd),
      omega arith,
    )

-- what units were read, and how they were written
abbrev pub ReadsUnits : List ℕ → List ℕ → Type 0
ReadsUnits units bytes = SpellsUnits units bytes × (list_all (λ unit. nat_le unit 65535) units ≡ true)

one_more : (unit : ℕ) (units front back : List ℕ) → SpellsUnit unit front → unit ≤ 65535 → ReadsUnits units back → ReadsUnits (unit ∷ units) (front ++ back)
one_more unit units front back spells small rest = ((front, back, refl, spells, rest.0), rw (le-leb unit 65535 small) rest.1)

plain_small : (byte : ℕ) → is_plain byte ≡ true → byte ≤ 65535
plain_small byte plain = grind (arith, nat_tests)

-- a plain byte before what is read so
plain_step : (byte : ℕ) (bytes units : List ℕ) → (if is_plain byte then onto byte (units_of bytes) else Err BadSyntax) ≡ Ok units
    → ((items : List ℕ) → units_of bytes ≡ Ok items → ReadsUnits items bytes) → ReadsUnits units (byte ∷ bytes)
plain_step byte bytes units is rest =
    let parts = if_ok (is_plain byte) (onto byte (units_of bytes)) units is in
    let more = onto_ok byte (units_of bytes) units parts.1 in
    subst (λ (u : List ℕ). ReadsUnits u (byte ∷ bytes)) more.2 (one_more byte more.0 (byte ∷ []) bytes (inl (parts.0, refl)) (plain_small byte parts.0) (rest more.0 more.1))

mutual
  units_back : (bytes units : List ℕ) → units_of bytes ≡ Ok units → ReadsUnits units bytes
  units_back [] units is = let none : [] ≡ units = (let e : Ok [] ≡ Ok units = is in cc) in subst (λ (u : List ℕ). ReadsUnits u []) none (refl, refl)
  units_back (byte ∷ bytes) units is =
      elim (byte == 37) as (λ test. (byte == 37) ≡ test → (if test then escaped_units bytes else if is_plain byte then onto byte (units_of bytes) else Err BadSyntax) ≡ Ok units → ReadsUnits units (byte ∷ bytes)) [
        | true ↦ λ escape here. subst (λ (b : ℕ). ReadsUnits units (b ∷ bytes)) (sym (eqb-true byte 37 escape)) (escape_back bytes units here)
        | false ↦ λ other here. plain_step byte bytes units here (units_back bytes)
      ]
      refl is

  escape_back : (bytes units : List ℕ) → escaped_units bytes ≡ Ok units → ReadsUnits units (37 ∷ bytes)
  escape_back (a ∷ b ∷ c ∷ d ∷ bytes) units is =
      let parts = if_ok (are_upper_digits a b c d) (onto (unit_of_digits a b c d) (units_of bytes)) units is in
      let more = onto_ok (unit_of_digits a b c d) (units_of bytes) units parts.1 in
      let escape = escape_of a b c d parts.0 in
      subst (λ (u : List ℕ). ReadsUnits u (37 ∷ a ∷ b ∷ c ∷ d ∷ bytes)) more.2
      (one_more (unit_of_digits a b c d) more.0 (37 ∷ a ∷ b ∷ c ∷ d ∷ []) bytes (inr escape.0) escape.1 (units_back bytes more.0 more.1))
  escape_back _ units is = absurd (let e : Err BadSyntax ≡ Ok units = is in cc)

text_of-back : (word units : List ℕ) → text_of word ≡ Ok units → (text : List ℕ) × ReadsUnits units text × (word ≡ 61 ∷ text)
unfolding text_of
text_of-back [] units is = absurd (let e : Err BadSyntax ≡ Ok units = is in cc)
text_of-back (byte ∷ bytes) units is =
    let parts = if_ok (byte == 61) (units_of bytes) units is in
    (bytes, units_back bytes units parts.1, ap (λ (b : ℕ). b ∷ bytes) (eqb-true byte 61 parts.0))

pub text_at-back : (bytes : List ℕ) (units : List ℕ × List ℕ) → text_at bytes ≡ Ok units → (text : List ℕ) × ReadsUnits units.0 text × (bytes ≡ 32 ∷ 61 ∷ (text ++ units.1))
unfolding text_at
text_at-back bytes units is =
    let word = bind_ok (field_at bytes) _ units is in
    let value = bind_ok (text_of word.0.0) _ units word.2 in
    let pair : (value.0, word.0.1) ≡ units = (let e : Ok (value.0, word.0.1) ≡ Ok units = value.2 in cc) in
    let back = text_of-back word.0.0 value.0 value.1 in (
      back.0,
      subst (λ (p : List ℕ × List ℕ). ReadsUnits p.0 back.0) pair back.1,
      field_back bytes word.0 word.1
          ∙ ap (λ (w : List ℕ). 32 ∷ (w ++ word.0.1)) back.2
          ∙ ap (λ (p : List ℕ × List ℕ). 32 ∷ 61 ∷ (back.0 ++ p.1)) pair,
    )

-- ---- strings of bytes

pair_of : (high low : ℕ) → digit_of high < 16 → digit_of low < 16 → (high ∷ low ∷ [] ≡ byte_text (digit_of high * 16 + digit_of low)) × (digit_of high * 16 + digit_of low ≤ 255)
pair_of high low small_high small_low =
    let byte = digit_of high * 16 + digit_of low in
    let qh : digit_of high ≡ byte / 16 = omega arith in
    let ql : digit_of low ≡ byte % 16 = omega arith in (
      ap (λ (x : ℕ). x ∷ low ∷ []) (sym (glyph-digit_of high small_high) ∙ ap glyph qh)
          ∙ ap (λ (x : ℕ). glyph (byte / 16) ∷ x ∷ []) (sym (glyph-digit_of low small_low) ∙ ap glyph ql),
      omega arith,
    )

abbrev pub ReadsBytes : List ℕ → List ℕ → Type 0
ReadsBytes bytes digits = (digits ≡ flat_map byte_text bytes) × (list_all (λ byte. nat_le byte 255) bytes ≡ true) × (length digits ≡ length bytes * 2)

bytes_back : (digits bytes : List ℕ) → written_bytes digits ≡ Ok bytes → ReadsBytes bytes digits
bytes_back [] bytes is = let none : [] ≡ bytes = (let e : Ok [] ≡ Ok bytes = is in cc) in subst (λ (b : List ℕ). ReadsBytes b []) none (refl, refl, refl)
bytes_back (digit ∷ []) bytes is = absurd (let e : Err BadSyntax ≡ Ok bytes = is in cc)
bytes_back (high ∷ low ∷ digits) bytes is =
    let parts = if_ok (nat_lt (digit_of high) 16 && nat_lt (digit_of low) 16) (onto (digit_of high * 16 + digit_of low) (written_bytes digits)) bytes is in
    let tests = and_parts (nat_lt (digit_of high) 16) (nat_lt (digit_of low) 16) parts.0 in
    let more = onto_ok (digit_of high * 16 + digit_of low) (written_bytes digits) bytes parts.1 in
    let rest = bytes_back digits more.0 more.1 in
    let here = pair_of high low (ltb-true (digit_of high) 16 tests.0) (ltb-true (digit_of low) 16 tests.1) in
    let twice : length digits ≡ length more.0 * 2 = rest.2 in
    subst (λ (b : List ℕ). ReadsBytes b (high ∷ low ∷ digits)) more.2 (
      ap (λ (front : List ℕ). front ++ digits) here.0 ∙ ap (λ (back : List ℕ). byte_text (digit_of high * 16 + digit_of low) ++ back) rest.0,
      rw (le-leb (digit_of high * 16 + digit_of low) 255 here.1) rest.1,
      omega arith,
    )

string_of-back : (word bytes : List ℕ) → string_of word ≡ Ok bytes
    → (word ≡ 120 ∷ flat_map byte_text bytes) × (list_all (λ byte. nat_le byte 255) bytes ≡ true) × (length bytes ≤ 16384)
unfolding string_of
string_of-back [] bytes is = absurd (let e : Err BadSyntax ≡ Ok bytes = is in cc)
string_of-back (byte ∷ digits) bytes is =
    let parts = if_ok (byte == 120 && nat_le (length digits) 32768) (written_bytes digits) bytes is in
    let tests = and_parts (byte == 120) (nat_le (length digits) 32768) parts.0 in
    let back = bytes_back digits bytes parts.1 in
    let twice : length digits ≡ length bytes * 2 = back.2 in
    let few : length digits ≤ 32768 = leb-true (length digits) 32768 tests.1 in
    (ap (λ (b : ℕ). b ∷ digits) (eqb-true byte 120 tests.0) ∙ ap (λ (rest : List ℕ). 120 ∷ rest) back.0, back.1, omega arith)

pub string_at-back : (bytes : List ℕ) (string : List ℕ × List ℕ) → string_at bytes ≡ Ok string
    → (bytes ≡ string_text string.0 ++ string.1) × (list_all (λ byte. nat_le byte 255) string.0 ≡ true) × (length string.0 ≤ 16384)
unfolding string_at
string_at-back bytes string is =
    let word = bind_ok (field_at bytes) _ string is in
    let value = bind_ok (string_of word.0.0) _ string word.2 in
    let pair : (value.0, word.0.1) ≡ string = (let e : Ok (value.0, word.0.1) ≡ Ok string = value.2 in cc) in
    let back = string_of-back word.0.0 value.0 value.1 in (
      field_back bytes word.0 word.1
          ∙ ap (λ (w : List ℕ). 32 ∷ (w ++ word.0.1)) back.0
          ∙ ap (λ (p : List ℕ × List ℕ). string_text p.0 ++ p.1) pair,
      subst (λ (p : List ℕ × List ℕ). list_all (λ byte. nat_le byte 255) p.0 ≡ true) pair back.1,
      subst (λ (p : List ℕ × List ℕ). length p.0 ≤ 16384) pair back.2,
    )
