-- What is written is read again: numbers, masks, texts and strings of bytes.
use Rattle.std.proofs.Common.{◌≡◌, ◌∙◌, sym, ap, ℕ, zero, suc, ◌+◌, ◌*◌, ◌/◌, ◌%◌, ◌<◌, ◌≤◌, Bool, true, false, ◌&&◌, List, [], ◌∷◌, ◌++◌, Option, Some, None, length, map, take, drop, get_or, inl, inr, refl, arith, if◌then◌else◌}
use Rattle.std.specs.Prelude.{Ok, nat_le, nat_lt, ◌==◌}
use Rattle.std.specs.List.{before_first, position_or_len}
use Rattle.std.specs.Int.Digits.{digits_of}
use Rattle.std.proofs.lemmas.Int.Digits.{digits_of_step, first_digits_of}
use Rattle.std.proofs.lemmas.Nat.{div-add-mod'}
use Rattle.std.proofs.Math.Nat.{div-lt_self}
use Rattle.std.proofs.lemmas.List.{map-append, append-nil}
use Rattle.std.proofs.lemmas.Bool.{cases_eq, eq-eqb, ne_eqb}
use Rattle.std.proofs.lemmas.Bool.Decides.{Decides-eqb, nat_tests}
use Rattle.std.proofs.lemmas.Slice.Eq.{slice_eq-Decides}
use Rattle.std.proofs.Math.Seq.{take-append_seam, drop-append_seam}
use Rattle.fsa_model.specs.Numbers.{digit_of, glyph, spelled, number_after, written_number}
use Rattle.fsa_model.specs.Words.{same, word_of, after_word, field_at, number_at, mask_of, mask_at, choice_at}
use Rattle.fsa_model.specs.FieldText.{number_text, mask_text, choice_text}

-- ---- tests

pub both : (a b : Bool) → (a && b) ≡ true → (a ≡ true) × (b ≡ true)
both true true e = (refl, refl)
both true false e = cc
both false b e = cc

pub at_most : (a b : ℕ) → nat_le a b ≡ true → a ≤ b
at_most a b e = grind (arith, nat_tests)

-- bytes that are told to be a text are it
pub same-eq : (bytes text : List ℕ) → same bytes text ≡ true → bytes ≡ text
same-eq bytes text is = (slice_eq-Decides Decides-eqb bytes text (same bytes text) refl).0 is

pub unless : (test : Bool) → (test ≡ true → false ≡ true) → test ≡ false
unless true never = sym (never refl)
unless false never = refl

if_some : (test : Bool) (o : Option ℕ) (m : ℕ) → (if test then o else None) ≡ Some m → (test ≡ true) × (o ≡ Some m)
if_some true o m e = (refl, e)
if_some false o m e = cc

-- ---- numbers

pub digit_of-glyph : (digit : ℕ) → digit < 16 → digit_of (glyph digit) ≡ digit
digit_of-glyph digit small = grind (arith, nat_tests)

number_after-append : (base most n m : ℕ) (xs ys : List ℕ) → number_after base most n xs ≡ Some m
    → number_after base most n (xs ++ ys) ≡ number_after base most m ys
number_after-append base most n m [] ys e = let same : n ≡ m = cc in ap (λ k. number_after base most k ys) same
number_after-append base most n m (x ∷ xs) ys e =
    let parts = if_some (nat_lt (digit_of x) base && nat_le (n * base + digit_of x) most) (number_after base most (n * base + digit_of x) xs) m e in
    rw parts.0 (number_after-append base most (n * base + digit_of x) m xs ys parts.1)

number_after-digit : (base most n digit : ℕ) → base ≤ 16 → digit < base → n * base + digit ≤ most
    → number_after base most n (glyph digit ∷ []) ≡ Some (n * base + digit)
number_after-digit base most n digit small within below =
    let reads : digit_of (glyph digit) ≡ digit = digit_of-glyph digit (omega arith) in
    let test : (nat_lt digit base && nat_le (n * base + digit) most) ≡ true = grind (arith, nat_tests) in
    rw (reads, test) refl

number_after-digits : (fuel base most n : ℕ) → 2 ≤ base → base ≤ 16 → n ≤ fuel → n ≤ most
    → number_after base most 0 (map glyph (digits_of base n)) ≡ Some n
number_after-digits zero base most n two small enough below =
    let none : n ≡ 0 = omega arith in rw none refl
number_after-digits (suc fuel) base most n two small enough below =
    elim (cases_eq n 0) [
      | inl none ↦ rw none refl
      | inr some ↦
          let less : n / base < n = div-lt_self (omega arith) (omega arith) in
          let whole : n / base * base + n % base ≡ n = div-add-mod' n base in
          let earlier = number_after-digits fuel base most (n / base) two small (omega arith) (omega arith) in
          rw (digits_of_step base n two (omega arith), map-append)
          (number_after-append base most 0 (n / base) (map glyph (digits_of base (n / base))) (glyph (n % base) ∷ []) earlier
          ∙ number_after-digit base most (n / base) (n % base) small (omega arith) (omega arith)
          ∙ ap Some whole)
    ]

number_of-digits : (base most n : ℕ) (digits : List ℕ) → 0 < get_or digits 0 0
    → number_after base most 0 (map glyph digits) ≡ Some n → written_number base most (map glyph digits) ≡ Some n
number_of-digits base most n [] first reads = absurd (omega arith)
number_of-digits base most n (digit ∷ []) first reads = reads
number_of-digits base most n (digit ∷ second ∷ digits) first reads =
    let no_zero : (glyph digit == 48) ≡ false = grind (arith, nat_tests) in
    rw no_zero reads

pub number_of-spelled : (base most n : ℕ) → 2 ≤ base → base ≤ 16 → n ≤ most → written_number base most (spelled base n) ≡ Some n
number_of-spelled base most n two small below =
    elim (cases_eq n 0) [
      | inl none ↦
          let test : (nat_lt 0 base && nat_le (0 * base + 0) most) ≡ true = grind (arith, nat_tests) in
          let zero_ : 0 * base + 0 ≡ 0 = omega arith in
          rw (none, test, zero_) refl
      | inr some ↦
          rw (ne_eqb n 0 some)
          (number_of-digits base most n (digits_of base n) (first_digits_of base n two (omega arith))
          (number_after-digits n base most n two small (omega arith) below))
    ]

-- ---- words

-- no such byte among these
abbrev pub Lacks : ℕ → List ℕ → Type 0
Lacks mark [] = Unit {0}
Lacks mark (byte ∷ bytes) = ((byte == mark) ≡ false) × Lacks mark bytes

-- nothing, or such a byte first
abbrev pub EndsAt : ℕ → List ℕ → Type 0
EndsAt mark [] = Unit {0}
EndsAt mark (byte ∷ bytes) = byte ≡ mark

-- no space among these bytes
abbrev pub NoSpace : List ℕ → Type 0
NoSpace bytes = Lacks 32 bytes

-- a word ends before these bytes
abbrev pub EndsWord : List ℕ → Type 0
EndsWord bytes = EndsAt 32 bytes

pub Lacks-append : (mark : ℕ) (xs ys : List ℕ) → Lacks mark xs → Lacks mark ys → Lacks mark (xs ++ ys)
Lacks-append mark [] ys no_x no_y = no_y
Lacks-append mark (x ∷ xs) ys no_x no_y = (no_x.0, Lacks-append mark xs ys no_x.1 no_y)

pub first_at : (mark : ℕ) (word rest : List ℕ) → Lacks mark word → EndsAt mark rest → position_or_len (λ byte. byte == mark) (word ++ rest) ≡ length word
first_at mark [] [] none ends = refl
first_at mark [] (byte ∷ rest) none ends = rw (eq-eqb byte mark ends) refl
first_at mark (byte ∷ word) rest none ends =
    let later : position_or_len (λ b. b == mark) (word ++ rest) ≡ length word = first_at mark word rest none.1 ends in
    rw (none.0, later) (omega arith)

-- what stands before the first such byte, and from it on
pub before-again : (mark : ℕ) (word rest : List ℕ) → Lacks mark word → EndsAt mark rest → before_first (λ byte. byte == mark) (word ++ rest) ≡ word
before-again mark word rest none ends = ap (λ n. take n (word ++ rest)) (first_at mark word rest none ends) ∙ take-append_seam word rest

pub from-again : (mark : ℕ) (word rest : List ℕ) → Lacks mark word → EndsAt mark rest
    → drop (position_or_len (λ byte. byte == mark) (word ++ rest)) (word ++ rest) ≡ rest
from-again mark word rest none ends = ap (λ n. drop n (word ++ rest)) (first_at mark word rest none ends) ∙ drop-append_seam word rest

pub word_of-again : (word rest : List ℕ) → NoSpace word → EndsWord rest → word_of (word ++ rest) ≡ word
word_of-again word rest none ends = before-again 32 word rest none ends

pub after_word-again : (word rest : List ℕ) → NoSpace word → EndsWord rest → after_word (word ++ rest) ≡ rest
after_word-again word rest none ends = from-again 32 word rest none ends

pub field_at-again : (word rest : List ℕ) → NoSpace word → EndsWord rest → field_at (32 ∷ (word ++ rest)) ≡ Ok (word, rest)
unfolding field_at
field_at-again word rest none ends =
    let first : word_of (word ++ rest) ≡ word = word_of-again word rest none ends in
    let second : after_word (word ++ rest) ≡ rest = after_word-again word rest none ends in
    λ i. Ok (first i, second i)

-- ---- one of two words, neither with a space

pub choice_at-again : (first second : List ℕ) (choice : Bool) (rest : List ℕ) → NoSpace first → NoSpace second → same first first ≡ true → same second first ≡ false → same second second ≡ true → EndsWord rest
    → choice_at first second (choice_text first second choice ++ rest) ≡ Ok (choice, rest)
unfolding choice_at
choice_at-again first second true rest one other is not_first is_second ends = rw (field_at-again first rest one ends, is) refl
choice_at-again first second false rest one other is not_first is_second ends = rw (field_at-again second rest other ends, not_first, is_second) refl

pub choice_at-last : (first second : List ℕ) (choice : Bool) → NoSpace first → NoSpace second → same first first ≡ true → same second first ≡ false → same second second ≡ true
    → choice_at first second (choice_text first second choice) ≡ Ok (choice, [])
choice_at-last first second choice one other is not_first is_second =
    ap (choice_at first second) (sym (append-nil (choice_text first second choice))) ∙ choice_at-again first second choice [] one other is not_first is_second tt

-- ---- numbers and masks as fields

Lacks-glyphs : (mark : ℕ) (digits : List ℕ) → ((digit : ℕ) → (glyph digit == mark) ≡ false) → Lacks mark (map glyph digits)
Lacks-glyphs mark [] misses = tt
Lacks-glyphs mark (digit ∷ digits) misses = (misses digit, Lacks-glyphs mark digits misses)

-- a number has no byte that is no digit's
pub Lacks-spelled : (mark base n : ℕ) → ((digit : ℕ) → (glyph digit == mark) ≡ false) → Lacks mark (spelled base n)
Lacks-spelled mark base n misses = elim (cases_eq n 0) [
  | inl none ↦ rw none (misses 0, tt)
  | inr some ↦ rw (ne_eqb n 0 some) (Lacks-glyphs mark (digits_of base n) misses)
]

no_space : (digit : ℕ) → (glyph digit == 32) ≡ false
no_space digit = grind (arith, nat_tests)

pub NoSpace-spelled : (base n : ℕ) → NoSpace (spelled base n)
NoSpace-spelled base n = Lacks-spelled 32 base n no_space

pub number_at-again : (most n : ℕ) (rest : List ℕ) → n ≤ most → EndsWord rest → number_at most (number_text n ++ rest) ≡ Ok (n, rest)
unfolding number_at
number_at-again most n rest below ends =
    rw (field_at-again (spelled 10 n) rest (NoSpace-spelled 10 n) ends, number_of-spelled 10 most n (omega arith) (omega arith) below) refl

pub mask_of-again : (n : ℕ) → n ≤ 4294967295 → mask_of (48 ∷ 120 ∷ spelled 16 n) ≡ Ok n
unfolding mask_of
mask_of-again n below = rw (number_of-spelled 16 4294967295 n (omega arith) (omega arith) below) refl

pub mask_at-again : (n : ℕ) (rest : List ℕ) → n ≤ 4294967295 → EndsWord rest → mask_at (mask_text n ++ rest) ≡ Ok (n, rest)
unfolding mask_at
mask_at-again n rest below ends =
    rw (field_at-again (48 ∷ 120 ∷ spelled 16 n) rest (refl, (refl, NoSpace-spelled 16 n)) ends, mask_of-again n below) refl

pub number_at-last : (most n : ℕ) → n ≤ most → number_at most (number_text n) ≡ Ok (n, [])
number_at-last most n below = ap (number_at most) (sym (append-nil (number_text n))) ∙ number_at-again most n [] below tt

pub mask_at-last : (n : ℕ) → n ≤ 4294967295 → mask_at (mask_text n) ≡ Ok (n, [])
mask_at-last n below = ap mask_at (sym (append-nil (mask_text n))) ∙ mask_at-again n [] below tt
