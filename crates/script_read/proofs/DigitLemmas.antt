-- Bytes that pairs of digits write, one after another.
use Rattle.std.proofs.Common.{◌≡◌, ◌∙◌, ℕ, ◌+◌, ◌*◌, ◌%◌, ◌<◌, ◌≤◌, true, false, List, [], ◌∷◌, length, take, drop, slice_index, slice_set, refl, ap, arith, inl, inr}
use Rattle.std.specs.Prelude.{Ok, Err, nat_lt, ◌&&◌}
use Rattle.std.proofs.lemmas.Bool.{cases_Bool, cases_lt, lt-ltb, le-ltb}
use Rattle.std.proofs.lemmas.List.{drop_all, drop_more, take_all, take_more_set}
use Rattle.fsa_model.specs.Fault.{BadSyntax}
use Rattle.fsa_model.specs.Numbers.{digit_of}
use Rattle.fsa_model.specs.Words.{onto, written_bytes}
use Rattle.script_read.proofs.ReadLemmas.{ahead, ahead-end, ahead-fault, ahead-more}

-- an odd number of digits writes none
pub odd_none : (digits : List ℕ) → length digits % 2 ≡ 1 → written_bytes digits ≡ Err BadSyntax
odd_none [] odd = absurd (omega arith)
odd_none (digit ∷ []) odd = refl
odd_none (high ∷ low ∷ digits) odd =
    let rest = odd_none digits (omega arith) in
    elim (cases_Bool (nat_lt (digit_of high) 16 && nat_lt (digit_of low) 16)) [
      | inl both ↦ rw (both, rest) refl
      | inr other ↦ rw other refl
    ]

-- what is left of the digits, at a whole pair
drop-pair : (digits : List ℕ) (i : ℕ) → 2 * i + 1 < length digits
    → drop (2 * i) digits ≡ slice_index digits (2 * i) ∷ slice_index digits (2 * i + 1) ∷ drop (2 * (i + 1)) digits
drop-pair digits i fits =
    let a = drop_more digits (2 * i) 0 (omega arith) in
    let b = drop_more digits (2 * i + 1) 0 (omega arith) in
    let two : 2 * i + 1 + 1 ≡ 2 * (i + 1) = omega arith in
    rw (a, b, two) refl

pair-good : (high low : ℕ) (digits : List ℕ) → digit_of high < 16 → digit_of low < 16 → written_bytes (high ∷ low ∷ digits) ≡ onto (digit_of high * 16 + digit_of low) (written_bytes digits)
pair-good high low digits first second =
    let a : nat_lt (digit_of high) 16 ≡ true = lt-ltb (digit_of high) 16 first in
    let b : nat_lt (digit_of low) 16 ≡ true = lt-ltb (digit_of low) 16 second in
    rw (a, b) refl

pair-bad : (high low : ℕ) (digits : List ℕ) → (digit_of high < 16 → 16 ≤ digit_of low) → written_bytes (high ∷ low ∷ digits) ≡ Err BadSyntax
pair-bad high low digits some = elim (cases_lt (digit_of high) 16) [
  | inl first ↦ (
      let a : nat_lt (digit_of high) 16 ≡ true = lt-ltb (digit_of high) 16 first in
      let b : nat_lt (digit_of low) 16 ≡ false = le-ltb (digit_of low) 16 (some first) in
      rw (a, b) refl)
  | inr none ↦ (let a : nat_lt (digit_of high) 16 ≡ false = le-ltb (digit_of high) 16 none in rw a refl)
]

-- one byte more is written
pub byte-good : (digits bytes : List ℕ) (i high low v : ℕ) → 2 * i + 1 < length digits → i < length bytes → high ≡ digit_of (slice_index digits (2 * i)) → low ≡ digit_of (slice_index digits (2 * i + 1))
    → high < 16 → low < 16 → v ≡ high % 16 * 16 + low % 16 → ahead (take i bytes) (written_bytes (drop (2 * i) digits)) ≡ written_bytes digits
    → ahead (take (i + 1) (slice_set bytes i v)) (written_bytes (drop (2 * (i + 1)) digits)) ≡ written_bytes digits
byte-good digits bytes i high low v fits room is_high is_low first second value so_far =
    let one : digit_of (slice_index digits (2 * i)) < 16 = rw is_high at first in
    let two : digit_of (slice_index digits (2 * i + 1)) < 16 = rw is_low at second in
    let same : v ≡ digit_of (slice_index digits (2 * i)) * 16 + digit_of (slice_index digits (2 * i + 1)) = omega (arith, value, is_high, is_low, first, second) in
    rw (take_more_set bytes i v room, same)
    (ahead-more (take i bytes) (digit_of (slice_index digits (2 * i)) * 16 + digit_of (slice_index digits (2 * i + 1))) (written_bytes (drop (2 * i) digits)) (written_bytes (drop (2 * (i + 1)) digits)) (written_bytes digits)
    (ap written_bytes (drop-pair digits i fits) ∙ pair-good (slice_index digits (2 * i)) (slice_index digits (2 * i + 1)) (drop (2 * (i + 1)) digits) one two) so_far)

-- a pair of which one is no digit
pub byte-bad : (digits bytes : List ℕ) (i high low : ℕ) → 2 * i + 1 < length digits → high ≡ digit_of (slice_index digits (2 * i)) → low ≡ digit_of (slice_index digits (2 * i + 1))
    → (high < 16 → 16 ≤ low) → ahead (take i bytes) (written_bytes (drop (2 * i) digits)) ≡ written_bytes digits → written_bytes digits ≡ Err BadSyntax
byte-bad digits bytes i high low fits is_high is_low some so_far =
    ahead-fault (take i bytes) BadSyntax (written_bytes (drop (2 * i) digits)) (written_bytes digits)
    (ap written_bytes (drop-pair digits i fits) ∙ pair-bad (slice_index digits (2 * i)) (slice_index digits (2 * i + 1)) (drop (2 * (i + 1)) digits) (rw (is_high, is_low) at some)) so_far

-- all are written
pub bytes-done : (digits bytes : List ℕ) (i : ℕ) → length bytes ≤ i → length digits ≡ 2 * length bytes → ahead (take i bytes) (written_bytes (drop (2 * i) digits)) ≡ written_bytes digits
    → written_bytes digits ≡ Ok bytes
bytes-done digits bytes i far size so_far =
    let none : drop (2 * i) digits ≡ [] = drop_all (2 * i) digits (omega arith) in
    let all : take i bytes ≡ bytes = take_all i bytes far in
    ahead-end bytes (written_bytes digits) (rw (none, all) at so_far)
