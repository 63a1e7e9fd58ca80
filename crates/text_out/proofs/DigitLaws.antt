-- Laws of printed bytes: two digits more.
use Rattle.std.proofs.Common.{◌≡◌, ℕ, ◌+◌, ◌*◌, ◌/◌, ◌%◌, ◌<◌, ◌≤◌, List, [], ◌∷◌, ◌++◌, length, take, drop, slice_index, slice_set, arith}
use Rattle.std.proofs.lemmas.List.{append_assoc, append-nil, drop_all, drop_more, take_all, take_more_set, length-set}
use Rattle.fsa_model.specs.Numbers.{glyph}
use Rattle.fsa_model.specs.Text.{hex_digits}

-- two writes in a row, seen from the front
take-two_writes : (xs : List ℕ) (o x y : ℕ) → o + 1 < length xs
    → take (o + 2) (slice_set (slice_set xs o x) (o + 1) y) ≡ take o xs ++ (x ∷ y ∷ [])
take-two_writes xs o x y fits =
    let len : length (slice_set xs o x) ≡ length xs = length-set xs o x in
    let two : o + 2 ≡ o + 1 + 1 = omega arith in
    let second = take_more_set (slice_set xs o x) (o + 1) y (omega (arith, len)) in
    let first = take_more_set xs o x (omega arith) in
    rw (two, second, first) (append_assoc (take o xs) (x ∷ []) (y ∷ []))

-- one byte more is written
pub digits-step : (bytes digits : List ℕ) (i x y : ℕ) → i < length bytes → 2 * i + 1 < length digits
    → x ≡ glyph (slice_index bytes i / 16) → y ≡ glyph (slice_index bytes i % 16)
    → take (2 * i) digits ++ hex_digits (drop i bytes) ≡ hex_digits bytes
    → take (2 * (i + 1)) (slice_set (slice_set digits (2 * i) x) (2 * i + 1) y) ++ hex_digits (drop (i + 1) bytes) ≡ hex_digits bytes
digits-step bytes digits i x y h fits ex ey inv =
    let two : 2 * (i + 1) ≡ 2 * i + 2 = omega arith in
    let front = take-two_writes digits (2 * i) x y fits in
    let rest = drop_more bytes i 0 h in
    rw (two, front, append_assoc, ex, ey) (rw rest at inv)

-- every byte is written
pub digits-done : (bytes digits : List ℕ) (i : ℕ) → length bytes ≤ i → length digits ≡ 2 * length bytes
    → take (2 * i) digits ++ hex_digits (drop i bytes) ≡ hex_digits bytes
    → digits ≡ hex_digits bytes
digits-done bytes digits i len twice inv =
    let d = drop_all i bytes len in
    let a = take_all (2 * i) digits (omega arith) in
    rw (d, a, append-nil) at inv
