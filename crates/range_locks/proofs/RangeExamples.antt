-- Worked examples of ranges that overlap and of locks that conflict, and what an overlap says of bytes.
use Rattle.std.proofs.Common.{◌≡◌, ℕ, ◌+◌, ◌<◌, ◌≤◌, max, Bool, [], ◌∷◌, true, false, refl, arith}
use Rattle.std.specs.Prelude.{nat_lt}
use Rattle.std.proofs.lemmas.Bool.{and_parts, and_from, lt-ltb, ltb-true}
use Rattle.fsa_types.specs.Ranges.{Lock, overlap, read_conflicts, write_conflicts, shared_conflicts, exclusive_conflicts, is_exactly, without_first}

-- an empty range against one of ten bytes from 10 on: it overlaps only within it
empty_before : overlap 9 0 10 10 ≡ false
empty_before = refl

empty_at_begin : overlap 10 0 10 10 ≡ false
empty_at_begin = refl

empty_behind_first_byte : overlap 11 0 10 10 ≡ true
empty_behind_first_byte = refl

empty_before_last_byte : overlap 19 0 10 10 ≡ true
empty_before_last_byte = refl

empty_at_end : overlap 20 0 10 10 ≡ false
empty_at_end = refl

empty_after : overlap 21 0 10 10 ≡ false
empty_after = refl

-- and the other way round
about_empty : overlap 10 10 15 0 ≡ true
about_empty = refl

from_empty_on : overlap 10 10 10 0 ≡ false
from_empty_on = refl

up_to_empty : overlap 10 10 20 0 ≡ false
up_to_empty = refl

-- an empty range beside or at another empty one, and within the only byte that there could be
empty_at_empty : overlap 10 0 10 0 ≡ false
empty_at_empty = refl

empty_at_one_byte : overlap 10 0 10 1 ≡ false
empty_at_one_byte = refl

empty_behind_one_byte : overlap 11 0 10 1 ≡ false
empty_behind_one_byte = refl

-- ranges that touch, and that share one byte
touch_before : overlap 0 10 10 10 ≡ false
touch_before = refl

touch_after : overlap 20 5 10 10 ≡ false
touch_after = refl

share_first_byte : overlap 0 11 10 10 ≡ true
share_first_byte = refl

share_last_byte : overlap 19 1 10 10 ≡ true
share_last_byte = refl

within : overlap 12 2 10 10 ≡ true
within = refl

-- the top of 64 bits: the last byte, an empty range there, and ends past it, which don't wrap
topmost : overlap 18446744073709551615 1 18446744073709551615 1 ≡ true
topmost = refl

empty_at_topmost : overlap 18446744073709551615 0 18446744073709551615 1 ≡ false
empty_at_topmost = refl

empty_before_topmost : overlap 18446744073709551615 0 18446744073709551614 2 ≡ true
empty_before_topmost = refl

past_the_top : overlap 5 18446744073709551615 18446744073709551615 1 ≡ true
past_the_top = refl

no_wrap : overlap 18446744073709551615 18446744073709551615 0 10 ≡ false
no_wrap = refl

-- locks of the handles 1 and 2 on ten bytes from 10 on
abbrev lock : ℕ → Bool → Lock
lock handle exclusive = record { handle = handle; at = 10; count = 10; exclusive = exclusive }

-- handle 1 against its own exclusive lock
read_own_exclusive : read_conflicts 1 15 1 (lock 1 true) ≡ false
read_own_exclusive = refl

write_own_exclusive : write_conflicts 1 15 1 (lock 1 true) ≡ false
write_own_exclusive = refl

shared_own_exclusive : shared_conflicts 1 15 1 (lock 1 true) ≡ false
shared_own_exclusive = refl

exclusive_own_exclusive : exclusive_conflicts 1 15 1 (lock 1 true) ≡ true
exclusive_own_exclusive = refl

-- against its own shared lock, in which it doesn't write
read_own_shared : read_conflicts 1 15 1 (lock 1 false) ≡ false
read_own_shared = refl

write_own_shared : write_conflicts 1 15 1 (lock 1 false) ≡ true
write_own_shared = refl

shared_own_shared : shared_conflicts 1 15 1 (lock 1 false) ≡ false
shared_own_shared = refl

exclusive_own_shared : exclusive_conflicts 1 15 1 (lock 1 false) ≡ true
exclusive_own_shared = refl

-- against an exclusive lock of the other handle
read_other_exclusive : read_conflicts 1 15 1 (lock 2 true) ≡ true
read_other_exclusive = refl

write_other_exclusive : write_conflicts 1 15 1 (lock 2 true) ≡ true
write_other_exclusive = refl

shared_other_exclusive : shared_conflicts 1 15 1 (lock 2 true) ≡ true
shared_other_exclusive = refl

exclusive_other_exclusive : exclusive_conflicts 1 15 1 (lock 2 true) ≡ true
exclusive_other_exclusive = refl

-- against a shared lock of the other handle
read_other_shared : read_conflicts 1 15 1 (lock 2 false) ≡ false
read_other_shared = refl

write_other_shared : write_conflicts 1 15 1 (lock 2 false) ≡ true
write_other_shared = refl

shared_other_shared : shared_conflicts 1 15 1 (lock 2 false) ≡ false
shared_other_shared = refl

exclusive_other_shared : exclusive_conflicts 1 15 1 (lock 2 false) ≡ true
exclusive_other_shared = refl

-- an empty wanted range within a lock, and at its end
write_nothing_within : write_conflicts 1 15 0 (lock 2 false) ≡ true
write_nothing_within = refl

write_nothing_at_end : write_conflicts 1 20 0 (lock 2 false) ≡ false
write_nothing_at_end = refl

-- unlocking takes the first of equal ranges, and only this handle's exact range
first_of_equal : without_first (is_exactly 1 10 10) (lock 2 true ∷ lock 1 false ∷ lock 1 true ∷ []) ≡ lock 2 true ∷ lock 1 true ∷ []
first_of_equal = refl

part_of_range : without_first (is_exactly 1 10 9) (lock 1 false ∷ []) ≡ lock 1 false ∷ []
part_of_range = refl

-- ranges with a byte in both overlap
pub overlap-byte : (at count other_at other_count place : ℕ)
    → at ≤ place → place < at + count → other_at ≤ place → place < other_at + other_count
    → overlap at count other_at other_count ≡ true
overlap-byte at count other_at other_count place from before other_from other_before =
    let ends : at < other_at + other_count = omega arith in
    let other_ends : other_at < at + count = omega arith in
    and_from (nat_lt at (other_at + other_count)) (nat_lt other_at (at + count)) (lt-ltb at (other_at + other_count) ends) (lt-ltb other_at (at + count) other_ends)

-- ranges that have bytes and overlap have one in both: the first of the later one
pub record HasByte (at count other_at other_count : ℕ) : Type 0 where
  pub from : at ≤ max at other_at
  pub before : max at other_at < at + count
  pub other_from : other_at ≤ max at other_at
  pub other_before : max at other_at < other_at + other_count

pub byte-overlap : (at count other_at other_count : ℕ)
    → 0 < count → 0 < other_count → overlap at count other_at other_count ≡ true → HasByte at count other_at other_count
byte-overlap at count other_at other_count some other_some meet =
    let parts = and_parts (nat_lt at (other_at + other_count)) (nat_lt other_at (at + count)) meet in
    let begins : at < other_at + other_count = ltb-true at (other_at + other_count) parts.0 in
    let other_begins : other_at < at + count = ltb-true other_at (at + count) parts.1 in
    record { from = omega arith; before = omega arith; other_from = omega arith; other_before = omega arith }
