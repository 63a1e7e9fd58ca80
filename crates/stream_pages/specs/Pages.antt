-- Pages of 4,096 bytes under their numbers, and the bytes for which they stand. A page that isn't
-- there stands for zeros.
use Rattle.std.specs.Prelude.{ℕ, ◌+◌, ◌-◌, ◌*◌, ◌/◌, ◌%◌, ◌<◌, ◌≤◌, ◌&&◌, nat_lt, nat_le, Bool, List, IsSome, length, get_or, map, if◌then◌else◌}
use Rattle.std.specs.List.{range_with_len}
use Rattle.std.specs.Option.{option_map_or}
use Rattle.fsa_types.specs.Rows.{row_of}

-- the bytes of a page
abbrev pub page_size : ℕ
page_size = 4096

-- the byte at this place
abbrev pub byte_at : List (ℕ × List ℕ) → ℕ → ℕ
byte_at pages at = option_map_or (λ page. get_or page (at % page_size) 0) (row_of pages (at / page_size)) 0

-- `count` bytes from `at` on
abbrev pub bytes_from : (ℕ → ℕ) → ℕ → ℕ → List ℕ
bytes_from byte at count = map byte (range_with_len at count)

-- a place is one of `count` from `at` on
abbrev pub is_in_piece : ℕ → ℕ → ℕ → Bool
is_in_piece at count place = nat_le at place && nat_lt place (at + count)

-- the bytes with a piece put over them from `at` on
abbrev pub overlaid : (ℕ → ℕ) → ℕ → List ℕ → ℕ → ℕ
overlaid byte at piece place = if is_in_piece at (length piece) place then get_or piece (place - at) 0 else byte place

-- the bytes before `end`, and zeros from there on
abbrev pub below : (ℕ → ℕ) → ℕ → ℕ → ℕ
below byte end place = if nat_lt place end then byte place else 0

-- the page of this number is there
abbrev pub HasPage : List (ℕ × List ℕ) → ℕ → Type 0
HasPage pages number = IsSome (row_of pages number)

-- each page that has a byte from `from` up to `to` is there
abbrev pub HasPages : List (ℕ × List ℕ) → ℕ → ℕ → Type 0
HasPages pages from to = (number : ℕ) → from < to → number * page_size < to → from < number * page_size + page_size → HasPage pages number

-- no page went
abbrev pub KeepsPages : List (ℕ × List ℕ) → List (ℕ × List ℕ) → Type 0
KeepsPages old new = (number : ℕ) → HasPage old number → HasPage new number

-- the numbers before this place are less than that one, and those from it on aren't
pub record Splits (pages : List (ℕ × List ℕ)) (number place : ℕ) : Type 0 where
  pub within : place ≤ length pages
  pub before : (k : ℕ) (d : ℕ × List ℕ) → k < place → (get_or pages k d).0 < number
  pub after : (k : ℕ) (d : ℕ × List ℕ) → place ≤ k → k < length pages → number ≤ (get_or pages k d).0
