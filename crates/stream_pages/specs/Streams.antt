-- A stream of bytes over pages, beside the room for which memory was taken, and its parts.
use Rattle.std.specs.Prelude.{◌≡◌, ℕ, ◌+◌, ◌-◌, ◌%◌, ◌≤◌, ◌^◌, zero, suc, nat_lt, List, [], ◌∷◌, min, if◌then◌else◌}
use Rattle.stream_pages.specs.Pages.{byte_at, bytes_from, HasPages, page_size}

-- what lies from `from` up to `to`, in bytes, can be written without taking memory
pub record StreamRoom : Type 0 where
  pub from : ℕ
  pub to : ℕ

-- the bytes, beside that room
pub record StreamView : Type 0 where
  pub bytes : List ℕ
  pub room : StreamRoom

-- `count` bytes from `at` on lie in the room
abbrev pub IsReserved : StreamRoom → ℕ → ℕ → Type 0
IsReserved room at count = (room.from ≤ at) × (at + count ≤ room.to)

-- behind the last byte there are only zeros; there are at most 2^26 bytes; and the pages of the
-- room are there
pub record AreSoundPages (pages : List (ℕ × List ℕ)) (len from to : ℕ) : Type 0 where
  pub blank : (at : ℕ) → len ≤ at → byte_at pages at ≡ 0
  pub fits : len ≤ 2 ^ 26
  pub there : HasPages pages from to

-- how many bytes up to `end` the page of this place has from there on
abbrev pub part_len : ℕ → ℕ → ℕ
part_len at end = min (page_size - at % page_size) (end - at)

-- the bytes from `at` up to `end` in parts, each of one page; at most so many parts
abbrev pub some_parts : (ℕ → ℕ) → ℕ → ℕ → ℕ → List (List ℕ)
some_parts byte end zero at = []
some_parts byte end (suc more) at =
    if nat_lt at end then bytes_from byte at (part_len at end) ∷ some_parts byte end more (at + part_len at end) else []

-- all of them
abbrev pub parts_of : (ℕ → ℕ) → ℕ → ℕ → List (List ℕ)
parts_of byte at end = some_parts byte end (end - at) at
