-- The bytes of a stream as what its pages show.
use Rattle.std.proofs.Common.{◌≡◌, ℕ, Bool, zero, suc, ◌+◌, ◌-◌, ◌*◌, ◌/◌, ◌%◌, ◌<◌, ◌≤◌, true, false, List, [], ◌∷◌, ◌++◌, length, take, drop, get_or, refl, ap, sym, arith, inl, inr, Option, Some, None, ◌∙◌, length-append, length-drop}
use Rattle.std.specs.List.{concat}
use Rattle.std.specs.Option.{option_map_or}
use Rattle.std.specs.Prelude.{nat_lt, max, if◌then◌else◌}
use Rattle.std.proofs.Math.ListN.{replicate}
use Rattle.std.proofs.lemmas.Bool.{cases_lt, lt-ltb, le-ltb}
use Rattle.std.proofs.lemmas.List.{length-take, get_or-take, get_or-drop, get_or_append_left, get_or-append_right, get_or_past, length-replicate, ext_get_or}
use Rattle.std.proofs.lemmas.List.FromFn.{length-map-range_with_len, get_or-map-range_with_len}
use Rattle.std.proofs.lemmas.Nat.{div-add-mod', mod_below, div-mul-add, mod-mul-add}
use Rattle.fsa_types.specs.Rows.{row_of}
use Rattle.fsa_types.specs.StreamBytes.{slice, put, cut}
use Rattle.stream_pages.specs.Pages.{byte_at, bytes_from, is_in_piece, overlaid, below}
use Rattle.stream_pages.specs.Streams.{part_len, some_parts, parts_of}
use Rattle.stream_pages.proofs.PageLaws.{Rows}
use Rattle.stream_pages.proofs.ByteLaws.{Lies, Before, Within, After, lies, over-in, over-before, over-after, zero-byte}

-- ---- bytes from a place on

pub length-from : (byte : ℕ → ℕ) (at count : ℕ) → length (bytes_from byte at count) ≡ count
length-from byte at count = length-map-range_with_len byte at count

from-in : (byte : ℕ → ℕ) (at count i : ℕ) → i < count → get_or (bytes_from byte at count) i 0 ≡ byte (at + i)
from-in byte at count i within = get_or-map-range_with_len byte at count i (at + i) 0 within refl

from-in_all : (byte : ℕ → ℕ) (count i : ℕ) → i < count → get_or (bytes_from byte 0 count) i 0 ≡ byte i
from-in_all byte count i within = from-in byte 0 count i within ∙ ap byte (omega arith)

-- bytes that are a list's
pub from-list : (byte : ℕ → ℕ) (at count : ℕ) (bytes : List ℕ) → length bytes ≡ count → ((i : ℕ) → i < count → get_or bytes i 0 ≡ byte (at + i)) → bytes ≡ bytes_from byte at count
from-list byte at count bytes size same = ext_get_or 0 bytes (bytes_from byte at count) (size ∙ sym (length-from byte at count)) (λ i within. same i (omega arith) ∙ sym (from-in byte at count i (omega arith)))

from-list_all : (byte : ℕ → ℕ) (count : ℕ) (bytes : List ℕ) → length bytes ≡ count → ((i : ℕ) → i < count → get_or bytes i 0 ≡ byte i) → bytes ≡ bytes_from byte 0 count
from-list_all byte count bytes size same = from-list byte 0 count bytes size (λ i within. same i within ∙ ap byte (omega arith))

-- all bytes, where those behind the end are zeros
pub from-all : (byte : ℕ → ℕ) (len : ℕ) → ((at : ℕ) → len ≤ at → byte at ≡ 0) → (i : ℕ) → get_or (bytes_from byte 0 len) i 0 ≡ byte i
from-all byte len blank i = elim (cases_lt i len) [
  | inl inside ↦ from-in_all byte len i inside
  | inr beyond ↦ get_or_past (bytes_from byte 0 len) i 0 (omega (arith, length-from byte 0 len)) ∙ sym (blank i beyond)
]

-- two pieces of bytes are one
pub from-append : (byte : ℕ → ℕ) (at m n : ℕ) → bytes_from byte at m ++ bytes_from byte (at + m) n ≡ bytes_from byte at (m + n)
from-append byte at m n =
    from-list byte at (m + n) (bytes_from byte at m ++ bytes_from byte (at + m) n)
    (length-append (bytes_from byte at m) (bytes_from byte (at + m) n) ∙ ap (λ k. k + length (bytes_from byte (at + m) n)) (length-from byte at m) ∙ ap (λ k. m + k) (length-from byte (at + m) n))
    (λ i within. elim (cases_lt i m) [
      | inl low ↦ get_or_append_left (bytes_from byte at m) (bytes_from byte (at + m) n) 0 i (omega (arith, length-from byte at m)) ∙ from-in byte at m i low
      | inr high ↦ get_or-append_right (bytes_from byte at m) (bytes_from byte (at + m) n) m i 0 (length-from byte at m) high ∙ from-in byte (at + m) n (i - m) (omega arith) ∙ ap byte (omega arith)
    ])

-- ---- the definitions, byte by byte

length-front : (bytes : List ℕ) (at : ℕ) → length (take at bytes ++ replicate (at - length bytes) 0) ≡ at
length-front bytes at = omega (arith, length-append (take at bytes) (replicate (at - length bytes) 0), length-take at bytes, length-replicate {A = ℕ} (at - length bytes) 0)

-- bytes filled up to a place with zeros
front-byte : (bytes : List ℕ) (at i : ℕ) → i < at → get_or (take at bytes ++ replicate (at - length bytes) 0) i 0 ≡ get_or bytes i 0
front-byte bytes at i low = elim (cases_lt i (length bytes)) [
  | inl inside ↦ get_or_append_left (take at bytes) (replicate (at - length bytes) 0) 0 i (omega (arith, length-take at bytes)) ∙ get_or-take at bytes i 0 low
  | inr beyond ↦
      get_or-append_right (take at bytes) (replicate (at - length bytes) 0) (length (take at bytes)) i 0 refl (omega (arith, length-take at bytes))
      ∙ zero-byte (at - length bytes) (i - length (take at bytes)) ∙ sym (get_or_past bytes i 0 beyond)
]

pub length-put : (bytes : List ℕ) (at : ℕ) (piece : List ℕ) → length (put bytes at piece) ≡ max (length bytes) (at + length piece)
length-put bytes at piece =
    let front = length-front bytes at in
    omega (
      arith,
      length-append (take at bytes ++ replicate (at - length bytes) 0 ++ piece) (drop (at + length piece) bytes),
      length-append (take at bytes ++ replicate (at - length bytes) 0) piece,
      length-drop (at + length piece) bytes,
      front,
    )

pub put-byte : (bytes : List ℕ) (at : ℕ) (piece : List ℕ) (i : ℕ) → get_or (put bytes at piece) i 0 ≡ overlaid (λ k. get_or bytes k 0) at piece i
put-byte bytes at piece i = go (lies at (length piece) i)
  where
    front : length (take at bytes ++ replicate (at - length bytes) 0) ≡ at
    front = length-front bytes at

    both : length (take at bytes ++ replicate (at - length bytes) 0 ++ piece) ≡ at + length piece
    both = length-append (take at bytes ++ replicate (at - length bytes) 0) piece ∙ ap (λ n. n + length piece) (length-front bytes at)

    go : Lies at (length piece) i → get_or (put bytes at piece) i 0 ≡ overlaid (λ k. get_or bytes k 0) at piece i
    go (Before less) =
        get_or_append_left (take at bytes ++ replicate (at - length bytes) 0 ++ piece) (drop (at + length piece) bytes) 0 i (omega (arith, both))
        ∙ get_or_append_left (take at bytes ++ replicate (at - length bytes) 0) piece 0 i (omega (arith, front))
        ∙ front-byte bytes at i less ∙ sym (over-before (λ k. get_or bytes k 0) at piece i less)
    go (Within from to) =
        get_or_append_left (take at bytes ++ replicate (at - length bytes) 0 ++ piece) (drop (at + length piece) bytes) 0 i (omega (arith, both))
        ∙ get_or-append_right (take at bytes ++ replicate (at - length bytes) 0) piece at i 0 front from
        ∙ sym (over-in (λ k. get_or bytes k 0) at piece i from to)
    go (After more) =
        get_or-append_right (take at bytes ++ replicate (at - length bytes) 0 ++ piece) (drop (at + length piece) bytes) (at + length piece) i 0 both more
        ∙ get_or-drop (at + length piece) bytes (i - (at + length piece)) 0
        ∙ ap (λ n. get_or bytes n 0) (omega arith)
        ∙ sym (over-after (λ k. get_or bytes k 0) at piece i more)

-- ---- what is put and cut

-- a piece over two bytes that are one
over-same : (f g : ℕ → ℕ) (at : ℕ) (piece : List ℕ) (i : ℕ) → f i ≡ g i → overlaid f at piece i ≡ overlaid g at piece i
over-same f g at piece i same = ap (λ x. if is_in_piece at (length piece) i then get_or piece (i - at) 0 else x) same

pub put-shown : (old new : ℕ → ℕ) (len at : ℕ) (piece : List ℕ) (n : ℕ) → n ≡ max len (at + length piece) → ((i : ℕ) → len ≤ i → old i ≡ 0) → ((i : ℕ) → new i ≡ overlaid old at piece i)
    → bytes_from new 0 n ≡ put (bytes_from old 0 len) at piece
put-shown old new len at piece n size blank shows =
    sym (from-list_all new n (put (bytes_from old 0 len) at piece)
    (length-put (bytes_from old 0 len) at piece ∙ ap (λ k. max k (at + length piece)) (length-from old 0 len) ∙ sym size)
    (λ i within. put-byte (bytes_from old 0 len) at piece i ∙ over-same (λ k. get_or (bytes_from old 0 len) k 0) old at piece i (from-all old len blank i) ∙ sym (shows i)))

-- behind what was put there are zeros
pub put-blank : (old new : ℕ → ℕ) (len at : ℕ) (piece : List ℕ) (n : ℕ) → len ≤ n → at + length piece ≤ n → ((i : ℕ) → len ≤ i → old i ≡ 0) → ((i : ℕ) → new i ≡ overlaid old at piece i) → (i : ℕ) → n ≤ i → new i ≡ 0
put-blank old new len at piece n far long blank shows i beyond = shows i ∙ over-after old at piece i (omega arith) ∙ blank i (omega arith)

-- cut short
pub cut-shown : (old new : ℕ → ℕ) (len n : ℕ) → n ≤ len → ((i : ℕ) → new i ≡ below old n i) → bytes_from new 0 n ≡ cut (bytes_from old 0 len) n
cut-shown old new len n short shows =
    sym (from-list_all new n (cut (bytes_from old 0 len) n) (length-front (bytes_from old 0 len) n)
    (λ i within.
    let here : nat_lt i n ≡ true = lt-ltb i n within in
    front-byte (bytes_from old 0 len) n i within ∙ from-in_all old len i (omega arith) ∙ sym (shows i ∙ ap (λ (b : Bool). if b then old i else 0) here)))

-- and grown
pub cut-grown : (old : ℕ → ℕ) (len n : ℕ) → ((i : ℕ) → len ≤ i → old i ≡ 0) → bytes_from old 0 n ≡ cut (bytes_from old 0 len) n
cut-grown old len n blank =
    sym (from-list_all old n (cut (bytes_from old 0 len) n) (length-front (bytes_from old 0 len) n)
    (λ i within. front-byte (bytes_from old 0 len) n i within ∙ from-all old len blank i))

pub cut-blank : (old new : ℕ → ℕ) (n : ℕ) → ((i : ℕ) → new i ≡ below old n i) → (i : ℕ) → n ≤ i → new i ≡ 0
cut-blank old new n shows i beyond = let here : nat_lt i n ≡ false = le-ltb i n beyond in shows i ∙ ap (λ (b : Bool). if b then old i else 0) here

-- ---- one part

-- a place of the same page
same-page : (at i : ℕ) → at % 4096 + i < 4096 → ((at + i) / 4096 ≡ at / 4096) × ((at + i) % 4096 ≡ at % 4096 + i)
same-page at i within =
    let where_is : at + i ≡ at / 4096 * 4096 + (at % 4096 + i) = omega (arith, div-add-mod' at 4096) in (
      ap (λ n. n / 4096) where_is ∙ div-mul-add (at / 4096) 4096 (at % 4096 + i) within,
      ap (λ n. n % 4096) where_is ∙ mod-mul-add (at / 4096) 4096 (at % 4096 + i) within,
    )

pub part-there : (pages : Rows) (at count : ℕ) (page : List ℕ) → row_of pages (at / 4096) ≡ Some page → length page ≡ 4096 → at % 4096 + count ≤ 4096
    → take (at % 4096 + count - at % 4096) (drop (at % 4096) page) ≡ bytes_from (byte_at pages) at count
part-there pages at count page row size within =
    let n : at % 4096 + count - at % 4096 ≡ count = omega arith in
    rw n (from-list (byte_at pages) at count (take count (drop (at % 4096) page)) (omega (arith, length-take count (drop (at % 4096) page), length-drop (at % 4096) page))
    (λ i inside.
    let here = same-page at i (omega arith) in
    get_or-take count (drop (at % 4096) page) i 0 inside ∙ get_or-drop (at % 4096) page i 0
    ∙ sym (ap (λ k. option_map_or (λ bytes. get_or bytes ((at + i) % 4096) 0) (row_of pages k) 0) here.0
    ∙ ap (λ (r : Option (List ℕ)). option_map_or (λ bytes. get_or bytes ((at + i) % 4096) 0) r 0) row
    ∙ ap (λ k. get_or page k 0) here.1)))

pub part-missing : (pages : Rows) (at count : ℕ) → row_of pages (at / 4096) ≡ None → at % 4096 + count ≤ 4096 → replicate count 0 ≡ bytes_from (byte_at pages) at count
part-missing pages at count row within =
    from-list (byte_at pages) at count (replicate count 0) (length-replicate {A = ℕ} count 0)
    (λ i inside.
    let here = same-page at i (omega arith) in
    zero-byte count i
    ∙ sym (ap (λ k. option_map_or (λ bytes. get_or bytes ((at + i) % 4096) 0) (row_of pages k) 0) here.0
    ∙ ap (λ (r : Option (List ℕ)). option_map_or (λ bytes. get_or bytes ((at + i) % 4096) 0) r 0) row))

-- ---- all parts

part-some : (at end : ℕ) → at < end → (0 < part_len at end) × (part_len at end ≤ end - at)
part-some at end more = let rest : at % 4096 < 4096 = mod_below at 4096 (omega arith) in (omega arith, omega arith)

-- more than enough is enough
some_parts-same : (byte : ℕ → ℕ) (end more other at : ℕ) → end - at ≤ more → end - at ≤ other → some_parts byte end more at ≡ some_parts byte end other at
some_parts-same byte end zero zero at enough also = refl
some_parts-same byte end zero (suc other) at enough also = let none : nat_lt at end ≡ false = le-ltb at end (omega arith) in rw none refl
some_parts-same byte end (suc more) zero at enough also = let none : nat_lt at end ≡ false = le-ltb at end (omega arith) in rw none refl
some_parts-same byte end (suc more) (suc other) at enough also = elim (cases_lt at end) [
  | inl inside ↦ (
      let here : nat_lt at end ≡ true = lt-ltb at end inside in
      let some = part-some at end inside in
      rw here (ap (λ rest. bytes_from byte at (part_len at end) ∷ rest) (some_parts-same byte end more other (at + part_len at end) (omega (arith, some)) (omega (arith, some)))))
  | inr beyond ↦ (let none : nat_lt at end ≡ false = le-ltb at end beyond in rw none refl)
]

-- one part is the first, and the rest are those behind it
pub parts-next : (byte : ℕ → ℕ) (at end : ℕ) → at < end → parts_of byte at end ≡ bytes_from byte at (part_len at end) ∷ parts_of byte (at + part_len at end) end
parts-next byte at end inside =
    let here : nat_lt at end ≡ true = lt-ltb at end inside in
    let some = part-some at end inside in
    some_parts-same byte end (end - at) (suc (end - at)) at (omega arith) (omega arith)
    ∙ rw here (ap (λ rest. bytes_from byte at (part_len at end) ∷ rest) (some_parts-same byte end (end - at) (end - (at + part_len at end)) (at + part_len at end) (omega (arith, some)) (omega arith)))

pub parts-step : (byte : ℕ → ℕ) (at end n : ℕ) (part : List ℕ) (left : List (List ℕ)) → at < end → n ≡ part_len at end → part ≡ bytes_from byte at n → parts_of byte at end ≡ left → left ≡ part ∷ parts_of byte (at + n) end
parts-step byte at end n part left inside count is was = rw (is, count) (sym was ∙ parts-next byte at end inside)

pub parts-none : (byte : ℕ → ℕ) (at end : ℕ) → end ≤ at → parts_of byte at end ≡ []
parts-none byte at end beyond = let none : end - at ≡ 0 = omega arith in rw none refl

joined : (byte : ℕ → ℕ) (end more at : ℕ) → end - at ≤ more → concat (some_parts byte end more at) ≡ bytes_from byte at (end - at)
joined byte end zero at enough = let none : end - at ≡ 0 = omega arith in rw none refl
joined byte end (suc more) at enough = elim (cases_lt at end) [
  | inl inside ↦ (
      let here : nat_lt at end ≡ true = lt-ltb at end inside in
      let some = part-some at end inside in
      rw here (ap (λ rest. bytes_from byte at (part_len at end) ++ rest) (joined byte end more (at + part_len at end) (omega (arith, some)))
      ∙ from-append byte at (part_len at end) (end - (at + part_len at end)) ∙ ap (bytes_from byte at) (omega (arith, some))))
  | inr beyond ↦ (
      let none : nat_lt at end ≡ false = le-ltb at end beyond in
      let nothing : end - at ≡ 0 = omega arith in
      rw (none, nothing) refl)
]

-- the parts joined are the slice
pub parts-joined : (byte : ℕ → ℕ) (len at count : ℕ) → at + count ≤ len → concat (parts_of byte at (at + count)) ≡ slice (bytes_from byte 0 len) at count
parts-joined byte len at count within =
    joined byte (at + count) (at + count - at) at (omega arith)
    ∙ ap (bytes_from byte at) (omega arith)
    ∙ sym (from-list byte at count (slice (bytes_from byte 0 len) at count)
    (omega (arith, length-take count (drop at (bytes_from byte 0 len)), length-drop at (bytes_from byte 0 len), length-from byte 0 len))
    (λ i inside. get_or-take count (drop at (bytes_from byte 0 len)) i 0 inside ∙ get_or-drop at (bytes_from byte 0 len) i 0 ∙ from-in_all byte len (at + i) (omega arith)))

-- ---- a piece put part by part

pub over-more : (byte mid new : ℕ → ℕ) (at : ℕ) (piece : List ℕ) (done count : ℕ) → done + count ≤ length piece → ((i : ℕ) → mid i ≡ overlaid byte at (take done piece) i)
    → ((i : ℕ) → new i ≡ overlaid mid (at + done) (take count (drop done piece)) i) → (i : ℕ) → new i ≡ overlaid byte at (take (done + count) piece) i
over-more byte mid new at piece done count within was is i = is i ∙ go (lies (at + done) count i)
  where
    first : length (take done piece) ≡ done
    first = omega (arith, length-take done piece)

    next : length (take count (drop done piece)) ≡ count
    next = omega (arith, length-take count (drop done piece), length-drop done piece)

    all : length (take (done + count) piece) ≡ done + count
    all = omega (arith, length-take (done + count) piece)

    go : Lies (at + done) count i → overlaid mid (at + done) (take count (drop done piece)) i ≡ overlaid byte at (take (done + count) piece) i
    go (Before less) = over-before mid (at + done) (take count (drop done piece)) i less ∙ was i ∙ elim (cases_lt i at) [
      | inl low ↦ over-before byte at (take done piece) i low ∙ sym (over-before byte at (take (done + count) piece) i low)
      | inr high ↦
          over-in byte at (take done piece) i high (omega (arith, first)) ∙ get_or-take done piece (i - at) 0 (omega arith)
          ∙ sym (over-in byte at (take (done + count) piece) i high (omega (arith, all)) ∙ get_or-take (done + count) piece (i - at) 0 (omega arith))
    ]
    go (Within from to) =
        over-in mid (at + done) (take count (drop done piece)) i from (omega (arith, next))
        ∙ get_or-take count (drop done piece) (i - (at + done)) 0 (omega arith) ∙ get_or-drop done piece (i - (at + done)) 0
        ∙ ap (λ n. get_or piece n 0) (omega arith)
        ∙ sym (over-in byte at (take (done + count) piece) i (omega arith) (omega (arith, all)) ∙ get_or-take (done + count) piece (i - at) 0 (omega arith))
    go (After more) =
        over-after mid (at + done) (take count (drop done piece)) i (omega (arith, next)) ∙ was i ∙ over-after byte at (take done piece) i (omega (arith, first))
        ∙ sym (over-after byte at (take (done + count) piece) i (omega (arith, all)))

-- the same where the place and the count are said in other words
pub over-step : (byte mid new : ℕ → ℕ) (at : ℕ) (piece : List ℕ) (done count place n : ℕ) → done + count ≤ length piece → place ≡ at + done → n ≡ count → ((i : ℕ) → mid i ≡ overlaid byte at (take done piece) i)
    → ((i : ℕ) → new i ≡ overlaid mid place (take n (drop done piece)) i) → (i : ℕ) → new i ≡ overlaid byte at (take (done + count) piece) i
over-step byte mid new at piece done count place n within here same was is =
    over-more byte mid new at piece done count within was (λ i. is i ∙ ap (λ k. overlaid mid k (take n (drop done piece)) i) here ∙ ap (λ k. overlaid mid (at + done) (take k (drop done piece)) i) same)
