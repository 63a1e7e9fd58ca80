-- What a change of one page does to the bytes.
use Rattle.std.proofs.Common.{◌≡◌, ℕ, Bool, zero, suc, ◌+◌, ◌-◌, ◌*◌, ◌/◌, ◌%◌, ◌<◌, ◌≤◌, true, false, List, [], ◌++◌, length, take, drop, get_or, refl, ap, sym, arith, inl, inr, Option, Some, None, ◌∙◌, length-append}
use Rattle.std.specs.List.{insert}
use Rattle.std.specs.Option.{option_map_or}
use Rattle.std.specs.Prelude.{nat_lt, nat_le, if◌then◌else◌}
use Rattle.std.proofs.Math.ListN.{replicate, set}
use Rattle.std.proofs.lemmas.Bool.{ne_eqb, cases_Bool, cases_eq, cases_lt, lt-ltb, le-ltb, le-leb, lt-leb}
use Rattle.std.proofs.lemmas.List.{get_or-take, get_or-drop, get_or_append_left, get_or-append_right, length-take-le, length-replicate}
use Rattle.std.proofs.lemmas.Nat.{div-add-mod', mod_below}
use Rattle.fsa_types.proofs.RowLemmas.{AreRising, row_of-at}
use Rattle.fsa_types.specs.Rows.{row_of}
use Rattle.stream_pages.specs.Pages.{HasPage, KeepsPages, byte_at, is_in_piece, overlaid, below}
use Rattle.fsa_types.specs.Places.{IsAt, StandsAt}
use Rattle.stream_pages.proofs.PageLaws.{Rows}
use Rattle.fsa_types.proofs.PlaceLemmas.{row_of-set_own, row_of-set_other, row_of-insert_own, row_of-insert_other, row_of-missing}

-- ---- tests of a place

pub within-yes : (at count place : ℕ) → at ≤ place → place < at + count → is_in_piece at count place ≡ true
within-yes at count place from to = rw (le-leb at place from, lt-ltb place (at + count) to) refl

pub within-before : (at count place : ℕ) → place < at → is_in_piece at count place ≡ false
within-before at count place less = rw (lt-leb at place less) refl

pub within-after : (at count place : ℕ) → at + count ≤ place → is_in_piece at count place ≡ false
within-after at count place more = elim (cases_Bool (nat_le at place)) [
  | inl from ↦ rw (from, le-ltb place (at + count) more) refl
  | inr less ↦ rw less refl
]

-- a piece shows its bytes, and beside it are those that were there
pub over-in : (byte : ℕ → ℕ) (at : ℕ) (piece : List ℕ) (place : ℕ) → at ≤ place → place < at + length piece → overlaid byte at piece place ≡ get_or piece (place - at) 0
over-in byte at piece place from to = rw (within-yes at (length piece) place from to) refl

pub over-before : (byte : ℕ → ℕ) (at : ℕ) (piece : List ℕ) (place : ℕ) → place < at → overlaid byte at piece place ≡ byte place
over-before byte at piece place less = rw (within-before at (length piece) place less) refl

pub over-after : (byte : ℕ → ℕ) (at : ℕ) (piece : List ℕ) (place : ℕ) → at + length piece ≤ place → overlaid byte at piece place ≡ byte place
over-after byte at piece place more = rw (within-after at (length piece) place more) refl

-- where a place lies
pub data Lies (at count place : ℕ) : Type 0 where
  Before : place < at → Lies at count place
  Within : at ≤ place → place < at + count → Lies at count place
  After : at + count ≤ place → Lies at count place

pub lies : (at count place : ℕ) → Lies at count place
lies at count place = elim (cases_lt place at) [
  | inl less ↦ Before less
  | inr more ↦ elim (cases_lt place (at + count)) [ inl inside ↦ Within more inside | inr beyond ↦ After beyond ]
]

-- ---- zeros

pub zero-byte : (n k : ℕ) → get_or (replicate {A = ℕ} n 0) k 0 ≡ 0
zero-byte zero k = refl
zero-byte (suc n) zero = refl
zero-byte (suc n) (suc k) = zero-byte n k

-- ---- a page put in

module _ (page : List ℕ) (blank : (k : ℕ) → get_or page k 0 ≡ 0) (xs : Rows) (number i : ℕ) (stands : StandsAt xs number i) where
  byte_at-insert : (at : ℕ) → byte_at (insert xs i (number, page)) at ≡ byte_at xs at
  byte_at-insert at = elim (cases_eq (at / 4096) number) [
    | inl same ↦ rw (same, row_of-insert_own xs number i page stands, row_of-missing xs number i stands) (blank (at % 4096))
    | inr apart ↦ ap (λ (kept_page : Option (List ℕ)). option_map_or (λ bytes. get_or bytes (at % 4096) 0) kept_page 0) (row_of-insert_other xs number i page (at / 4096) stands (ne_eqb (at / 4096) number apart))
  ]

  keeps-insert : KeepsPages xs (insert xs i (number, page))
  keeps-insert other there = elim (cases_eq other number) [
    | inl same ↦ rw (same, row_of-insert_own xs number i page stands) refl
    | inr apart ↦ rw (row_of-insert_other xs number i page other stands (ne_eqb other number apart)) there
  ]

  pub there-insert : HasPage (insert xs i (number, page)) number
  there-insert = rw (row_of-insert_own xs number i page stands) refl

  -- .. or not, where there was no memory
  pub byte_at-inserted : (done : Bool) (at : ℕ) → byte_at (if done then insert xs i (number, page) else xs) at ≡ byte_at xs at
  byte_at-inserted true at = byte_at-insert at
  byte_at-inserted false at = refl

  pub keeps-inserted : (done : Bool) → KeepsPages xs (if done then insert xs i (number, page) else xs)
  keeps-inserted true = keeps-insert
  keeps-inserted false = λ other there. there

-- ---- a piece put over a page

-- a piece put over bytes, byte by byte
pub get_or-pasted : (page : List ℕ) (at : ℕ) (piece : List ℕ) (place : ℕ) → at + length piece ≤ length page
    → get_or (take at page ++ piece ++ drop (at + length piece) page) place 0 ≡ overlaid (λ k. get_or page k 0) at piece place
get_or-pasted page at piece place fits = go (lies at (length piece) place)
  where
    front : length (take at page) ≡ at
    front = length-take-le at page (omega arith)

    both : length (take at page ++ piece) ≡ at + length piece
    both = length-append (take at page) piece ∙ ap (λ n. n + length piece) (length-take-le at page (omega arith))

    go : Lies at (length piece) place → get_or (take at page ++ piece ++ drop (at + length piece) page) place 0 ≡ overlaid (λ k. get_or page k 0) at piece place
    go (Before less) =
        get_or_append_left (take at page ++ piece) (drop (at + length piece) page) 0 place (omega (arith, both))
        ∙ get_or_append_left (take at page) piece 0 place (omega (arith, front))
        ∙ get_or-take at page place 0 less
        ∙ sym (over-before (λ k. get_or page k 0) at piece place less)
    go (Within from to) =
        get_or_append_left (take at page ++ piece) (drop (at + length piece) page) 0 place (omega (arith, both))
        ∙ get_or-append_right (take at page) piece at place 0 front from
        ∙ sym (over-in (λ k. get_or page k 0) at piece place from to)
    go (After more) =
        get_or-append_right (take at page ++ piece) (drop (at + length piece) page) (at + length piece) place 0 both more
        ∙ get_or-drop (at + length piece) page (place - (at + length piece)) 0
        ∙ ap (λ n. get_or page n 0) (omega arith)
        ∙ sym (over-after (λ k. get_or page k 0) at piece place more)

-- a place in a page
pub place_is : (place number : ℕ) → place / 4096 ≡ number → place ≡ number * 4096 + place % 4096
place_is place number same = sym (div-add-mod' place 4096) ∙ ap (λ n. n * 4096 + place % 4096) same

-- a piece within a page is one of the page's places
over-page : (byte : ℕ → ℕ) (page : List ℕ) (number at : ℕ) (piece : List ℕ) (place : ℕ) → place / 4096 ≡ number → byte place ≡ get_or page (place % 4096) 0
    → overlaid (λ k. get_or page k 0) at piece (place % 4096) ≡ overlaid byte (number * 4096 + at) piece place
over-page byte page number at piece place same is = go (lies at (length piece) (place % 4096))
  where
    where_is : place ≡ number * 4096 + place % 4096
    where_is = place_is place number same

    go : Lies at (length piece) (place % 4096) → overlaid (λ k. get_or page k 0) at piece (place % 4096) ≡ overlaid byte (number * 4096 + at) piece place
    go (Before less) = over-before (λ k. get_or page k 0) at piece (place % 4096) less ∙ sym is ∙ sym (over-before byte (number * 4096 + at) piece place (omega (arith, where_is)))
    go (Within from to) =
        over-in (λ k. get_or page k 0) at piece (place % 4096) from to
        ∙ ap (λ n. get_or piece n 0) (omega (arith, where_is))
        ∙ sym (over-in byte (number * 4096 + at) piece place (omega (arith, where_is)) (omega (arith, where_is)))
    go (After more) = over-after (λ k. get_or page k 0) at piece (place % 4096) more ∙ sym is ∙ sym (over-after byte (number * 4096 + at) piece place (omega (arith, where_is)))

-- and none of another's
over-other : (byte : ℕ → ℕ) (number at : ℕ) (piece : List ℕ) (place : ℕ) → (place / 4096 ≡ number → ⊥) → at + length piece ≤ 4096 → byte place ≡ overlaid byte (number * 4096 + at) piece place
over-other byte number at piece place apart fits = go (lies (number * 4096 + at) (length piece) place)
  where
    where_is : place ≡ place / 4096 * 4096 + place % 4096
    where_is = sym (div-add-mod' place 4096)

    rest : place % 4096 < 4096
    rest = mod_below place 4096 (omega arith)

    go : Lies (number * 4096 + at) (length piece) place → byte place ≡ overlaid byte (number * 4096 + at) piece place
    go (Before less) = sym (over-before byte (number * 4096 + at) piece place less)
    go (Within from to) = absurd (apart (omega (arith, where_is, rest)))
    go (After more) = sym (over-after byte (number * 4096 + at) piece place more)

module _ (xs : Rows) (number i : ℕ) (rising : AreRising xs) (at_place : IsAt xs number i) where
  pub row_of-here : (e : ℕ × List ℕ) → e ≡ get_or xs i e → row_of xs number ≡ Some e.1
  row_of-here e read = row_of-at xs i e number rising at_place.within (at_place.here e) ∙ ap (λ (x : ℕ × List ℕ). Some x.1) (sym read)

  pub byte_at-put : (page piece : List ℕ) (at : ℕ) → row_of xs number ≡ Some page → length page ≡ 4096 → at + length piece ≤ 4096
      → (place : ℕ) → byte_at (set xs i (number, take at page ++ piece ++ drop (at + length piece) page)) place ≡ overlaid (byte_at xs) (number * 4096 + at) piece place
  byte_at-put page piece at row size fits place = elim (cases_eq (place / 4096) number) [
    | inl same ↦ (
        let was : byte_at xs place ≡ get_or page (place % 4096) 0 = rw (same, row) refl in
        ap (λ n. option_map_or (λ bytes. get_or bytes (place % 4096) 0) (row_of (set xs i (number, take at page ++ piece ++ drop (at + length piece) page)) n) 0) same
        ∙ ap (λ (r : Option (List ℕ)). option_map_or (λ bytes. get_or bytes (place % 4096) 0) r 0) (row_of-set_own xs number i (take at page ++ piece ++ drop (at + length piece) page) rising at_place)
        ∙ get_or-pasted page at piece (place % 4096) (omega arith)
        ∙ over-page (byte_at xs) page number at piece place same was)
    | inr apart ↦
        ap (λ (r : Option (List ℕ)). option_map_or (λ bytes. get_or bytes (place % 4096) 0) r 0) (row_of-set_other xs number i (take at page ++ piece ++ drop (at + length piece) page) (place / 4096) at_place (ne_eqb (place / 4096) number apart))
        ∙ over-other (byte_at xs) number at piece place apart fits
  ]

  pub keeps-put : (page : List ℕ) → KeepsPages xs (set xs i (number, page))
  keeps-put page other there = elim (cases_eq other number) [
    | inl same ↦ rw (same, row_of-set_own xs number i page rising at_place) refl
    | inr apart ↦ rw (row_of-set_other xs number i page other at_place (ne_eqb other number apart)) there
  ]

-- zeros put over a page that isn't there change nothing
pub byte_at-cleared : (xs : Rows) (number at count : ℕ) → row_of xs number ≡ None → at + count ≤ 4096 → (place : ℕ) → byte_at xs place ≡ overlaid (byte_at xs) (number * 4096 + at) (replicate count 0) place
byte_at-cleared xs number at count missing fits place = elim (cases_eq (place / 4096) number) [
  | inl same ↦ (
      let was : byte_at xs place ≡ 0 = rw (same, missing) refl in
      go was (lies (number * 4096 + at) (length {A = ℕ} (replicate count 0)) place))
  | inr apart ↦ over-other (byte_at xs) number at (replicate count 0) place apart (omega (arith, length-replicate {A = ℕ} count 0))
]
  where
    go : byte_at xs place ≡ 0 → Lies (number * 4096 + at) (length {A = ℕ} (replicate count 0)) place → byte_at xs place ≡ overlaid (byte_at xs) (number * 4096 + at) (replicate count 0) place
    go was (Before less) = sym (over-before (byte_at xs) (number * 4096 + at) (replicate count 0) place less)
    go was (Within from to) = was ∙ sym (zero-byte count (place - (number * 4096 + at))) ∙ sym (over-in (byte_at xs) (number * 4096 + at) (replicate count 0) place from to)
    go was (After more) = sym (over-after (byte_at xs) (number * 4096 + at) (replicate count 0) place more)

-- ---- pages cut off

-- the pages from a number on went
pub byte_at-dropped : (old new : Rows) (number : ℕ) → ((other : ℕ) → row_of new other ≡ (if nat_lt other number then row_of old other else None)) → (place : ℕ) → byte_at new place ≡ below (byte_at old) (number * 4096) place
byte_at-dropped old new number rows place =
    let where_is : place / 4096 * 4096 + place % 4096 ≡ place = div-add-mod' place 4096 in
    let rest : place % 4096 < 4096 = mod_below place 4096 (omega arith) in
    elim (cases_lt (place / 4096) number) [
      | inl less ↦ (
          let here : nat_lt place (number * 4096) ≡ true = lt-ltb place (number * 4096) (omega arith) in
          let low : nat_lt (place / 4096) number ≡ true = lt-ltb (place / 4096) number less in
          rw (here, rows (place / 4096), low) refl)
      | inr more ↦ (
          let here : nat_lt place (number * 4096) ≡ false = le-ltb place (number * 4096) (omega arith) in
          let high : nat_lt (place / 4096) number ≡ false = le-ltb (place / 4096) number more in
          rw (here, rows (place / 4096), high) refl)
    ]

pub keeps-dropped : (old new : Rows) (number : ℕ) → ((other : ℕ) → row_of new other ≡ (if nat_lt other number then row_of old other else None)) → (other : ℕ) → other < number → HasPage old other → HasPage new other
keeps-dropped old new number rows other less there = let low : nat_lt other number ≡ true = lt-ltb other number less in rw (rows other, low) there

-- zeros to the end of a page, and no page behind it
pub below-cleared : (byte : ℕ → ℕ) (number at place : ℕ) → at < 4096 → below (overlaid byte (number * 4096 + at) (replicate (4096 - at) 0)) (number * 4096 + 4096) place ≡ below byte (number * 4096 + at) place
below-cleared byte number at place within = go (lies (number * 4096 + at) (4096 - at) place)
  where
    size : length {A = ℕ} (replicate (4096 - at) 0) ≡ 4096 - at
    size = length-replicate {A = ℕ} (4096 - at) 0

    go : Lies (number * 4096 + at) (4096 - at) place → below (overlaid byte (number * 4096 + at) (replicate (4096 - at) 0)) (number * 4096 + 4096) place ≡ below byte (number * 4096 + at) place
    go (Before less) =
        let inner : nat_lt place (number * 4096 + 4096) ≡ true = lt-ltb place (number * 4096 + 4096) (omega arith) in
        let outer : nat_lt place (number * 4096 + at) ≡ true = lt-ltb place (number * 4096 + at) less in
        rw (inner, outer) (over-before byte (number * 4096 + at) (replicate (4096 - at) 0) place less)
    go (Within from to) =
        let inner : nat_lt place (number * 4096 + 4096) ≡ true = lt-ltb place (number * 4096 + 4096) (omega arith) in
        let outer : nat_lt place (number * 4096 + at) ≡ false = le-ltb place (number * 4096 + at) from in
        rw (inner, outer) (over-in byte (number * 4096 + at) (replicate (4096 - at) 0) place from (omega (arith, size)) ∙ zero-byte (4096 - at) (place - (number * 4096 + at)))
    go (After more) =
        let inner : nat_lt place (number * 4096 + 4096) ≡ false = le-ltb place (number * 4096 + 4096) (omega arith) in
        let outer : nat_lt place (number * 4096 + at) ≡ false = le-ltb place (number * 4096 + at) (omega arith) in
        rw (inner, outer) refl

-- ---- what a place tells

pub there-at : (xs : Rows) (number i : ℕ) → AreRising xs → IsAt xs number i → HasPage xs number
there-at xs number i rising at = rw (row_of-at xs i (number, []) number rising at.within (at.here (number, []))) refl
