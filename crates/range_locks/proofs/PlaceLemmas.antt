-- Ranges in the order of their places: which are near a range, and that they stay the same at each place.
use Rattle.std.proofs.Common.{◌≡◌, ℕ, zero, suc, ◌+◌, ◌-◌, ◌<◌, ◌≤◌, ◌++◌, true, false, Bool, cond, List, [], ◌∷◌, length, get_or, refl, ap, sym, ◌∙◌, arith, inl, inr, eq-eqb}
use Rattle.std.specs.Prelude.{take, drop, filter, find, insert, remove, position, option_map, nat_lt, not, ◌==◌, ◌||◌}
use Rattle.std.specs.List.{All, AllWithin}
use Rattle.std.specs.List.Sorted.{IsPartitionPoint}
use Rattle.std.proofs.lemmas.List.{append-nil}
use Rattle.std.proofs.lemmas.List.Elements.{All-append, All-cons, All-drop, All-filter, All-take, filter-append}
use Rattle.std.proofs.lemmas.Bool.{and_parts, cases_Bool, eqb-true, false≢true, ltb-true, ne_eqb}
use Rattle.fsa_types.specs.Ranges.{meets, shuts_out, without_first}
use Rattle.key_index.proofs.KeyLemmas.{filter-none, position-back, position-front}
use Rattle.key_index.proofs.RowLaws.{filter-swap, without_first-kept, without_first-other}
use Rattle.range_locks.specs.RangeTable.{AreSameByPlace, begins_at, conflicts, is_range, lock_of}
use Rattle.range_locks.specs.declared.range.Range.{Range}
use Rattle.range_locks.specs.declared.range.Want.{Want}
use Rattle.range_locks.specs.declared.range.Want.TheVariants.{Read, Write, Shared, Exclusive}

-- ---- a part that has all that pass

-- none passes from this place on
filter-front : (p : Range → Bool) (xs : List Range) (j : ℕ) → AllWithin (λ x. p x ≡ false) xs j (length xs) → filter p (take j xs) ≡ filter p xs
filter-front p xs zero fails = sym (filter-none p xs (λ k d within. fails k d (omega arith) within))
filter-front p [] (suc j) fails = refl
filter-front p (x ∷ xs) (suc j) fails =
    ap (λ (rest : List Range). cond (p x) (x ∷ rest) rest) (filter-front p xs j (λ k d from within. fails (suc k) d (omega arith) (omega arith)))

-- none passes before this place
filter-back : (p : Range → Bool) (xs : List Range) (i : ℕ) → AllWithin (λ x. p x ≡ false) xs 0 i → filter p (drop i xs) ≡ filter p xs
filter-back p xs zero fails = refl
filter-back p [] (suc i) fails = refl
filter-back p (x ∷ xs) (suc i) fails =
    let here : p x ≡ false = fails 0 x (omega arith) (omega arith) in
    rw here (filter-back p xs i (λ k d from below. fails (suc k) d (omega arith) (omega arith)))

-- what is near a range has all that overlap with it
module _ (test : Range → Bool) (at count longest : ℕ) (also : (range : Range) → test range ≡ true → meets at count (lock_of range) ≡ true) where
  overlaps : (range : Range) → test range ≡ true → (at < range.at + range.count) × (range.at < at + count)
  overlaps range passes =
      let parts = and_parts (nat_lt at (range.at + range.count)) (nat_lt range.at (at + count)) (also range passes) in
      (ltb-true at (range.at + range.count) parts.0, ltb-true range.at (at + count) parts.1)

  early : (range : Range) → range.count ≤ longest → range.at < at - longest → test range ≡ false
  early range short less = elim (cases_Bool (test range)) [
    | inl passes ↦ (let both = overlaps range passes in absurd (omega (arith, both.0)))
    | inr fails ↦ fails
  ]

  late : (range : Range) → at + count ≤ range.at → test range ≡ false
  late range more = elim (cases_Bool (test range)) [
    | inl passes ↦ (let both = overlaps range passes in absurd (omega (arith, both.1)))
    | inr fails ↦ fails
  ]

  pub near-has : (xs : List Range) (i j : ℕ) → All (λ range. range.count ≤ longest) xs → i ≤ length xs → AllWithin (λ range. range.at < at - longest) xs 0 i
      → AllWithin (λ range. at + count ≤ range.at) (drop i xs) j (length (drop i xs)) → filter test (take j (drop i xs)) ≡ filter test xs
  near-has xs i j short bound before behind =
      filter-front test (drop i xs) j (λ k d from within. late (get_or (drop i xs) k d) (behind k d from within))
      ∙ filter-back test xs i (λ k d from below. early (get_or xs k d) (short k d (omega arith)) (before k d from below))

-- ---- the first of a range

pub at_of : (handle at count : ℕ) (range : Range) → is_range handle at count range ≡ true → range.at ≡ at
at_of handle at count range is = elim (cases_Bool (range.at == at)) [
  | inl same ↦ eqb-true range.at at same
  | inr other ↦ elim (cases_Bool (range.handle == handle)) [
    | inl own ↦ absurd (false≢true (sym (rw (own, other) refl) ∙ is))
    | inr another ↦ absurd (false≢true (sym (rw another refl) ∙ is))
  ]
]

not-there : (handle at count : ℕ) (range : Range) → ((same : range.at ≡ at) → ⊥) → is_range handle at count range ≡ false
not-there handle at count range apart = elim (cases_Bool (is_range handle at count range)) [
  | inl is ↦ absurd (apart (at_of handle at count range is))
  | inr other ↦ other
]

pub place-here : (xs : List Range) (i j handle at count : ℕ) → IsPartitionPoint (λ range. range.at < at) (λ range. at ≤ range.at) xs i → IsPartitionPoint (λ range. range.at ≤ at) (λ range. at < range.at) (drop i xs) j
    → option_map (λ n. i + n) (position (is_range handle at count) (take j (drop i xs))) ≡ position (is_range handle at count) xs
place-here xs i j handle at count low high =
    ap (option_map (λ n. i + n)) (position-front (is_range handle at count) (drop i xs) j (λ k d from within. not-there handle at count (get_or (drop i xs) k d) (λ same. absurd (omega (arith, same, high.1 k d from within)))))
    ∙ position-back (is_range handle at count) xs i (λ k d from below. not-there handle at count (get_or xs k d) (λ same. absurd (omega (arith, same, low.0 k d from below))))

-- ---- the same at each place

-- what stands behind those of its place is at each place the same as what stands at the end
pub insert-same : (xs : List Range) (i : ℕ) (e : Range) → IsPartitionPoint (λ y. y.at ≤ e.at) (λ y. e.at < y.at) xs i → AreSameByPlace (insert xs i e) (xs ++ e ∷ [])
insert-same xs zero e high at =
    let split : filter (begins_at at) (xs ++ e ∷ []) ≡ filter (begins_at at) xs ++ filter (begins_at at) (e ∷ []) = filter-append (begins_at at) xs (e ∷ []) in
    elim (cases_Bool (e.at == at)) [
      | inl here ↦ (
          let none : filter (begins_at at) xs ≡ [] = filter-none (begins_at at) xs (λ k d within. ne_eqb _ at (λ same. absurd (omega (arith, same, eqb-true e.at at here, high.1 k d (omega arith) within)))) in
          rw (split, none, here) refl)
      | inr other ↦ rw (split, other) (sym (append-nil (filter (begins_at at) xs)))
    ]
insert-same [] (suc i) e high at = refl
insert-same (x ∷ xs) (suc i) e high at =
    ap (λ (rest : List Range). cond (x.at == at) (x ∷ rest) rest) (insert-same xs i e (λ k d from within. high.0 (suc k) d (omega arith) (omega arith), λ k d from within. high.1 (suc k) d (omega arith) (omega arith)) at)

pub same-push : (one other : List Range) (e : Range) → AreSameByPlace one other → AreSameByPlace (one ++ e ∷ []) (other ++ e ∷ [])
same-push one other e same at =
    filter-append (begins_at at) one (e ∷ []) ∙ ap (λ (front : List Range). front ++ filter (begins_at at) (e ∷ [])) (same at) ∙ sym (filter-append (begins_at at) other (e ∷ []))

pub same-filter : (p : Range → Bool) (one other : List Range) → AreSameByPlace one other → AreSameByPlace (filter p one) (filter p other)
same-filter p one other same at = filter-swap (begins_at at) p one ∙ ap (filter p) (same at) ∙ sym (filter-swap (begins_at at) p other)

-- what is near has all that pass
pub near-same : (p : Range → Bool) (near one other : List Range) → filter p near ≡ filter p one → AreSameByPlace one other → AreSameByPlace (filter p near) (filter p other)
near-same p near one other has same at = ap (filter (begins_at at)) has ∙ same-filter p one other same at

-- what conflicts overlaps
pub conflicts-meet : (want : Want) (handle at count : ℕ) (range : Range) → conflicts want handle at count range ≡ true → meets at count (lock_of range) ≡ true
conflicts-meet Read handle at count range is = (and_parts (meets at count (lock_of range)) (shuts_out handle (lock_of range)) is).0
conflicts-meet Write handle at count range is = (and_parts (meets at count (lock_of range)) (shuts_out handle (lock_of range) || not range.exclusive) is).0
conflicts-meet Shared handle at count range is = (and_parts (meets at count (lock_of range)) (shuts_out handle (lock_of range)) is).0
conflicts-meet Exclusive handle at count range is = is

pub same-without : (one other : List Range) (handle place count : ℕ) → AreSameByPlace one other → AreSameByPlace (without_first (is_range handle place count) one) (without_first (is_range handle place count) other)
same-without one other handle place count same at = elim (cases_Bool (place == at)) [
  | inl here ↦ (
      let also : (e : Range) → is_range handle place count e ≡ true → begins_at at e ≡ true = λ e is. eq-eqb e.at at (at_of handle place count e is ∙ eqb-true place at here) in
      without_first-kept (is_range handle place count) (begins_at at) also one ∙ ap (without_first (is_range handle place count)) (same at) ∙ sym (without_first-kept (is_range handle place count) (begins_at at) also other))
  | inr apart ↦ (
      let never : (e : Range) → is_range handle place count e ≡ true → begins_at at e ≡ false
      = λ e is. ne_eqb e.at at (λ equal. false≢true (sym apart ∙ eq-eqb place at (sym (at_of handle place count e is) ∙ equal))) in
      without_first-other (is_range handle place count) (begins_at at) never one ∙ same at ∙ sym (without_first-other (is_range handle place count) (begins_at at) never other))
]

-- the first that passes is the first of those at its place
find-within : (p q : Range → Bool) → ((x : Range) → p x ≡ true → q x ≡ true) → (xs : List Range) → find p xs ≡ find p (filter q xs)
find-within p q also [] = refl
find-within p q also (x ∷ xs) = elim (cases_Bool (p x)) [
  | inl passes ↦ (let second : q x ≡ true = also x passes in simp (passes, second) refl)
  | inr fails ↦ elim (cases_Bool (q x)) [
    | inl second ↦ simp (fails, second) (find-within p q also xs)
    | inr other ↦ simp (fails, other) (find-within p q also xs)
  ]
]

pub find-same : (one other : List Range) (handle at count : ℕ) → AreSameByPlace one other → find (is_range handle at count) one ≡ find (is_range handle at count) other
find-same one other handle at count same =
    let also : (e : Range) → is_range handle at count e ≡ true → begins_at at e ≡ true = λ e is. eq-eqb e.at at (at_of handle at count e is) in
    find-within (is_range handle at count) (begins_at at) also one ∙ ap (find (is_range handle at count)) (same at) ∙ sym (find-within (is_range handle at count) (begins_at at) also other)

-- ---- the longest

pub longest-inserted : (xs : List Range) (i : ℕ) (e : Range) (longest : ℕ) → All (λ range. range.count ≤ longest) xs → e.count ≤ longest → All (λ range. range.count ≤ longest) (insert xs i e)
longest-inserted xs i e longest short own =
    All-append (λ (range : Range). range.count ≤ longest) (take i xs) (e ∷ drop i xs) (All-take (λ (range : Range). range.count ≤ longest) i xs short)
    (All-cons (λ (range : Range). range.count ≤ longest) e (drop i xs) own (All-drop (λ (range : Range). range.count ≤ longest) i xs short))

pub longest-removed : (xs : List Range) (i longest : ℕ) → All (λ range. range.count ≤ longest) xs → All (λ range. range.count ≤ longest) (remove xs i)
longest-removed xs i longest short =
    All-append (λ (range : Range). range.count ≤ longest) (take i xs) (drop (suc i) xs) (All-take (λ (range : Range). range.count ≤ longest) i xs short)
    (All-drop (λ (range : Range). range.count ≤ longest) (suc i) xs short)

pub longest-kept : (p : Range → Bool) (xs : List Range) (longest : ℕ) → All (λ range. range.count ≤ longest) xs → All (λ range. range.count ≤ longest) (filter p xs)
longest-kept p xs longest short = All-filter p (λ (range : Range). range.count ≤ longest) xs short
