-- Opens of handles, counted by what they do and share: as a handle comes, changes, and goes.
use Rattle.std.proofs.Common.{◌≡◌, ℕ, suc, ◌+◌, ◌^◌, ◌<◌, ◌≤◌, Bool, true, false, not, cond, List, [], ◌∷◌, ◌++◌, length, get_or, count_by, Contains, IsPermutation, Some, refl, ap, sym, ◌∙◌, arith, inl, inr, eq-eqb}
use Rattle.std.specs.Prelude.{◌==◌, ◌&&◌, ◌||◌}
use Rattle.std.specs.List.{All, list_any}
use Rattle.std.proofs.lemmas.Bool.{cases_Bool, and_parts, eqb-true, false≢true, ne_eqb}
use Rattle.std.proofs.lemmas.List.Sorted.{sum_by_popped}
use Rattle.std.proofs.lemmas.List.Sums.{count_by-le-length, sum_by-cons, sum_by_push}
use Rattle.fsa_types.specs.Rows.{row_of, with_row_changed, without_row}
use Rattle.fsa_types.proofs.RowLemmas.{AreRising, AreRising-first, AreRising-rest, without_row-above}
use Rattle.fsa_model.specs.Lookups.{is_open_by, is_open_on}
use Rattle.fsa_model.specs.Volume.{Handle}
use Rattle.volume_tables.specs.HandleShares.{AreFew, AreOpensOf, AreShared, IsCounted, SharedHandles, passes}
use Rattle.volume_tables.specs.ShareTable.{held_in}

-- ---- counts in lists

more-than-none : (first rest : Bool) (n m : ℕ) → n ≡ cond first 1 0 + m → rest ≡ not (m == 0) → (first || rest) ≡ not (n == 0)
more-than-none true rest n m is known = sym (ap not (ne_eqb n 0 (λ zero. omega arith)))
more-than-none false rest n m is known = let same : m ≡ n = omega arith in known ∙ ap (λ k. not (k == 0)) same

-- one item passes a test where their count isn't zero
any-counted : {X : Type 0} (test : X → Bool) (xs : List X) → list_any test xs ≡ not (count_by test xs == 0)
any-counted test [] = refl
any-counted test (x ∷ xs) = more-than-none (test x) (list_any test xs) (count_by test (x ∷ xs)) (count_by test xs) (sum_by-cons (λ y. cond (test y) 1 0) x xs) (any-counted test xs)

next-one : (n m k : ℕ) → n ≡ 1 + m → m ≡ k → n ≡ suc k
next-one n m k is same = omega arith

all-counted : {X : Type 0} (xs : List X) → count_by (λ _. true) xs ≡ length xs
all-counted [] = refl
all-counted {X} (x ∷ xs) = next-one (count_by (λ (y : X). true) (x ∷ xs)) (count_by (λ (y : X). true) xs) (length xs) (sum_by-cons (λ (y : X). cond true 1 0) x xs) (all-counted xs)

plus-zero : (n : ℕ) → n ≡ n + 0
plus-zero n = omega arith

zero-plus : (n : ℕ) → 0 + n ≡ n
zero-plus n = omega arith

one-less : (was first left here now : ℕ) → left + first ≡ was → was ≡ here → here ≡ first + now → left ≡ now
one-less was first left here now is same these = omega arith

swap-sum : (all first rest one left kept : ℕ) → all ≡ first + rest → rest ≡ one + left → kept ≡ first + left → all ≡ one + kept
swap-sum all first rest one left kept is those these = omega arith

-- the row of a number, and the others
count-without : {R : Type 0} (test : ℕ × R → Bool) (rows : List (ℕ × R)) (id : ℕ) (row : R) → AreRising rows → row_of rows id ≡ Some row
    → count_by test rows ≡ cond (test (id, row)) 1 0 + count_by test (without_row rows id)
count-without test [] id row rising found = cc
count-without {R} test (x ∷ rows) id row rising found =
    let first = sum_by-cons (λ (e : ℕ × R). cond (test e) 1 0) x rows in
    elim (cases_Bool (x.0 == id)) [
      | inl here ↦ (
          let is : Some x.1 ≡ Some row = rw here at found in
          let same : x.1 ≡ row = cc in
          let number : x.0 ≡ id = eqb-true x.0 id here in
          let pair : x ≡ (id, row) = (λ i. (number i, same i)) in
          let above : All (λ y. id < y.0) rows = λ k e w. let b : x.0 < (get_or rows k e).0 = AreRising-first x rows rising k e w in omega arith in
          rw (here, without_row-above rows id above) (first ∙ ap (λ (e : ℕ × R). cond (test e) 1 0 + count_by test rows) pair))
      | inr other ↦ (
          let rest = count-without test rows id row (AreRising-rest x rows rising) (rw other at found) in
          let kept = sum_by-cons (λ (e : ℕ × R). cond (test e) 1 0) x (without_row rows id) in
          rw other (swap-sum (count_by test (x ∷ rows)) (cond (test x) 1 0) (count_by test rows) (cond (test (id, row)) 1 0) (count_by test (without_row rows id)) (count_by test (x ∷ without_row rows id)) first rest kept))
    ]

-- a test of rows that doesn't see a change
count-changed : {R : Type 0} (test : ℕ × R → Bool) (change : R → R) (rows : List (ℕ × R)) (id : ℕ) → ((number : ℕ) (row : R) → test (number, change row) ≡ test (number, row))
    → count_by test (with_row_changed change rows id) ≡ count_by test rows
count-changed test change [] id same = refl
count-changed {R} test change (x ∷ rows) id same =
    let rest = count-changed test change rows id same in
    elim (cases_Bool (x.0 == id)) [
      | inl here ↦ rw here (sum_by-cons (λ (e : ℕ × R). cond (test e) 1 0) (x.0, change x.1) (with_row_changed change rows id)
          ∙ (λ i. cond (same x.0 x.1 i) 1 0 + rest i) ∙ sym (sum_by-cons (λ (e : ℕ × R). cond (test e) 1 0) x rows))
      | inr other ↦ rw other (sum_by-cons (λ (e : ℕ × R). cond (test e) 1 0) x (with_row_changed change rows id)
          ∙ (λ i. cond (test x) 1 0 + rest i) ∙ sym (sum_by-cons (λ (e : ℕ × R). cond (test e) 1 0) x rows))
    ]

or_true : (b : Bool) → (b || true) ≡ true
or_true true = refl
or_true false = refl

any-row : {R : Type 0} (test : R → Bool) (rows : List (ℕ × R)) (id : ℕ) (row : R) → row_of rows id ≡ Some row → test row ≡ true → list_any (λ e. test e.1) rows ≡ true
any-row test [] id row found is = cc
any-row test (x ∷ rows) id row found is =
    elim (cases_Bool (x.0 == id)) [
      | inl here ↦ (let both : Some x.1 ≡ Some row = rw here at found in
          let same : x.1 ≡ row = cc in
          let first : test x.1 ≡ true = ap test same ∙ is in
          rw first refl)
      | inr other ↦ ap (λ b. test x.1 || b) (any-row test rows id row (rw other at found) is) ∙ or_true (test x.1)
    ]

-- opens with the same masks are the same
contains-like : (held : List (ℕ × ℕ)) (one : ℕ × ℕ) → list_any (λ other. (other.0 == one.0) && (other.1 == one.1)) held ≡ true → Contains held one
contains-like [] one some = absurd (false≢true some)
contains-like (x ∷ held) one some =
    elim (cases_Bool ((x.0 == one.0) && (x.1 == one.1))) [
      | inl like ↦ (let parts : ((x.0 == one.0) ≡ true) × ((x.1 == one.1) ≡ true) = and_parts _ _ like in
          let same : x ≡ one = (λ i. (eqb-true x.0 one.0 parts.0 i, eqb-true x.1 one.1 parts.1 i)) in
          (0, omega arith, same))
      | inr unlike ↦ (let rest = contains-like held one (rw unlike at some) in (suc rest.0, omega (arith, rest.1), rest.2))
    ]

-- ---- the opens of the handles that pass

module _ (on : Handle → Bool) (rows : List (ℕ × Handle)) (held : List (ℕ × ℕ)) (are : AreOpensOf on rows held) where
  pub any-open : (test : ℕ × ℕ → Bool) → list_any test held ≡ list_any (passes on test) rows
  any-open test = any-counted test held ∙ ap (λ n. not (n == 0)) (are test) ∙ sym (any-counted (passes on test) rows)

  pub few-opens : length held ≤ length rows
  few-opens =
      let all = all-counted held in
      let same = are (λ _. true) in
      let few = count_by-le-length (passes on (λ _. true)) rows in
      omega (arith, all, same, few)

  pub held-open : (id : ℕ) (row : Handle) → row_of rows id ≡ Some row → on row ≡ true → Contains held (row.access, row.share)
  held-open id row found is =
      let like : ℕ × ℕ → Bool = λ other. (other.0 == row.access) && (other.1 == row.share) in
      let here : (on row && like (row.access, row.share)) ≡ true = rw (is, eq-eqb row.access row.access refl, eq-eqb row.share row.share refl) refl in
      contains-like held (row.access, row.share) (any-open like ∙ any-row (λ (r : Handle). on r && like (r.access, r.share)) rows id row found here)

  -- one more
  pub AreOpensOf-added : (id : ℕ) (row : Handle) (new : List (ℕ × ℕ)) → (on row ≡ true → new ≡ held ++ (row.access, row.share) ∷ []) → (on row ≡ false → new ≡ held) → AreOpensOf on (rows ++ (id, row) ∷ []) new
  AreOpensOf-added id row new more same test =
      let masks : ℕ × ℕ = (row.access, row.share) in
      let right : count_by (passes on test) (rows ++ (id, row) ∷ []) ≡ count_by (passes on test) rows + cond (on row && test masks) 1 0 = sum_by_push (λ (e : ℕ × Handle). cond (passes on test e) 1 0) rows (id, row) in
      elim (cases_Bool (on row)) [
        | inl here ↦ ap (λ (os : List (ℕ × ℕ)). count_by test os) (more here) ∙ sum_by_push (λ (o : ℕ × ℕ). cond (test o) 1 0) held masks ∙ ap (λ n. n + cond (test masks) 1 0) (are test)
            ∙ ap (λ b. count_by (passes on test) rows + cond (b && test masks) 1 0) (sym here) ∙ sym right
        | inr other ↦ ap (λ (os : List (ℕ × ℕ)). count_by test os) (same other) ∙ are test ∙ plus-zero (count_by (passes on test) rows)
            ∙ ap (λ b. count_by (passes on test) rows + cond (b && test masks) 1 0) (sym other) ∙ sym right
      ]

  -- one less
  pub AreOpensOf-taken : (id : ℕ) (row : Handle) (new : List (ℕ × ℕ)) → AreRising rows → row_of rows id ≡ Some row → (on row ≡ true → IsPermutation held ((row.access, row.share) ∷ new)) → (on row ≡ false → new ≡ held)
      → AreOpensOf on (without_row rows id) new
  AreOpensOf-taken id row new rising found less same test =
      let masks : ℕ × ℕ = (row.access, row.share) in
      let left : count_by (passes on test) rows ≡ cond (on row && test masks) 1 0 + count_by (passes on test) (without_row rows id) = count-without (passes on test) rows id row rising found in
      elim (cases_Bool (on row)) [
        | inl here ↦ one-less (count_by test held) (cond (test masks) 1 0) (count_by test new) (count_by (passes on test) rows) (count_by (passes on test) (without_row rows id))
            (sum_by_popped (λ (o : ℕ × ℕ). cond (test o) 1 0) masks held new (less here)) (are test)
            (left ∙ ap (λ b. cond (b && test masks) 1 0 + count_by (passes on test) (without_row rows id)) here)
        | inr other ↦ ap (λ (os : List (ℕ × ℕ)). count_by test os) (same other) ∙ are test ∙ left
            ∙ ap (λ b. cond (b && test masks) 1 0 + count_by (passes on test) (without_row rows id)) other ∙ zero-plus (count_by (passes on test) (without_row rows id))
      ]

  -- a row changes, but for what is counted
  pub AreOpensOf-changed : (change : Handle → Handle) (id : ℕ) → ((row : Handle) → on (change row) ≡ on row) → ((row : Handle) → (change row).access ≡ row.access) → ((row : Handle) → (change row).share ≡ row.share)
      → AreOpensOf on (with_row_changed change rows id) held
  AreOpensOf-changed change id same access share test =
      are test ∙ sym (count-changed (passes on test) change rows id (λ number row. rw (same row, access row, share row) refl))

-- ---- the handles of streams and of links

pub AreShared-changed : (change : Handle → Handle) (rows : List (ℕ × Handle)) (id : ℕ) (shares : SharedHandles) → ((row : Handle) → (change row).stream ≡ row.stream) → ((row : Handle) → (change row).link ≡ row.link)
    → ((row : Handle) → (change row).access ≡ row.access) → ((row : Handle) → (change row).share ≡ row.share) → AreShared rows shares → AreShared (with_row_changed change rows id) shares
AreShared-changed change rows id shares streams links access share are = record {
  streams = λ stream. AreOpensOf-changed (is_open_on stream) rows (held_in shares.streams stream) (are.streams stream) change id (λ row. rw (streams row) refl) access share;
  links = λ link. AreOpensOf-changed (is_open_by link) rows (held_in shares.links link) (are.links link) change id (λ row. rw (links row) refl) access share;
}

pub AreShared-few : (rows : List (ℕ × Handle)) (shares : SharedHandles) → length rows + 1 < 2 ^ 64 → AreShared rows shares → AreFew shares
AreShared-few rows shares few are = record {
  streams = λ stream. (let less = few-opens (is_open_on stream) rows (held_in shares.streams stream) (are.streams stream) in omega (arith, few, less));
  links = λ link. (let less = few-opens (is_open_by link) rows (held_in shares.links link) (are.links link) in omega (arith, few, less));
}

pub AreShared-counted : (rows : List (ℕ × Handle)) (shares : SharedHandles) (id : ℕ) (row : Handle) → row_of rows id ≡ Some row → AreShared rows shares → IsCounted shares row
AreShared-counted rows shares id row found are = record {
  stream = λ stream is. held-open (is_open_on stream) rows (held_in shares.streams stream) (are.streams stream) id row found is;
  link = λ link is. held-open (is_open_by link) rows (held_in shares.links link) (are.links link) id row found is;
}
