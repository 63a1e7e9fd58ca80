-- The handle of a call and the next handle of a client, by clients and numbers of the calls that opened handles in order.
use Rattle.std.proofs.Common.{◌≡◌, ℕ, zero, suc, ◌-◌, ◌*◌, ◌^◌, ◌<◌, ◌≤◌, ◌⊎◌, Bool, true, false, not, List, [], ◌∷◌, length, get_or, refl, ap, sym, ◌∙◌, arith, inl, inr, Some, None, eq-eqb}
use Rattle.std.specs.Prelude.{filter, find, nat_lt, option_map, slice_get, ◌==◌, ◌&&◌, ◌||◌}
use Rattle.std.specs.List.{All, list_any}
use Rattle.std.specs.List.Sorted.{IsNonDecreasingBy}
use Rattle.std.proofs.lemmas.Bool.{cases_Bool, cases_lt, both_ways, and_parts, and_from, and_left, and_right, or_right, eqb-true, ne_eqb, lt-ltb, le-ltb, ltb-true, ltb-false}
use Rattle.std.proofs.lemmas.List.Folds.{list_any_none}
use Rattle.fsa_model.specs.Lookups.{has_row, is_after, is_opened_by, number_of}
use Rattle.fsa_model.specs.Volume.{Handle}
use Rattle.fsa_model.proofs.RowLaws.{any-filter, any-map, any-weaker, find-all, find-none, find-any, option_cases}
use Rattle.fsa_model.proofs.WaitLaws.{any-of_filter, find-passes}
use Rattle.key_index.specs.Index.{entries_under, has_key, has_greater_key as is_key_after}
use Rattle.key_index.specs.RowsByKey.{IsIndexOf, pairs}
use Rattle.key_index.proofs.RowLaws.{index-first}
use Rattle.volume_tables.specs.CallKey.{call_key_of}
use Rattle.volume_tables.specs.HandleIndex.{AreIndexed, FitsKey, IndexedHandles, opening_key}
use Rattle.volume_tables.specs.HandleTable.{next_of}

-- ---- tests that agree on each item of a list

find-alike : {X : Type 0} (p q : X → Bool) (xs : List X) → All (λ x. p x ≡ q x) xs → find p xs ≡ find q xs
find-alike p q [] same = refl
find-alike p q (x ∷ xs) same =
    let here : p x ≡ q x = same 0 x (omega arith) in
    let rest : find p xs ≡ find q xs = find-alike p q xs (λ k d within. same (suc k) d (omega arith)) in
    elim (cases_Bool (q x)) [
      | inl passes ↦ rw (here, passes) refl
      | inr fails ↦ rw (here, fails) rest
    ]

any-alike : {X : Type 0} (p q : X → Bool) (xs : List X) → All (λ x. p x ≡ q x) xs → list_any p xs ≡ list_any q xs
any-alike p q [] same = refl
any-alike p q (x ∷ xs) same =
    let here : p x ≡ q x = same 0 x (omega arith) in
    rw here (ap (λ rest. q x || rest) (any-alike p q xs (λ k d within. same (suc k) d (omega arith))))

-- an item that passes is one
any-at : {X : Type 0} (p : X → Bool) (xs : List X) (i : ℕ) (d : X) → i < length xs → p (get_or xs i d) ≡ true → list_any p xs ≡ true
any-at p [] i d within passes = absurd (omega arith)
any-at p (x ∷ xs) zero d within passes = rw passes refl
any-at p (x ∷ xs) (suc i) d within passes = or_right (p x) (list_any p xs) (any-at p xs i d (omega arith) passes)

find-fails : {X : Type 0} (p : X → Bool) (xs : List X) → All (λ x. p x ≡ false) xs → find p xs ≡ None
find-fails p [] fails = refl
find-fails p (x ∷ xs) fails = let here : p x ≡ false = fails 0 x (omega arith) in rw here (find-fails p xs (λ k d within. fails (suc k) d (omega arith)))

-- a number that is found is that of a row that passes
any-found : {R : Type 0} (test : R → Bool) (rows : List (ℕ × R)) (id : ℕ) → number_of test rows ≡ Some id → has_row test rows ≡ true
any-found {R} test rows id found = elim (option_cases (find (λ (row : ℕ × R). test row.1) rows)) [
  | inl none ↦ (let impossible : None ≡ Some id = rw none at found in cc)
  | inr x ↦ find-any (λ (row : ℕ × R). test row.1) (λ (row : ℕ × R). test row.1) rows x.0 x.1 (find-passes (λ (row : ℕ × R). test row.1) rows x.0 x.1)
]

above-of : (m n : ℕ) → n ≤ m → (m == n) ≡ false → n < m
above-of m n least apart = elim (cases_lt n m) [
  | inl less ↦ less
  | inr most ↦ absurd (both_ways (m == n) apart (eq-eqb m n (omega arith)))
]

-- ---- the first key above one

-- each key is at most that one, or at least the first above it
keys-between : (below : ℕ) (entries : List (ℕ × ℕ)) (e : ℕ × ℕ) → IsNonDecreasingBy (λ (x : ℕ × ℕ). x.0) entries → find (is_key_after below) entries ≡ Some e → All (λ x. (x.0 ≤ below) ⊎ (e.0 ≤ x.0)) entries
keys-between below [] e rising found k d within = absurd (omega arith)
keys-between below (x ∷ entries) e rising found zero d within = elim (cases_Bool (nat_lt below x.0)) [
  | inl first ↦ (
      let is : Some x ≡ Some e = rw first at found in
      let same : x ≡ e = cc in
      rw (← same) (inr (omega arith)))
  | inr under ↦ inl (ltb-false below x.0 under)
]
keys-between below (x ∷ entries) e rising found (suc k) d within = elim (cases_Bool (nat_lt below x.0)) [
  | inl first ↦ (
      let is : Some x ≡ Some e = rw first at found in
      let same : x ≡ e = cc in
      let low : x.0 ≤ (get_or entries k d).0 = rising 0 (suc k) d (omega arith) within in
      rw (← same) (inr low))
  | inr under ↦ keys-between below entries e (λ i j f less inside. rising (suc i) (suc j) f (omega arith) (omega arith)) (rw under at found) k d (omega arith)
]

module _ {R : Type 0} (key : R → ℕ) (rows : List (ℕ × R)) (entries : List (ℕ × ℕ)) (index : IsIndexOf key rows entries) where
  -- a row's key has an entry
  key-there : All (λ row. list_any (has_key (key row.1)) entries ≡ true) rows
  key-there i d within =
      let k : ℕ = key (get_or rows i d).1 in
      let here : list_any (λ (row : ℕ × R). key row.1 == k) rows ≡ true = any-at (λ (row : ℕ × R). key row.1 == k) rows i d within (eq-eqb k k refl) in
      let paired : list_any (has_key k) (pairs key rows) ≡ true = any-map (has_key k) (λ (row : ℕ × R). (key row.1, row.0)) rows ∙ here in
      let kept : list_any (has_key k) (entries_under (pairs key rows) k) ≡ true = any-filter (has_key k) (has_key k) (pairs key rows) (λ x is. is) paired in
      any-of_filter (has_key k) (has_key k) entries (ap (list_any (has_key k)) (index k) ∙ kept)

  -- where no key is above a number, no row's is
  rows-below : (below : ℕ) → find (is_key_after below) entries ≡ None → All (λ row. key row.1 ≤ below) rows
  rows-below below none i d within =
      let k : ℕ = key (get_or rows i d).1 in
      elim (cases_lt below k) [
        | inr under ↦ under
        | inl above ↦ (
            let some : list_any (is_key_after below) entries ≡ true
            = any-weaker (has_key k) (is_key_after below) entries (λ x is. let same : x.0 ≡ k = eqb-true x.0 k is in lt-ltb below x.0 (omega arith)) (key-there i d within) in
            absurd (both_ways (list_any (is_key_after below) entries) (find-none (is_key_after below) entries none) some))
      ]

  -- and else each row's is at most that number, or at least the first key above it
  rows-between : (below : ℕ) (e : ℕ × ℕ) → IsNonDecreasingBy (λ (x : ℕ × ℕ). x.0) entries → find (is_key_after below) entries ≡ Some e → All (λ row. (key row.1 ≤ below) ⊎ (e.0 ≤ key row.1)) rows
  rows-between below e rising found i d within =
      let k : ℕ = key (get_or rows i d).1 in
      elim (option_cases (find (has_key k) entries)) [
        | inl none ↦ absurd (both_ways (list_any (has_key k) entries) (find-none (has_key k) entries none) (key-there i d within))
        | inr x ↦ (
            let same : x.0.0 ≡ k = eqb-true x.0.0 k (find-passes (has_key k) entries x.0 x.1) in
            rw (← same) (find-all (λ (y : ℕ × ℕ). (y.0 ≤ below) ⊎ (e.0 ≤ y.0)) (has_key k) entries x.0 x.1 (keys-between below entries e rising found)))
      ]

-- ---- the first entry of a greater key

first-of : {X : Type 0} (p : X → Bool) (xs : List X) → slice_get (filter p xs) 0 ≡ find p xs
first-of p [] = refl
first-of p (x ∷ xs) = elim (cases_Bool (p x)) [
  | inl passes ↦ rw passes refl
  | inr fails ↦ rw fails (first-of p xs)
]

-- is the first one of its key
first-key : (below : ℕ) (entries : List (ℕ × ℕ)) (e : ℕ × ℕ) → below < e.0 → find (is_key_after below) entries ≡ Some e → find (has_key e.0) entries ≡ Some e
first-key below [] e more found = (let impossible : None ≡ Some e = found in cc)
first-key below (x ∷ entries) e more found = elim (cases_Bool (nat_lt below x.0)) [
  | inl first ↦ (
      let is : Some x ≡ Some e = rw first at found in
      let same : x ≡ e = cc in
      let here : (x.0 == e.0) ≡ true = eq-eqb x.0 e.0 (ap (λ (y : ℕ × ℕ). y.0) same) in
      rw here is)
  | inr under ↦ (
      let low : x.0 ≤ below = ltb-false below x.0 under in
      let other : (x.0 == e.0) ≡ false = ne_eqb x.0 e.0 (λ same. absurd (omega (arith, same))) in
      rw other (first-key below entries e more (rw under at found)))
]

-- ---- keys of calls

key-parts : (client number c n : ℕ) → number < 2 ^ 32 → n < 2 ^ 32 → call_key_of client number ≡ call_key_of c n → (client ≡ c) × (number ≡ n)
key-parts client number c n fits fits_too same = (omega arith, omega arith)

key-is : (client number : ℕ) (h : Handle) → number < 2 ^ 32 → FitsKey h → (opening_key h == call_key_of client number) ≡ is_opened_by client number h
key-is client number h fits fit = elim (cases_Bool (is_opened_by client number h)) [
  | inl is ↦ (
      let parts = and_parts (h.client == client) (h.number == number) is in
      let one : h.client ≡ client = eqb-true h.client client parts.0 in
      let two : h.number ≡ number = eqb-true h.number number parts.1 in
      eq-eqb (opening_key h) (call_key_of client number) (omega (arith, one, two)) ∙ sym is)
  | inr other ↦ ne_eqb (opening_key h) (call_key_of client number) (λ same.
      let parts = key-parts h.client h.number client number fit.1 fits same in
      absurd (both_ways (is_opened_by client number h) other (and_from (h.client == client) (h.number == number) (eq-eqb h.client client parts.0) (eq-eqb h.number number parts.1)))) ∙ sym other
]

-- the handle of a call is that of the first entry of its key
pub opened-first : (client number : ℕ) (rows : List (ℕ × Handle)) (index : IndexedHandles) → number < 2 ^ 32 → AreIndexed rows index
    → option_map (λ (e : ℕ × ℕ). e.1) (slice_get (entries_under index.calls (call_key_of client number)) 0) ≡ number_of (is_opened_by client number) rows
opened-first client number rows index fits is =
    sym (index-first opening_key rows index.calls (call_key_of client number) is.calls)
    ∙ ap (option_map (λ (row : ℕ × Handle). row.0)) (find-alike (λ (row : ℕ × Handle). opening_key row.1 == call_key_of client number) (λ row. is_opened_by client number row.1) rows
    (λ i d within. key-is client number (get_or rows i d).1 fits (is.fit i d within)))

-- ---- the next handle

module _ (client : ℕ) (rows : List (ℕ × Handle)) where
  abbrev pub some_below : ℕ → ℕ → Bool
  some_below after number = has_row (λ other. is_after client after other && nat_lt other.number number) rows

  abbrev pub is_next : ℕ → ℕ × Handle → Bool
  is_next after row = is_after client after row.1 && not (some_below after row.1.number)

  -- none is next where none is after
  next-none : (below : ℕ) → All (λ row. is_after client below row.1 ≡ false) rows → next_of rows client below ≡ None
  next-none below none = ap (option_map (λ (row : ℕ × Handle). row.0)) (find-fails (is_next below) rows (λ i d within.
      let row : ℕ × Handle = get_or rows i d in
      and_left (is_after client below row.1) (not (some_below below row.1.number)) (none i d within)))

  -- and else the first of those of the least number
  module _ (below k : ℕ) (above : below < k) (between : All (λ row. (is_after client below row.1 ≡ false) ⊎ (k ≤ row.1.number)) rows)
      (some : list_any (λ (row : ℕ × Handle). is_opened_by client k row.1) rows ≡ true) where
    after-here : (h : Handle) → is_opened_by client k h ≡ true → (h.number ≡ k) × (is_after client below h ≡ true)
    after-here h is =
        let parts = and_parts (h.client == client) (h.number == k) is in
        let same : h.number ≡ k = eqb-true h.number k parts.1 in
        (same, and_from (h.client == client) (nat_lt below h.number) parts.0 (lt-ltb below h.number (omega arith)))

    some-under : (number : ℕ) → k < number → some_below below number ≡ true
    some-under number more = any-weaker (λ (row : ℕ × Handle). is_opened_by client k row.1) (λ row. is_after client below row.1 && nat_lt row.1.number number) rows (λ row is.
        let here = after-here row.1 is in
        let same : row.1.number ≡ k = here.0 in
        and_from (is_after client below row.1) (nat_lt row.1.number number) here.1 (lt-ltb row.1.number number (omega arith))) some

    none-under : some_below below k ≡ false
    none-under = list_any_none (λ (row : ℕ × Handle). is_after client below row.1 && nat_lt row.1.number k) rows (λ i d within.
        let h : Handle = (get_or rows i d).1 in
        elim (between i d within) [
          | inl low ↦ and_left (is_after client below h) (nat_lt h.number k) low
          | inr high ↦ and_right (is_after client below h) (nat_lt h.number k) (le-ltb h.number k high)
        ])

    next-is : All (λ row. is_opened_by client k row.1 ≡ is_next below row) rows
    next-is i d within =
        let row : ℕ × Handle = get_or rows i d in
        let h : Handle = row.1 in
        elim (cases_Bool (is_opened_by client k h)) [
          | inl here ↦ (
              let is = after-here h here in
              let none : some_below below h.number ≡ false = ap (some_below below) is.0 ∙ none-under in
              here ∙ sym (and_from (is_after client below h) (not (some_below below h.number)) is.1 (ap not none)))
          | inr other ↦ other ∙ sym (elim (between i d within) [
            | inl low ↦ and_left (is_after client below h) (not (some_below below h.number)) low
            | inr high ↦ elim (cases_Bool (h.client == client)) [
              | inl own ↦ (
                  let apart : (h.number == k) ≡ false = rw own at other in
                  let under : some_below below h.number ≡ true = some-under h.number (above-of h.number k high apart) in
                  and_right (is_after client below h) (not (some_below below h.number)) (ap not under))
              | inr not_own ↦ and_left (is_after client below h) (not (some_below below h.number)) (and_left (h.client == client) (nat_lt below h.number) not_own)
            ]
          ])
        ]

    next-found : number_of (is_opened_by client k) rows ≡ next_of rows client below
    next-found = ap (option_map (λ (row : ℕ × Handle). row.0)) (find-alike (λ (row : ℕ × Handle). is_opened_by client k row.1) (is_next below) rows next-is)

-- what the first entry of a greater key tells
module _ (client below : ℕ) (rows : List (ℕ × Handle)) (index : IndexedHandles) (fits : below < 2 ^ 32) (is : AreIndexed rows index)
    (rising : IsNonDecreasingBy (λ (x : ℕ × ℕ). x.0) index.calls) where
  not-after : (h : Handle) → opening_key h ≤ call_key_of client below → is_after client below h ≡ false
  not-after h low = elim (cases_Bool (h.client == client)) [
    | inl own ↦ (
        let same : h.client ≡ client = eqb-true h.client client own in
        and_right (h.client == client) (nat_lt below h.number) (le-ltb below h.number (omega (arith, same))))
    | inr other ↦ and_left (h.client == client) (nat_lt below h.number) other
  ]

  -- all handles of a client have keys up to its last one
  other-client : (h : Handle) → FitsKey h → call_key_of client (2 ^ 32 - 1) < opening_key h → is_after client below h ≡ false
  other-client h fit more = elim (cases_Bool (h.client == client)) [
    | inl own ↦ (
        let same : h.client ≡ client = eqb-true h.client client own in
        let small : h.number < 2 ^ 32 = fit.1 in
        absurd (omega (arith, same, small)))
    | inr other ↦ and_left (h.client == client) (nat_lt below h.number) other
  ]

  pub next-past : find (is_key_after (call_key_of client below)) index.calls ≡ None → None ≡ next_of rows client below
  next-past none =
      sym (next-none client rows below (λ i d within. not-after (get_or rows i d).1 (rows-below opening_key rows index.calls is.calls (call_key_of client below) none i d within)))

  module _ (e : ℕ × ℕ) (first : find (is_key_after (call_key_of client below)) index.calls ≡ Some e) where
    between : All (λ (row : ℕ × Handle). (opening_key row.1 ≤ call_key_of client below) ⊎ (e.0 ≤ opening_key row.1)) rows
    between = rows-between opening_key rows index.calls is.calls (call_key_of client below) e rising first

    pub next-other : call_key_of client (2 ^ 32 - 1) < e.0 → None ≡ next_of rows client below
    next-other more = sym (next-none client rows below (λ i d within. elim (between i d within) [
      | inl low ↦ not-after (get_or rows i d).1 low
      | inr high ↦ other-client (get_or rows i d).1 (is.fit i d within) (omega arith)
    ]))

    next-at : (k : ℕ) → below < k → k < 2 ^ 32 → e.0 ≡ call_key_of client k → Some e.1 ≡ next_of rows client below
    next-at k above fits_too key =
        let entry : option_map (λ (x : ℕ × ℕ). x.1) (slice_get (entries_under index.calls e.0) 0) ≡ Some e.1
        = ap (option_map (λ (x : ℕ × ℕ). x.1)) (first-of (has_key e.0) index.calls ∙ first-key (call_key_of client below) index.calls e (omega arith) first) in
        let opened : number_of (is_opened_by client k) rows ≡ Some e.1 = sym (opened-first client k rows index fits_too is) ∙ (rw key at entry) in
        let more : All (λ (row : ℕ × Handle). (is_after client below row.1 ≡ false) ⊎ (k ≤ row.1.number)) rows = λ i d within. at-least k key (get_or rows i d).1 (between i d within) in
        sym opened ∙ next-found client rows below k above more (any-found (is_opened_by client k) rows e.1 opened)
      where
        at-least : (k : ℕ) → e.0 ≡ call_key_of client k → (h : Handle) → (opening_key h ≤ call_key_of client below) ⊎ (e.0 ≤ opening_key h) → (is_after client below h ≡ false) ⊎ (k ≤ h.number)
        at-least k key h (inl low) = inl (not-after h low)
        at-least k key h (inr high) = elim (cases_Bool (h.client == client)) [
          | inl own ↦ (let same : h.client ≡ client = eqb-true h.client client own in inr (omega (arith, same, key)))
          | inr other ↦ inl (and_left (h.client == client) (nat_lt below h.number) other)
        ]

    pub next-own : e.0 ≤ call_key_of client (2 ^ 32 - 1) → Some e.1 ≡ next_of rows client below
    next-own own =
        let more : call_key_of client below < e.0 = ltb-true (call_key_of client below) e.0 (find-passes (is_key_after (call_key_of client below)) index.calls e first) in
        next-at (e.0 - client * 2 ^ 32) (omega arith) (omega arith) (omega arith)
