-- Lists in order: which item comes first, and what filters keep.
use Rattle.std.proofs.Common.{◌≡◌, ℕ, zero, suc, ◌+◌, ◌<◌, ◌≤◌, Bool, true, false, cond, not, List, [], ◌∷◌, length, get_or, refl, ap, sym, ◌∙◌, arith, inl, inr, Some}
use Rattle.std.specs.List.{All, AllPairs, filter, find, list_any}
use Rattle.std.specs.Prelude.{◌==◌, ◌&&◌, ◌||◌, nat_lt}
use Rattle.std.proofs.lemmas.Bool.{both_ways, cases_Bool, and_from, or_parts, not-true, ltb-false, lt-ltb, eqb-false, eqb-true}
use Rattle.std.proofs.lemmas.List.Folds.{list_any_none}
use Rattle.fsa_types.specs.Rows.{row_of}
use Rattle.fsa_types.specs.Sorting.{in_order, put_in_order}
use Rattle.fsa_model.proofs.RowLaws.{find-any, none-all}

-- ---- filters

pub filter-agree : {T : Type 0} (one other : T → Bool) (items : List T) → All (λ item. one item ≡ other item) items → filter one items ≡ filter other items
filter-agree one other [] agree = refl
filter-agree one other (item ∷ items) agree =
    let here : one item ≡ other item = agree 0 item (omega arith) in
    let rest : filter one items ≡ filter other items = filter-agree one other items (λ k d within. agree (suc k) d (omega arith)) in
    elim (cases_Bool (other item)) [
      | inl kept ↦ rw (here, kept) (ap (λ more. item ∷ more) rest)
      | inr gone ↦ rw (here, gone) rest
    ]

pub filter-both : {T : Type 0} (first second : T → Bool) (items : List T) → filter second (filter first items) ≡ filter (λ item. first item && second item) items
filter-both first second [] = refl
filter-both first second (item ∷ items) =
    let rest = filter-both first second items in
    elim (cases_Bool (first item)) [
      | inl kept ↦ elim (cases_Bool (second item)) [
        | inl kept_too ↦ rw (kept, kept_too) (ap (λ more. item ∷ more) rest)
        | inr gone ↦ rw (kept, gone) rest
      ]
      | inr gone ↦ rw gone rest
    ]

any-filter : {T : Type 0} (kept test : T → Bool) (items : List T) → list_any test (filter kept items) ≡ list_any (λ item. kept item && test item) items
any-filter kept test [] = refl
any-filter kept test (item ∷ items) = elim (cases_Bool (kept item)) [
  | inl stays ↦ rw stays (ap (λ rest. test item || rest) (any-filter kept test items))
  | inr gone ↦ rw gone (any-filter kept test items)
]

pub filter-none : {T : Type 0} (test : T → Bool) (items : List T) → All (λ item. test item ≡ false) items → filter test items ≡ []
filter-none test [] none = refl
filter-none test (item ∷ items) none = let here : test item ≡ false = none 0 item (omega arith) in rw here (filter-none test items (λ k d within. none (suc k) d (omega arith)))

-- without one that was there are fewer
pub fewer : {T : Type 0} (test kept : T → Bool) (items : List T) (item : T) → find test items ≡ Some item → kept item ≡ false → length (filter kept items) < length items
fewer test kept [] item found gone = cc
fewer {T} test kept (first ∷ items) item found gone = elim (cases_Bool (test first)) [
  | inl here ↦ (let is : Some first ≡ Some item = rw here at found in
      let same : first ≡ item = cc in
      let out : kept first ≡ false = rw same gone in
      rw out (omega (arith, no_more items)))
  | inr other ↦ (let rest = fewer test kept items item (rw other at found) gone in
      elim (cases_Bool (kept first)) [ inl stays ↦ rw stays (omega (arith, rest)) | inr out ↦ rw out (omega (arith, rest)) ])
]
  where
    no_more : (items : List T) → length (filter kept items) < length items + 1
    no_more [] = omega arith
    no_more (first ∷ items) =
        let rest = no_more items in
        elim (cases_Bool (kept first)) [ inl stays ↦ rw stays (omega (arith, rest)) | inr out ↦ rw out (omega (arith, rest)) ]

-- ---- one item alone

-- at most one item passes
abbrev pub alone : {T : Type 0} → (T → Bool) → List T → Bool
alone test [] = true
alone test (item ∷ items) = cond (test item) (not (list_any test items)) (alone test items)

pub alone-pairs : {T : Type 0} (test : T → Bool) (items : List T) → AllPairs (λ a b. (test a && test b) ≡ false) items → alone test items ≡ true
alone-pairs test [] pairs = refl
alone-pairs test (item ∷ items) pairs = elim (cases_Bool (test item)) [
  | inl passes ↦ rw passes (ap not (list_any_none test items (λ k d within. later passes k d within)))
  | inr fails ↦ rw fails (alone-pairs test items (λ i j d below within. pairs (suc i) (suc j) d (omega arith) (omega arith)))
]
  where
    later : test item ≡ true → All (λ other. test other ≡ false) items
    later passes k d within = let both : (test item && test (get_or items k d)) ≡ false = pairs 0 (suc k) d (omega arith) (omega arith) in rw passes at both

-- an item that was found and passes is the only one that does
pub only-found : {T : Type 0} (search_for test : T → Bool) (items : List T) (item : T) → alone test items ≡ true → find search_for items ≡ Some item → test item ≡ true
    → All (λ other. test other ≡ true → other ≡ item) items
only-found search_for test [] item single found passes k d within other = absurd (omega arith)
only-found {T} search_for test (first ∷ items) item single found passes k d within other =
    elim (cases_Bool (search_for first)) [
      | inl here ↦ (let is : Some first ≡ Some item = rw here at found in let same : first ≡ item = cc in at_first same k within other)
      | inr not_here ↦ (let further : find search_for items ≡ Some item = rw not_here at found in
          elim (cases_Bool (test first)) [
            | inl first_passes ↦ (let some : list_any test items ≡ true = find-any search_for test items item further passes in absurd (both_ways (list_any test items) (no_other first_passes) some))
            | inr first_fails ↦ (let rest : alone test items ≡ true = rw first_fails at single in
                past first_fails (only-found search_for test items item rest further passes) k within other)
          ])
    ]
  where
    no_other : test first ≡ true → list_any test items ≡ false
    no_other first_passes = let one : not (list_any test items) ≡ true = rw first_passes at single in not-true (list_any test items) one

    at_first : first ≡ item → (j : ℕ) → j < length (first ∷ items) → test (get_or (first ∷ items) j d) ≡ true → get_or (first ∷ items) j d ≡ item
    at_first same zero inside yes_j = same
    at_first same (suc j) inside yes_j =
        let first_passes : test first ≡ true = rw same passes in
        let fails : test (get_or items j d) ≡ false = none-all test items (no_other first_passes) j d (omega arith) in
        absurd (both_ways (test (get_or items j d)) fails yes_j)

    past : test first ≡ false → All (λ other. test other ≡ true → other ≡ item) items → (j : ℕ) → j < length (first ∷ items) → test (get_or (first ∷ items) j d) ≡ true → get_or (first ∷ items) j d ≡ item
    past first_fails rest zero inside yes_j = absurd (both_ways (test first) first_fails yes_j)
    past first_fails rest (suc j) inside yes_j = rest j d (omega arith) yes_j

-- the row that is found under a number, with it
pub find-row : {R : Type 0} (rows : List (ℕ × R)) (id : ℕ) (row : R) → row_of rows id ≡ Some row → find (λ entry. entry.0 == id) rows ≡ Some (id, row)
find-row [] id row found = cc
find-row (first ∷ rows) id row found = elim (cases_Bool (first.0 == id)) [
  | inl here ↦ (let is : Some first.1 ≡ Some row = rw here at found in
      let same : first.1 ≡ row = cc in
      let number : first.0 ≡ id = eqb-true first.0 id here in
      rw (here, ← same, ← number) refl)
  | inr other ↦ rw other (find-row rows id row (rw other at found))
]

-- ---- the first in order

-- an item comes before another by its key
abbrev pub by_key : {T : Type 0} → (T → ℕ) → T → T → Bool
by_key key a b = nat_lt (key a) (key b)

-- of those that pass this one has the least key, and no other has it
pub record Picks {T : Type 0} (key : T → ℕ) (test : T → Bool) (items : List T) (item : T) : Type 0 where
  pub some : list_any (λ other. test other && key other == key item) items ≡ true
  pub only : All (λ other. (test other && key other == key item) ≡ true → other ≡ item) items
  pub single : alone (λ other. test other && key other == key item) items ≡ true
  pub least : list_any (λ other. test other && nat_lt (key other) (key item)) items ≡ false

-- put before items that all have greater keys
put-first : {T : Type 0} (key : T → ℕ) (item : T) (items : List T) → list_any (λ other. not (nat_lt (key item) (key other))) items ≡ false
    → put_in_order (by_key key) item items ≡ item ∷ items
put-first key item [] above = refl
put-first key item (first ∷ items) above =
    let parts = or_parts (not (nat_lt (key item) (key first))) (list_any (λ other. not (nat_lt (key item) (key other))) items) above in
    let here : nat_lt (key item) (key first) ≡ true = elim (cases_Bool (nat_lt (key item) (key first))) [ inl less ↦ less | inr more ↦ (let impossible : true ≡ false = rw more at parts.0 in cc) ] in
    rw here refl

any-put_in_order : {T : Type 0} (test : T → Bool) (before : T → T → Bool) (item : T) (items : List T) → list_any test (put_in_order before item items) ≡ (test item || list_any test items)
any-put_in_order test before item [] = refl
any-put_in_order test before item (first ∷ items) = elim (cases_Bool (before item first)) [
  | inl here ↦ rw here refl
  | inr later ↦ rw (later, any-put_in_order test before item items) (either_first (test first) (test item) (list_any test items))
]
  where
    either_first : (a b c : Bool) → (a || (b || c)) ≡ (b || (a || c))
    either_first true true c = refl
    either_first true false c = refl
    either_first false b c = refl

any-in_order : {T : Type 0} (test : T → Bool) (before : T → T → Bool) (items : List T) → list_any test (in_order before items) ≡ list_any test items
any-in_order test before [] = refl
any-in_order test before (item ∷ items) =
    any-put_in_order test before item (in_order before items) ∙ ap (λ rest. test item || rest) (any-in_order test before items)

-- the one with the least key comes first, and the others are in order after it
pub first-picked : {T : Type 0} (key : T → ℕ) (test others : T → Bool) (items : List T) (item : T) → Picks key test items item
    → All (λ other. others other ≡ (test other && not (key other == key item))) items
    → in_order (by_key key) (filter test items) ≡ item ∷ in_order (by_key key) (filter others items)
first-picked key test others [] item picks is = (let impossible : false ≡ true = picks.some in cc)
first-picked {T} key test others (first ∷ items) item picks is = elim (cases_Bool (test first)) [
  | inr fails ↦ rw (fails, left_out fails) (first-picked key test others items item (record {
    some = rw fails at picks.some;
    only = λ k d within. picks.only (suc k) d (omega arith);
    single = rw fails at picks.single;
    least = rw fails at picks.least;
  }) rest)
  | inl passes ↦ elim (cases_Bool (key first == key item)) [
    | inl here ↦ rw (passes, left_out_here here) (at_first passes here)
    | inr other ↦ rw (passes, kept passes other) (behind passes other (first-picked key test others items item (record {
      some = rw (passes, other) at picks.some;
      only = λ k d within. picks.only (suc k) d (omega arith);
      single = rw (passes, other) at picks.single;
      least = least_parts.1;
    }) rest))
  ]
]
  where
    rest : All (λ other. others other ≡ (test other && not (key other == key item))) items
    rest k d within = is (suc k) d (omega arith)

    here_is : others first ≡ (test first && not (key first == key item))
    here_is = is 0 first (omega arith)

    left_out : test first ≡ false → others first ≡ false
    left_out fails = here_is ∙ rw fails refl

    left_out_here : key first == key item ≡ true → others first ≡ false
    left_out_here here = here_is ∙ rw here (elim (cases_Bool (test first)) [ inl yes_t ↦ rw yes_t refl | inr no_t ↦ rw no_t refl ])

    kept : test first ≡ true → (key first == key item) ≡ false → others first ≡ true
    kept passes other = here_is ∙ rw (passes, other) refl

    least_parts : ((test first && nat_lt (key first) (key item)) ≡ false) × (list_any (λ other. test other && nat_lt (key other) (key item)) items ≡ false)
    least_parts = or_parts (test first && nat_lt (key first) (key item)) (list_any (λ other. test other && nat_lt (key other) (key item)) items) picks.least

    -- the first item is the one
    same : test first ≡ true → (key first == key item) ≡ true → first ≡ item
    same passes here = picks.only 0 first (omega arith) (and_from (test first) (key first == key item) passes here)

    no_more : test first ≡ true → (key first == key item) ≡ true → list_any (λ other. test other && key other == key item) items ≡ false
    no_more passes here =
        let one : not (list_any (λ other. test other && key other == key item) items) ≡ true = rw (passes, here) at picks.single in
        not-true (list_any (λ other. test other && key other == key item) items) one

    all_kept : test first ≡ true → (key first == key item) ≡ true → filter others items ≡ filter test items
    all_kept passes here = filter-agree others test items (λ k d within. rest k d within ∙ one (get_or items k d) (none-all (λ other. test other && key other == key item) items (no_more passes here) k d within))
      where
        one : (other : T) → (test other && key other == key item) ≡ false → (test other && not (key other == key item)) ≡ test other
        one other none = elim (cases_Bool (test other)) [
          | inl yes_t ↦ (let differs : (key other == key item) ≡ false = rw yes_t at none in rw (yes_t, differs) refl)
          | inr no_t ↦ rw no_t refl
        ]

    above : test first ≡ true → (key first == key item) ≡ true → All (λ other. (test other && not (nat_lt (key first) (key other))) ≡ false) items
    above passes here k d within = one (get_or items k d)
        (none-all (λ other. test other && key other == key item) items (no_more passes here) k d within)
        (none-all (λ other. test other && nat_lt (key other) (key item)) items least_parts.1 k d within)
      where
        one : (other : T) → (test other && key other == key item) ≡ false → (test other && nat_lt (key other) (key item)) ≡ false → (test other && not (nat_lt (key first) (key other))) ≡ false
        one other none not_less = elim (cases_Bool (test other)) [
          | inl yes_t ↦ (let differs : (key other == key item) ≡ false = rw yes_t at none in
              let not_below : nat_lt (key other) (key item) ≡ false = rw yes_t at not_less in
              let equal : key first ≡ key item = eqb-true (key first) (key item) here in
              let most : key item ≤ key other = ltb-false (key other) (key item) not_below in
              let not_equal : key other ≡ key item → ⊥ = eqb-false (key other) (key item) differs in
              let less : nat_lt (key first) (key other) ≡ true = lt-ltb (key first) (key other) (omega (arith, not_equal)) in
              rw (yes_t, less) refl)
          | inr no_t ↦ rw no_t refl
        ]

    at_first : test first ≡ true → (key first == key item) ≡ true → in_order (by_key key) (first ∷ filter test items) ≡ item ∷ in_order (by_key key) (filter others items)
    at_first passes here =
        put-first key first (in_order (by_key key) (filter test items))
        (any-in_order (λ other. not (nat_lt (key first) (key other))) (by_key key) (filter test items)
        ∙ any-filter test (λ other. not (nat_lt (key first) (key other))) items
        ∙ list_any_none (λ other. test other && not (nat_lt (key first) (key other))) items (above passes here))
        ∙ ap (λ (more : List T). first ∷ in_order (by_key key) more) (sym (all_kept passes here))
        ∙ ap (λ (head : T). head ∷ in_order (by_key key) (filter others items)) (same passes here)

    -- it is behind the first item
    behind : test first ≡ true → (key first == key item) ≡ false → in_order (by_key key) (filter test items) ≡ item ∷ in_order (by_key key) (filter others items)
        → in_order (by_key key) (first ∷ filter test items) ≡ item ∷ in_order (by_key key) (first ∷ filter others items)
    behind passes other more =
        let later : nat_lt (key first) (key item) ≡ false = rw passes at least_parts.0 in
        ap (λ (sorted : List T). put_in_order (by_key key) first sorted) more ∙ rw later refl
