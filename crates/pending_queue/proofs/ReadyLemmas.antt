-- The turns of the calls that are ready, in rising order: as one of them is put in or taken out, and as a call changes,
-- comes or goes.
use Rattle.std.proofs.Common.{◌≡◌, ℕ, zero, suc, Bool, true, false, ◌+◌, ◌-◌, ◌<◌, ◌≤◌, List, [], ◌∷◌, ◌++◌, length, get_or, refl, ap, sym, subst, ◌∙◌, arith, inl, inr, eq-eqb, Ok, Err, Result}
use Rattle.std.specs.List.{insert, All, AllPairs}
use Rattle.std.specs.List.Sorted.{IsBinarySearchResult, IsNonDecreasingBy, IsSearchInRange}
use Rattle.std.specs.Ordering.{nat_cmp, ordering_index}
use Rattle.std.specs.Prelude.{◌==◌, filter, nat_lt, remove, if◌then◌else◌, IfErr, IfOk}
use Rattle.std.proofs.Math.ListN.{set}
use Rattle.std.proofs.lemmas.Bool.{cases_Bool, cases_lt, eqb-false, ltb-true, ltb-false, ne_eqb}
use Rattle.std.proofs.lemmas.Bool.Decides.{nat_tests}
use Rattle.std.proofs.lemmas.Cmp.{ranked}
use Rattle.std.proofs.lemmas.List.{length-append}
use Rattle.std.proofs.lemmas.List.Elements.{All-cons, All-filter, All-map}
use Rattle.std.proofs.lemmas.List.Kept.{AllPairs-cons}
use Rattle.fsa_types.proofs.OplockLemmas.{All-in_order}
use Rattle.fsa_types.specs.Rows.{without_row}
use Rattle.fsa_types.specs.Sorting.{put_in_order}
use Rattle.pending_queue.specs.Lists.{IsGap, IsPlace, ready_turns, sorted, with_ready, without_turn}
use Rattle.pending_queue.proofs.CountLemmas.{AllDiffer, removed-at}

-- a number put in its place
abbrev put : ℕ → List ℕ → List ℕ
put x xs = put_in_order nat_lt x xs

not_less : (a b : ℕ) → b ≤ a → nat_lt a b ≡ false
not_less a b above = elim (cases_Bool (nat_lt a b)) [
  | inl less ↦ (let below : a < b = ltb-true a b less in absurd (omega arith))
  | inr is ↦ is
]

is_less : (a b : ℕ) → a < b → nat_lt a b ≡ true
is_less a b below = elim (cases_Bool (nat_lt a b)) [
  | inl is ↦ is
  | inr above ↦ (let over = ltb-false a b above in absurd (omega arith))
]

-- ---- two numbers that are put in, in either order

put-less : (x y : ℕ) (rest : List ℕ) → nat_lt x y ≡ true → put x (y ∷ rest) ≡ x ∷ y ∷ rest
put-less x y rest is = rw is refl

put-more : (x y : ℕ) (rest : List ℕ) → nat_lt x y ≡ false → put x (y ∷ rest) ≡ y ∷ put x rest
put-more x y rest is = rw is refl

-- both come before the rest
swap-first : (x y : ℕ) (rest : List ℕ) → put x rest ≡ x ∷ rest → put y rest ≡ y ∷ rest → put x (y ∷ rest) ≡ put y (x ∷ rest)
swap-first x y rest x_is y_is = elim (cases_lt x y) [
  | inl below ↦ put-less x y rest (is_less x y below) ∙ sym (put-more y x rest (not_less y x (omega arith)) ∙ ap (λ more. x ∷ more) y_is)
  | inr above ↦ elim (cases_lt y x) [
    | inl less ↦ put-more x y rest (not_less x y (omega arith)) ∙ ap (λ more. y ∷ more) x_is ∙ sym (put-less y x rest (is_less y x less))
    | inr more ↦ (let same : x ≡ y = omega arith in subst (λ (z : ℕ). put x (z ∷ rest) ≡ put z (x ∷ rest)) same refl)
  ]
]

put-swap : (x y : ℕ) (xs : List ℕ) → put x (put y xs) ≡ put y (put x xs)
put-swap x y [] = swap-first x y [] refl refl
put-swap x y (z ∷ zs) = elim (cases_lt x z) [
  | inl x_first ↦ (let x_is = put-less x z zs (is_less x z x_first) in
      elim (cases_lt y z) [
        | inl y_first ↦ (let y_is = put-less y z zs (is_less y z y_first) in
            ap (put x) y_is ∙ swap-first x y (z ∷ zs) x_is y_is ∙ sym (ap (put y) x_is))
        | inr y_later ↦ (let y_is = put-more y z zs (not_less y z y_later) in
            ap (put x) y_is ∙ put-less x z (put y zs) (is_less x z x_first)
            ∙ sym (ap (put y) x_is ∙ put-more y x (z ∷ zs) (not_less y x (omega arith)) ∙ ap (λ more. x ∷ more) y_is))
      ])
  | inr x_later ↦ (let x_is = put-more x z zs (not_less x z x_later) in
      elim (cases_lt y z) [
        | inl y_first ↦ (let y_is = put-less y z zs (is_less y z y_first) in
            ap (put x) y_is ∙ put-more x y (z ∷ zs) (not_less x y (omega arith)) ∙ ap (λ more. y ∷ more) x_is
            ∙ sym (ap (put y) x_is ∙ put-less y z (put x zs) (is_less y z y_first)))
        | inr y_later ↦ (let y_is = put-more y z zs (not_less y z y_later) in
            ap (put x) y_is ∙ put-more x z (put y zs) (not_less x z x_later) ∙ ap (λ more. z ∷ more) (put-swap x y zs)
            ∙ sym (ap (put y) x_is ∙ put-more y z (put x zs) (not_less y z y_later)))
      ])
]

-- ---- how many

put-length : (x : ℕ) (xs : List ℕ) → length (put x xs) ≡ suc (length xs)
put-length x [] = refl
put-length x (y ∷ ys) = elim (cases_Bool (nat_lt x y)) [ inl less ↦ rw less refl | inr above ↦ rw above (ap suc (put-length x ys)) ]

sorted-length : (xs : List ℕ) → length (sorted xs) ≡ length xs
sorted-length [] = refl
sorted-length (x ∷ xs) = put-length x (sorted xs) ∙ ap suc (sorted-length xs)

ready-few : (calls : List (ℕ × ℕ)) → length (ready_turns calls) ≤ length calls
ready-few [] = omega arith
ready-few (c ∷ cs) = (let rest = ready-few cs in elim (cases_Bool (c.1 == 0)) [ inl ready ↦ rw ready (omega arith) | inr waits ↦ rw waits (omega arith) ])

-- ---- they rise

put-all : (P : ℕ → Type 0) (x : ℕ) (xs : List ℕ) → P x → All P xs → All P (put x xs)
put-all P x [] here all = All-cons P x [] here all
put-all P x (y ∷ ys) here all = elim (cases_Bool (nat_lt x y)) [
  | inl first ↦ rw first (All-cons P x (y ∷ ys) here all)
  | inr later ↦ rw later (All-cons P y (put x ys) (all 0 y (omega arith)) (put-all P x ys here (λ k d within. all (suc k) d (omega arith))))
]

put-rising : (x : ℕ) (xs : List ℕ) → All (λ y. (y == x) ≡ false) xs → AllPairs (λ a b. a < b) xs → AllPairs (λ a b. a < b) (put x xs)
put-rising x [] apart rising = AllPairs-cons (λ a b. a < b) x [] (λ k d within. absurd (omega arith)) rising
put-rising x (y ∷ ys) apart rising = elim (cases_Bool (nat_lt x y)) [
  | inl less ↦ (let below : x < y = ltb-true x y less in rw less (AllPairs-cons (λ a b. a < b) x (y ∷ ys) (All-cons (λ b. x < b) y ys below (λ k d within. let more : y < get_or ys k d = rising 0 (suc k) d (omega arith) (omega arith) in omega arith)) rising))
  | inr above ↦ (let over = ltb-false x y above in
      let differ = eqb-false y x (apart 0 y (omega arith)) in
      let less : y < x = omega (arith, differ) in
      rw above (AllPairs-cons (λ a b. a < b) y (put x ys) (put-all (λ b. y < b) x ys less (λ k d within. rising 0 (suc k) d (omega arith) (omega arith)))
      (put-rising x ys (λ k d within. apart (suc k) d (omega arith)) (λ i j d below within. rising (suc i) (suc j) d (omega arith) (omega arith)))))
]

-- those of the calls but this one have other turns
left-apart : (calls : List (ℕ × ℕ)) (turn : ℕ) → All (λ c. (c.0 == turn) ≡ false) (without_row calls turn)
left-apart [] turn = λ k d within. absurd (omega arith)
left-apart (c ∷ cs) turn = elim (cases_Bool (c.0 == turn)) [
  | inl own ↦ rw own (left-apart cs turn)
  | inr other ↦ rw other (All-cons (λ (e : ℕ × ℕ). (e.0 == turn) ≡ false) c (without_row cs turn) other (left-apart cs turn))
]

ready-apart : (calls : List (ℕ × ℕ)) (turn : ℕ) → All (λ c. (c.0 == turn) ≡ false) calls → All (λ t. (t == turn) ≡ false) (sorted (ready_turns calls))
ready-apart calls turn apart =
    All-in_order (λ t. (t == turn) ≡ false) nat_lt (ready_turns calls)
    (All-map (λ t. (t == turn) ≡ false) (λ (c : ℕ × ℕ). c.0) (filter (λ c. c.1 == 0) calls) (All-filter (λ c. c.1 == 0) (λ (c : ℕ × ℕ). (c.0 == turn) ≡ false) calls apart))

pub ready-rising : (calls : List (ℕ × ℕ)) → AllDiffer calls → AllPairs (λ a b. a < b) (sorted (ready_turns calls))
ready-rising [] differ = λ i j d below within. absurd (omega arith)
ready-rising (c ∷ cs) differ =
    let rest = ready-rising cs (λ i j d below within. differ (suc i) (suc j) d (omega arith) (omega arith)) in
    let apart : All (λ e. (e.0 == c.0) ≡ false) cs = λ k d within. (let first : (c.0 == (get_or cs k d).0) ≡ false = differ 0 (suc k) d (omega arith) (omega arith) in
    ne_eqb (get_or cs k d).0 c.0 (λ same. eqb-false c.0 (get_or cs k d).0 first (sym same))) in
    elim (cases_Bool (c.1 == 0)) [
      | inl ready ↦ rw ready (put-rising c.0 (sorted (ready_turns cs)) (ready-apart cs c.0 apart) rest)
      | inr waits ↦ rw waits rest
    ]

-- ---- a turn is looked for

without-absent : (xs : List ℕ) (turn : ℕ) → All (λ t. (t == turn) ≡ false) xs → without_turn xs turn ≡ xs
without-absent [] turn apart = refl
without-absent (x ∷ xs) turn apart =
    let other : (x == turn) ≡ false = apart 0 x (omega arith) in
    rw other (ap (λ rest. x ∷ rest) (without-absent xs turn (λ k d within. apart (suc k) d (omega arith))))

without-put : (turn : ℕ) (xs : List ℕ) → without_turn (put turn xs) turn ≡ without_turn xs turn
without-put turn [] = rw (eq-eqb turn turn refl) refl
without-put turn (y ∷ ys) = elim (cases_Bool (nat_lt turn y)) [
  | inl first ↦ rw first (rw (eq-eqb turn turn refl) refl)
  | inr later ↦ rw later (elim (cases_Bool (y == turn)) [
    | inl own ↦ rw own (without-put turn ys)
    | inr other ↦ rw other (ap (λ rest. y ∷ rest) (without-put turn ys))
  ])
]

pub gap-apart : (xs : List ℕ) (turn place : ℕ) → IsGap xs turn place → All (λ t. (t == turn) ≡ false) xs
gap-apart xs turn place gap k d within = elim (cases_lt k place) [
  | inl below ↦ (let less = gap.before k d below in ne_eqb (get_or xs k d) turn (λ same. absurd (omega arith)))
  | inr above ↦ (let more = gap.after k d above within in ne_eqb (get_or xs k d) turn (λ same. absurd (omega arith)))
]

-- by halves
comparisons_rise : (xs : List ℕ) (turn : ℕ) → AllPairs (λ a b. a < b) xs → IsNonDecreasingBy (λ t. ordering_index (nat_cmp t turn)) xs
comparisons_rise xs turn rising i j d le within = grind (arith, nat_tests, rising i j d, λ (same : i ≡ j). ap (λ k. get_or xs k d) same)

pub place-searched : (xs : List ℕ) (turn : ℕ) (r : Result ℕ ℕ) → IsSearchInRange r (length xs) → IsBinarySearchResult (λ t. nat_cmp t turn) xs r → IfOk r (λ place. IsPlace xs turn place)
place-searched xs turn (Ok i) within equal = record { within = within; here = λ d. ranked _ turn _ (sym (equal d)) }
place-searched xs turn (Err i) within parted = tt

pub gap-searched : (xs : List ℕ) (turn : ℕ) → AllPairs (λ a b. a < b) xs → (r : Result ℕ ℕ) → IsSearchInRange r (length xs) → IsBinarySearchResult (λ t. nat_cmp t turn) xs r → IfErr r (λ place. IsGap xs turn place)
gap-searched xs turn rising (Ok i) within equal = tt
gap-searched xs turn rising (Err i) within parted =
    let parts = parted (comparisons_rise xs turn rising) in
    record {
      within = within;
      before = λ k d less. ranked _ turn _ (sym (parts.0 k d (omega arith) less));
      after = λ k d from inside. ranked _ turn _ (sym (parts.1 k d from inside));
    }

insert-gap : (xs : List ℕ) (turn place : ℕ) → IsGap xs turn place → insert xs place turn ≡ put turn xs
insert-gap [] turn zero gap = refl
insert-gap [] turn (suc place) gap = (let within = gap.within in absurd (omega arith))
insert-gap (x ∷ xs) turn zero gap = (let more : turn < x = gap.after 0 x (omega arith) (omega arith) in rw (is_less turn x more) refl)
insert-gap (x ∷ xs) turn (suc place) gap =
    let less : x < turn = gap.before 0 x (omega arith) in
    let within = gap.within in
    rw (not_less turn x (omega arith)) (ap (λ rest. x ∷ rest) (insert-gap xs turn place (record {
      within = omega arith;
      before = λ k d below. gap.before (suc k) d (omega arith);
      after = λ k d above inside. gap.after (suc k) d (omega arith) (omega arith);
    })))

remove-place : (xs : List ℕ) (turn place : ℕ) → AllPairs (λ a b. a < b) xs → IsPlace xs turn place → remove xs place ≡ without_turn xs turn
remove-place [] turn place rising at = (let within = at.within in absurd (omega arith))
remove-place (x ∷ xs) turn zero rising at =
    let here : x ≡ turn = at.here x in
    rw (eq-eqb x turn here) (sym (without-absent xs turn (λ k d within. let more : x < get_or xs k d = rising 0 (suc k) d (omega arith) (omega arith) in ne_eqb (get_or xs k d) turn (λ same. absurd (omega arith)))))
remove-place (x ∷ xs) turn (suc place) rising at =
    let within = at.within in
    let less : x < get_or xs place x = rising 0 (suc place) x (omega arith) (omega arith) in
    let here : get_or xs place x ≡ turn = at.here x in
    let other : (x == turn) ≡ false = ne_eqb x turn (λ same. absurd (omega arith)) in
    rw other (ap (λ rest. x ∷ rest) (remove-place xs turn place (λ i j d below inside. rising (suc i) (suc j) d (omega arith) (omega arith)) (record { within = omega arith; here = λ d. at.here d })))

-- what is put back is as it was
put-back : (xs : List ℕ) (turn place : ℕ) → AllPairs (λ a b. a < b) xs → IsPlace xs turn place → put turn (without_turn xs turn) ≡ xs
put-back [] turn place rising at = (let within = at.within in absurd (omega arith))
put-back (x ∷ xs) turn zero rising at =
    let here : x ≡ turn = at.here x in
    let rest : without_turn xs turn ≡ xs = without-absent xs turn (λ k d within. let more : x < get_or xs k d = rising 0 (suc k) d (omega arith) (omega arith) in ne_eqb (get_or xs k d) turn (λ same. absurd (omega arith))) in
    rw (eq-eqb x turn here, rest) (put-below turn xs x here (λ k d within. rising 0 (suc k) d (omega arith) (omega arith)))
  where
    put-below : (turn : ℕ) (xs : List ℕ) (x : ℕ) → x ≡ turn → All (λ y. x < y) xs → put turn xs ≡ x ∷ xs
    put-below turn [] x same above = ap (λ (t : ℕ). t ∷ []) (sym same)
    put-below turn (y ∷ ys) x same above = (let more : x < y = above 0 y (omega arith) in rw (is_less turn y (omega arith)) (ap (λ (t : ℕ). t ∷ y ∷ ys) (sym same)))
put-back (x ∷ xs) turn (suc place) rising at =
    let within = at.within in
    let less : x < get_or xs place x = rising 0 (suc place) x (omega arith) (omega arith) in
    let here : get_or xs place x ≡ turn = at.here x in
    let other : (x == turn) ≡ false = ne_eqb x turn (λ same. absurd (omega arith)) in
    rw (other, not_less turn x (omega arith)) (ap (λ rest. x ∷ rest) (put-back xs turn place (λ i j d below inside. rising (suc i) (suc j) d (omega arith) (omega arith)) (record { within = omega arith; here = λ d. at.here d })))

-- what is left of them with a turn put in or taken out
pub without-gap : (xs : List ℕ) (turn place : ℕ) → IsGap xs turn place → without_turn xs turn ≡ xs
without-gap xs turn place gap = without-absent xs turn (gap-apart xs turn place gap)

pub with-gap : (xs : List ℕ) (turn place : ℕ) (is : Bool) → IsGap xs turn place → (if is then insert xs place turn else xs) ≡ with_ready xs turn is
with-gap xs turn place true gap = insert-gap xs turn place gap ∙ ap (put turn) (sym (without-gap xs turn place gap))
with-gap xs turn place false gap = sym (without-gap xs turn place gap)

pub with-place : (xs : List ℕ) (turn place : ℕ) (is : Bool) → AllPairs (λ a b. a < b) xs → IsPlace xs turn place → (if is then xs else remove xs place) ≡ with_ready xs turn is
with-place xs turn place true rising at = sym (put-back xs turn place rising at)
with-place xs turn place false rising at = remove-place xs turn place rising at

-- ---- the call at a place

-- the ready turns of the others
abbrev rest_at : List (ℕ × ℕ) → ℕ → List ℕ
rest_at calls place = sorted (ready_turns (remove calls place))

set-at : (calls : List (ℕ × ℕ)) (place id n : ℕ) → place < length calls
    → sorted (ready_turns (set calls place (id, n))) ≡ (if n == 0 then put id (rest_at calls place) else rest_at calls place)
set-at [] place id n within = absurd (omega arith)
set-at (c ∷ cs) zero id n within = elim (cases_Bool (n == 0)) [ inl ready ↦ rw ready refl | inr waits ↦ rw waits refl ]
set-at (c ∷ cs) (suc place) id n within =
    let rest = set-at cs place id n (omega arith) in
    elim (cases_Bool (n == 0)) [
      | inl ready ↦ elim (cases_Bool (c.1 == 0)) [
        | inl first ↦ rw (first, ready) (ap (put c.0) (rw ready at rest) ∙ put-swap c.0 id (rest_at cs place))
        | inr later ↦ rw (later, ready) (rw ready at rest)
      ]
      | inr waits ↦ elim (cases_Bool (c.1 == 0)) [
        | inl first ↦ rw (first, waits) (ap (put c.0) (rw waits at rest))
        | inr later ↦ rw (later, waits) (rw waits at rest)
      ]
    ]

own-at : (calls : List (ℕ × ℕ)) (place : ℕ) (d : ℕ × ℕ) → place < length calls
    → sorted (ready_turns calls) ≡ (if (get_or calls place d).1 == 0 then put (get_or calls place d).0 (rest_at calls place) else rest_at calls place)
own-at [] place d within = absurd (omega arith)
own-at (c ∷ cs) zero d within = elim (cases_Bool (c.1 == 0)) [ inl ready ↦ rw ready refl | inr waits ↦ rw waits refl ]
own-at (c ∷ cs) (suc place) d within =
    let own : ℕ × ℕ = get_or cs place d in
    let rest = own-at cs place d (omega arith) in
    elim (cases_Bool (own.1 == 0)) [
      | inl ready ↦ elim (cases_Bool (c.1 == 0)) [
        | inl first ↦ rw (first, ready) (ap (put c.0) (rw ready at rest) ∙ put-swap c.0 own.0 (rest_at cs place))
        | inr later ↦ rw (later, ready) (rw ready at rest)
      ]
      | inr waits ↦ elim (cases_Bool (c.1 == 0)) [
        | inl first ↦ rw (first, waits) (ap (put c.0) (rw waits at rest))
        | inr later ↦ rw (later, waits) (rw waits at rest)
      ]
    ]

-- without it the others are left
pub ready-without : (calls : List (ℕ × ℕ)) (place id : ℕ) (d : ℕ × ℕ) → AllDiffer calls → place < length calls → (get_or calls place d).0 ≡ id
    → without_turn (sorted (ready_turns calls)) id ≡ rest_at calls place
ready-without calls place id d differ within here =
    let own = own-at calls place d within in
    let gone : remove calls place ≡ without_row calls id = removed-at calls id place d differ within here in
    let left : without_turn (rest_at calls place) id ≡ rest_at calls place = rw gone (without-absent (sorted (ready_turns (without_row calls id))) id (ready-apart (without_row calls id) id (left-apart calls id))) in
    elim (cases_Bool ((get_or calls place d).1 == 0)) [
      | inl ready ↦ ap (λ all. without_turn all id) (rw (ready, here) at own) ∙ without-put id (rest_at calls place) ∙ left
      | inr waits ↦ ap (λ all. without_turn all id) (rw waits at own) ∙ left
    ]

-- so many of its blockers live
pub ready-set : (calls : List (ℕ × ℕ)) (place id n : ℕ) (d : ℕ × ℕ) → AllDiffer calls → place < length calls → (get_or calls place d).0 ≡ id
    → sorted (ready_turns (set calls place (id, n))) ≡ with_ready (sorted (ready_turns calls)) id (n == 0)
ready-set calls place id n d differ within here =
    let is = set-at calls place id n within in
    let rest = ready-without calls place id d differ within here in
    elim (cases_Bool (n == 0)) [
      | inl ready ↦ rw (ready, rest) (rw ready at is)
      | inr waits ↦ rw (waits, rest) (rw waits at is)
    ]

-- one less of them lives
pub ready-lowered : (calls : List (ℕ × ℕ)) (place id : ℕ) (d : ℕ × ℕ) → AllDiffer calls → place < length calls → (get_or calls place d).0 ≡ id
    → sorted (ready_turns (set calls place (id, (get_or calls place d).1 - 1)))
    ≡ (if (get_or calls place d).1 - 1 == 0 then with_ready (sorted (ready_turns calls)) id true else sorted (ready_turns calls))
ready-lowered calls place id d differ within here =
    let count : ℕ = (get_or calls place d).1 in
    let is = ready-set calls place id (count - 1) d differ within here in
    elim (cases_Bool (count - 1 == 0)) [
      | inl none ↦ rw none (rw none at is)
      | inr some ↦ (let before : (count == 0) ≡ false = ne_eqb count 0 (λ same. eqb-false (count - 1) 0 some (omega arith)) in
          let was = own-at calls place d within in
          rw some (rw some at is ∙ ready-without calls place id d differ within here ∙ sym (rw before at was)))
    ]

-- it is taken out
pub ready-removed : (calls : List (ℕ × ℕ)) (place id : ℕ) (d : ℕ × ℕ) → AllDiffer calls → place < length calls → (get_or calls place d).0 ≡ id
    → sorted (ready_turns (remove calls place)) ≡ with_ready (sorted (ready_turns calls)) id false
ready-removed calls place id d differ within here = sym (ready-without calls place id d differ within here)

-- without it there are fewer than calls
pub ready-fewer : (calls : List (ℕ × ℕ)) (place id : ℕ) (d : ℕ × ℕ) → AllDiffer calls → place < length calls → (get_or calls place d).0 ≡ id
    → length (without_turn (sorted (ready_turns calls)) id) < length calls
ready-fewer calls place id d differ within here =
    let is = ap length (ready-without calls place id d differ within here) in
    let many = sorted-length (ready_turns (remove calls place)) in
    let few = ready-few (remove calls place) in
    let less = removed-fewer calls place within in
    omega arith
  where
    removed-fewer : (calls : List (ℕ × ℕ)) (place : ℕ) → place < length calls → length (remove calls place) < length calls
    removed-fewer [] place within = absurd (omega arith)
    removed-fewer (c ∷ cs) zero within = omega arith
    removed-fewer (c ∷ cs) (suc place) within = (let rest = removed-fewer cs place (omega arith) in omega arith)

-- ---- a call comes

pushed : (calls : List (ℕ × ℕ)) (id n : ℕ) → sorted (ready_turns (calls ++ (id, n) ∷ [])) ≡ (if n == 0 then put id (sorted (ready_turns calls)) else sorted (ready_turns calls))
pushed [] id n = elim (cases_Bool (n == 0)) [ inl ready ↦ rw ready refl | inr waits ↦ rw waits refl ]
pushed (c ∷ cs) id n =
    let rest = pushed cs id n in
    elim (cases_Bool (n == 0)) [
      | inl ready ↦ elim (cases_Bool (c.1 == 0)) [
        | inl first ↦ rw (first, ready) (ap (put c.0) (rw ready at rest) ∙ put-swap c.0 id (sorted (ready_turns cs)))
        | inr later ↦ rw (later, ready) (rw ready at rest)
      ]
      | inr waits ↦ elim (cases_Bool (c.1 == 0)) [
        | inl first ↦ rw (first, waits) (ap (put c.0) (rw waits at rest))
        | inr later ↦ rw (later, waits) (rw waits at rest)
      ]
    ]

pub ready-pushed : (calls : List (ℕ × ℕ)) (id n : ℕ) → All (λ c. (c.0 == id) ≡ false) calls
    → sorted (ready_turns (calls ++ (id, n) ∷ [])) ≡ with_ready (sorted (ready_turns calls)) id (n == 0)
ready-pushed calls id n apart =
    let is = pushed calls id n in
    let left = without-absent (sorted (ready_turns calls)) id (ready-apart calls id apart) in
    elim (cases_Bool (n == 0)) [
      | inl ready ↦ rw (ready, left) (rw ready at is)
      | inr waits ↦ rw (waits, left) (rw waits at is)
    ]

pub ready-pushed-fewer : (calls : List (ℕ × ℕ)) (id n : ℕ) → All (λ c. (c.0 == id) ≡ false) calls → length (without_turn (sorted (ready_turns calls)) id) < length (calls ++ (id, n) ∷ [])
ready-pushed-fewer calls id n apart =
    let left = ap length (without-absent (sorted (ready_turns calls)) id (ready-apart calls id apart)) in
    let many = sorted-length (ready_turns calls) in
    let few = ready-few calls in
    omega (arith, length-append {A = ℕ × ℕ})

-- one that isn't there goes
pub ready-unremoved : (calls : List (ℕ × ℕ)) (id : ℕ) → All (λ c. (c.0 == id) ≡ false) calls → sorted (ready_turns calls) ≡ with_ready (sorted (ready_turns calls)) id false
ready-unremoved calls id apart = sym (without-absent (sorted (ready_turns calls)) id (ready-apart calls id apart))
