-- Laws of rows, and of tests over them.
use Rattle.std.proofs.Common.{◌≡◌, ℕ, suc, ◌+◌, ◌<◌, ◌≤◌, Bool, true, false, cond, List, [], ◌∷◌, ◌++◌, length, get_or, refl, ap, sym, subst, ◌∙◌, arith, inl, inr, ◌⊎◌, Option, Some, None}
use Rattle.std.specs.List.{find, filter, list_any, All, AllPairs}
use Rattle.std.specs.Borrow.{Bor}
use Rattle.std.specs.Option.{option_copied}
use Rattle.std.specs.Prelude.{◌==◌, ◌||◌, map, option_map, IfSome, if◌then◌else◌}
use Rattle.std.proofs.lemmas.Bool.{ne_eqb, eq-eqb, eqb-true, eqb-false, cases_Bool, false≢true}
use Rattle.std.proofs.lemmas.List.Folds.{list_any-append, list_any_at, list_any_none}
use Rattle.std.proofs.lemmas.List.Elements.{All-push, All-filter, All-map}
use Rattle.std.proofs.lemmas.List.Quantifiers.{all_pairs_push}
use Rattle.std.proofs.lemmas.List.Kept.{AllPairs-filter}
use Rattle.std.proofs.lemmas.Map.Views.{any-filter_same}
use Rattle.fsa_types.specs.Rows.{row_of, lives, without_row, with_row_changed, IsNumbered}
use Rattle.std.proofs.lemmas.List.{get_or-map, length-map}
use Rattle.fsa_types.proofs.RowLemmas.{row_of-at}
use Rattle.fsa_model.specs.Lookups.{number_of}

-- what some item passes, some item of a longer list passes
pub any-push : {X : Type 0} (p : X → Bool) (xs ys : List X) → list_any p xs ≡ true → list_any p (xs ++ ys) ≡ true
any-push p xs ys some = rw (list_any-append p xs ys, some) refl

-- what some item passes, some item passes that a filter keeps
pub any-filter : {X : Type 0} (p q : X → Bool) (xs : List X) → ((x : X) → p x ≡ true → q x ≡ true) → list_any p xs ≡ true → list_any p (filter q xs) ≡ true
any-filter p q xs kept some = any-filter_same p q true kept xs ∙ some

pub any-map : {X Y : Type 0} (p : Y → Bool) (f : X → Y) (xs : List X) → list_any p (map f xs) ≡ list_any (λ x. p (f x)) xs
any-map p f [] = refl
any-map p f (x ∷ xs) = ap (λ rest. p (f x) || rest) (any-map p f xs)

-- tests that agree on each item find alike
pub any-same : {X : Type 0} (p q : X → Bool) (xs : List X) → ((x : X) → p x ≡ q x) → list_any p xs ≡ list_any q xs
any-same p q [] same = refl
any-same p q (x ∷ xs) same = rw (same x) (ap (λ rest. q x || rest) (any-same p q xs same))

-- a weaker test passes too
pub any-weaker : {X : Type 0} (p q : X → Bool) (xs : List X) → ((x : X) → p x ≡ true → q x ≡ true) → list_any p xs ≡ true → list_any q xs ≡ true
any-weaker p q [] weaker some = some
any-weaker p q (x ∷ xs) weaker some =
    elim (cases_Bool (p x)) [
      | inl yes_p ↦ rw (weaker x yes_p) refl
      | inr no_p ↦ (let rest : list_any p xs ≡ true = rw no_p at some in
          elim (cases_Bool (q x)) [ inl yes_q ↦ rw yes_q refl | inr no_q ↦ rw no_q (any-weaker p q xs weaker rest) ])
    ]

-- where no item passes, none does at any place
pub none-all : {X : Type 0} (p : X → Bool) (xs : List X) → list_any p xs ≡ false → All (λ x. p x ≡ false) xs
none-all p xs none k d within =
    elim (cases_Bool (p (get_or xs k d))) [
      | inl passes ↦ (let some = list_any_at p xs k d within passes in cc)
      | inr fails ↦ fails
    ]

pub find-none : {X : Type 0} (p : X → Bool) (xs : List X) → find p xs ≡ None → list_any p xs ≡ false
find-none p [] none = refl
find-none p (x ∷ xs) none =
    elim (cases_Bool (p x)) [
      | inl passes ↦ (let found : Some x ≡ None = rw passes at none in cc)
      | inr fails ↦ rw fails (find-none p xs (rw fails at none))
    ]

pub option_map-none : {X Y : Type 0} (f : X → Y) (o : Option X) → option_map f o ≡ None → o ≡ None
option_map-none f None none = refl
option_map-none f (Some x) none = cc

-- where no row has a number by a test, each fails it
pub number_of-none : {R : Type 0} (test : R → Bool) (rows : List (ℕ × R)) → number_of test rows ≡ None → All (λ entry. test entry.1 ≡ false) rows
number_of-none test rows none = none-all (λ entry. test entry.1) rows (find-none (λ entry. test entry.1) rows (option_map-none (λ entry. entry.0) (find (λ entry. test entry.1) rows) none))

-- a row that lives has a number that was given
pub lives-given : {R : Type 0} (rows : List (ℕ × R)) (last id : ℕ) → All (λ entry. entry.0 ≤ last) rows → lives rows id ≡ true → id ≤ last
lives-given [] last id given living = cc
lives-given (x ∷ xs) last id given living =
    elim (cases_Bool (x.0 == id)) [
      | inl here ↦ (let same = eqb-true x.0 id here in let bound : x.0 ≤ last = given 0 x (omega arith) in omega arith)
      | inr other ↦ lives-given xs last id (λ k d within. given (suc k) d (omega arith)) (rw other at living)
    ]

-- the numbers still rise with one more row
pub IsNumbered-push : {R : Type 0} (rows : List (ℕ × R)) (last : ℕ) (row : R) → IsNumbered rows last → IsNumbered (rows ++ (last + 1, row) ∷ []) (last + 1)
IsNumbered-push rows last row numbered = record {
  rising = all_pairs_push (λ a b. a.0 < b.0) rows (last + 1, row) numbered.rising (λ k d within. let bound = numbered.given k d within in omega arith);
  given = All-push (λ entry. entry.0 ≤ last + 1) rows (last + 1, row) (λ k d within. let bound = numbered.given k d within in omega arith) (omega arith);
}

-- and with fewer
pub IsNumbered-filter : {R : Type 0} (p : ℕ × R → Bool) (rows : List (ℕ × R)) (last : ℕ) → IsNumbered rows last → IsNumbered (filter p rows) last
IsNumbered-filter p rows last numbered = record {
  rising = AllPairs-filter (λ a b. a.0 < b.0) p rows numbered.rising;
  given = All-filter p (λ entry. entry.0 ≤ last) rows numbered.given;
}

pub or-false : (b : Bool) → (b || false) ≡ b
or-false true = refl
or-false false = refl

pub or_right : (b c : Bool) → c ≡ true → (b || c) ≡ true
or_right true c yes_c = refl
or_right false c yes_c = yes_c

pub option_cases : {X : Type 0} (o : Option X) → (o ≡ None) ⊎ ((x : X) × (o ≡ Some x))
option_cases None = inl refl
option_cases (Some x) = inr (x, refl)

-- a change of each item finds what it changes
pub find-map : {X Y : Type 0} (p : Y → Bool) (f : X → Y) (xs : List X) → find p (map f xs) ≡ option_map f (find (λ x. p (f x)) xs)
find-map p f [] = refl
find-map p f (x ∷ xs) =
    elim (cases_Bool (p (f x))) [
      | inl passes ↦ rw passes refl
      | inr fails ↦ rw fails (find-map p f xs)
    ]

pub find-same : {X : Type 0} (p q : X → Bool) (xs : List X) → ((x : X) → p x ≡ q x) → find p xs ≡ find q xs
find-same p q [] same = refl
find-same p q (x ∷ xs) same = elim (cases_Bool (q x)) [
  | inl passes ↦ rw (same x, passes) refl
  | inr fails ↦ rw (same x, fails) (find-same p q xs same)
]

-- a filter keeps what is found
pub find-filter : {X : Type 0} (p q : X → Bool) (xs : List X) → All (λ x. p x ≡ true → q x ≡ true) xs → find p (filter q xs) ≡ find p xs
find-filter p q [] kept = refl
find-filter p q (x ∷ xs) kept =
    let rest : find p (filter q xs) ≡ find p xs = find-filter p q xs (λ k d within. kept (suc k) d (omega arith)) in
    elim (cases_Bool (q x)) [
      | inl yes_q ↦ rw yes_q (ap (λ r. cond (p x) (Some x) r) rest)
      | inr no_q ↦ elim (cases_Bool (p x)) [
        | inl yes_p ↦ (let yes_q : q x ≡ true = kept 0 x (omega arith) yes_p in cc)
        | inr no_p ↦ rw (no_q, no_p) rest
      ]
    ]

pub AllPairs-map : {X Y : Type 0} (R : Y → Y → Type 0) (f : X → Y) (xs : List X) → AllPairs (λ a b. R (f a) (f b)) xs → AllPairs R (map f xs)
AllPairs-map R f [] pairs j k d below within = absurd (omega arith)
AllPairs-map {X} R f (x ∷ xs) pairs j k d below within =
    let bound : k < length (x ∷ xs) = omega (arith, length-map (x ∷ xs) f) in
    rw (get_or-map f (x ∷ xs) j x d (omega arith), get_or-map f (x ∷ xs) k x d bound) (pairs j k x below bound)

-- the row with this number is the one that is found
pub row_of-here : {R : Type 0} (rows : List (ℕ × R)) (last k : ℕ) (d : ℕ × R) → IsNumbered rows last → k < length rows → row_of rows (get_or rows k d).0 ≡ Some (get_or rows k d).1
row_of-here rows last k d numbered within = row_of-at rows k d (get_or rows k d).0 numbered.rising within refl

-- one row changed
abbrev pub change_at : {R : Type 0} → (R → R) → ℕ → ℕ × R → ℕ × R
change_at change id entry = if entry.0 == id then (entry.0, change entry.1) else entry

-- what a change of one row leaves as it was
pub change_at-same : {R X : Type 0} (change : R → R) (id : ℕ) (of : R → X) → ((row : R) → of (change row) ≡ of row) → (entry : ℕ × R) → of (change_at change id entry).1 ≡ of entry.1
change_at-same change id of same entry = elim (cases_Bool (entry.0 == id)) [
  | inl here ↦ rw here (same entry.1)
  | inr other ↦ rw other refl
]

pub change_at-number : {R : Type 0} (change : R → R) (id : ℕ) (entry : ℕ × R) → (change_at change id entry).0 ≡ entry.0
change_at-number change id entry = elim (cases_Bool (entry.0 == id)) [
  | inl here ↦ rw here refl
  | inr other ↦ rw other refl
]

pub IsNumbered-change : {R : Type 0} (change : R → R) (rows : List (ℕ × R)) (last id : ℕ) → IsNumbered rows last → IsNumbered (with_row_changed change rows id) last
IsNumbered-change change rows last id numbered = record {
  rising = AllPairs-map (λ a b. a.0 < b.0) (change_at change id) rows (λ j k d below within.
      rw (change_at-number change id (get_or rows j d), change_at-number change id (get_or rows k d)) (numbered.rising j k d below within));
  given = All-map (λ entry. entry.0 ≤ last) (change_at change id) rows (λ k d within. rw (change_at-number change id (get_or rows k d)) (numbered.given k d within));
}

pub eqb-swap : (a b : ℕ) → (a == b) ≡ (b == a)
eqb-swap a b = elim (cases_Bool (b == a)) [
  | inl same ↦ rw (eqb-true b a same) refl
  | inr other ↦ ne_eqb a b (λ e. eqb-false b a other (sym e)) ∙ sym other
]

-- where no item passes, none passes that a filter keeps
pub any-filter_none : {X : Type 0} (p q : X → Bool) (xs : List X) → list_any p xs ≡ false → list_any p (filter q xs) ≡ false
any-filter_none p q xs none = list_any_none p (filter q xs) (All-filter q (λ x. p x ≡ false) xs (none-all p xs none))

-- what is found is an item
pub find-any : {X : Type 0} (p q : X → Bool) (xs : List X) (x : X) → find p xs ≡ Some x → q x ≡ true → list_any q xs ≡ true
find-any p q [] x found passes = cc
find-any p q (y ∷ xs) x found passes = elim (cases_Bool (p y)) [
  | inl here ↦ (let is : Some y ≡ Some x = rw here at found in let same : y ≡ x = cc in rw (same, passes) refl)
  | inr other ↦ or_right (q y) (list_any q xs) (find-any p q xs x (rw other at found) passes)
]

-- what is true of each row is true of the one with a number
pub row_of-all : {R : Type 0} (P : R → Type 0) (rows : List (ℕ × R)) (id : ℕ) (row : R) → row_of rows id ≡ Some row → All (λ entry. P entry.1) rows → P row
row_of-all P [] id row found all = cc
row_of-all P (x ∷ xs) id row found all = elim (cases_Bool (x.0 == id)) [
  | inl here ↦ (let is : Some x.1 ≡ Some row = rw here at found in let same : x.1 ≡ row = cc in subst P same (all 0 x (omega arith)))
  | inr other ↦ row_of-all P xs id row (rw other at found) (λ k d within. all (suc k) d (omega arith))
]

-- rows seen by a view have the same numbers
pub number_of-map : {R S : Type 0} (view : R → S) (test : S → Bool) (rows : List (ℕ × R))
    → number_of test (map (λ e. (e.0, view e.1)) rows) ≡ option_map (λ entry. entry.0) (find (λ entry. test (view entry.1)) rows)
number_of-map view test [] = refl
number_of-map view test (x ∷ xs) = elim (cases_Bool (test (view x.1))) [
  | inl here ↦ rw here refl
  | inr other ↦ rw other (number_of-map view test xs)
]

-- without a row that isn't there nothing is gone
pub without_row-none : {R : Type 0} (rows : List (ℕ × R)) (id : ℕ) → row_of rows id ≡ None → without_row rows id ≡ rows
without_row-none [] id none = refl
without_row-none (x ∷ xs) id none = elim (cases_Bool (x.0 == id)) [
  | inl here ↦ (let impossible : Some x.1 ≡ None = rw here at none in cc)
  | inr other ↦ rw other (ap (λ rest. x ∷ rest) (without_row-none xs id (rw other at none)))
]

-- a row that lives is found
pub lives-found : {R : Type 0} (rows : List (ℕ × R)) (id : ℕ) → lives rows id ≡ true → row_of rows id ≡ None → ⊥
lives-found [] id living none = false≢true living
lives-found (x ∷ xs) id living none = elim (cases_Bool (x.0 == id)) [
  | inl here ↦ (let impossible : Some x.1 ≡ None = rw here at none in cc)
  | inr other ↦ lives-found xs id (rw other at living) (rw other at none)
]

-- what is true of each row is true of the one that is found, and of the one that is lent
pub found-all : {R : Type 0} (P : R → Type 0) (rows : List (ℕ × R)) (id : ℕ) → All (λ entry. P entry.1) rows → IfSome (row_of rows id) P
found-all P rows id all = elim (option_cases (row_of rows id)) [
  | inl none ↦ rw none tt
  | inr some ↦ rw some.1 (row_of-all P rows id some.0 some.1 all)
]

pub lent-row : {R : Type 0} (P : R → Type 0) (lent : Option (Bor R)) (row : Option R) → option_copied lent ≡ row → IfSome row P → IfSome lent (λ r. P r.now)
lent-row P None row same holds = tt
lent-row P (Some r) row same holds = rw (← same) at holds

-- what is true of each item is true of the one that is found
pub find-all : {X : Type 0} (P : X → Type 0) (p : X → Bool) (xs : List X) (x : X) → find p xs ≡ Some x → All P xs → P x
find-all P p [] x found all = cc
find-all P p (y ∷ xs) x found all = elim (cases_Bool (p y)) [
  | inl here ↦ (let is : Some y ≡ Some x = rw here at found in let same : y ≡ x = cc in subst P same (all 0 y (omega arith)))
  | inr other ↦ find-all P p xs x (rw other at found) (λ k d within. all (suc k) d (omega arith))
]

-- nothing is found where nothing passes, and no number
pub find-no : {X : Type 0} (p : X → Bool) (xs : List X) → list_any p xs ≡ false → find p xs ≡ None
find-no p [] none = refl
find-no p (x ∷ xs) none =
    elim (cases_Bool (p x)) [
      | inl passes ↦ (let impossible : true ≡ false = rw passes at none in cc)
      | inr fails ↦ rw fails (find-no p xs (rw fails at none))
    ]

pub number-none : {R : Type 0} (test : R → Bool) (rows : List (ℕ × R)) → All (λ entry. test entry.1 ≡ false) rows → number_of test rows ≡ None
number-none {R} test rows none = rw (find-no (λ (entry : ℕ × R). test entry.1) rows (list_any_none (λ (entry : ℕ × R). test entry.1) rows none)) refl

-- the last item passes, and so the row that was put in is there
pub any-last : {X : Type 0} (p : X → Bool) (xs : List X) (x : X) → p x ≡ true → list_any p (xs ++ x ∷ []) ≡ true
any-last p xs x passes = list_any-append p xs (x ∷ []) ∙ rw passes (or_right (list_any p xs) true refl)

pub lives-last : {R : Type 0} (rows : List (ℕ × R)) (id : ℕ) (row : R) → lives (rows ++ (id, row) ∷ []) id ≡ true
lives-last {R} rows id row = any-last (λ (entry : ℕ × R). entry.0 == id) rows (id, row) (eq-eqb id id refl)

-- the next number is no row's
pub no-next : {R : Type 0} (rows : List (ℕ × R)) (last : ℕ) → All (λ entry. entry.0 ≤ last) rows → All (λ entry. (entry.0 == last + 1) ≡ false) rows
no-next rows last given k d within = (let below = given k d within in ne_eqb _ (last + 1) (λ e. absurd (omega arith)))
