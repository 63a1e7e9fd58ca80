-- One list of all oplocks and the tables of streams: what is done to the oplock of one handle in both leaves them in
-- step.
use Rattle.std.proofs.Common.{◌≡◌, ℕ, zero, suc, ◌+◌, ◌*◌, ◌≤◌, Bool, true, false, not, List, [], ◌∷◌, ◌++◌, get_or, refl, ap, sym, subst, ◌∙◌, arith, inl, inr, Option, Some, None, IsSome}
use Rattle.std.specs.List.{All, AllPairs}
use Rattle.std.specs.Option.{option_map_or, ForSome}
use Rattle.std.specs.Prelude.{◌==◌, ◌&&◌, filter, find, map, max, option_and_then, option_map, IfNone}
use Rattle.std.proofs.lemmas.Bool.{cases_Bool, eq-eqb, eqb-true, both_ways}
use Rattle.std.proofs.lemmas.List.{append-nil}
use Rattle.std.proofs.lemmas.List.Elements.{All-cons, All-filter, All-map, All-push, filter-append}
use Rattle.fsa_types.proofs.OplockLemmas.{All-in_order}
use Rattle.fsa_types.specs.OplockGrants.{after_answer, after_grant, after_switches, as_answered, as_granted, is_of_key, switched_among, target_among}
use Rattle.fsa_types.specs.OplockLists.{break_begun, left_by_effect, lowered, without_oplock_of}
use Rattle.fsa_types.specs.Oplocks.{Begins, Effect, Ends, Lowers, Oplock, Stays, has_read, in_both}
use Rattle.fsa_types.specs.Rows.{row_of}
use Rattle.fsa_types.specs.Sorting.{in_order, put_in_order}
use Rattle.fsa_types.specs.declared.request.Level.{Level}
use Rattle.fsa_model.specs.Lookups.{is_open_on}
use Rattle.fsa_model.specs.Volume.{Handle}
use Rattle.fsa_model.proofs.RowLaws.{eqb-swap, find-filter, option_cases}
use Rattle.oplock_state.specs.Homes.{home_of_handle, home_of_stream, is_home_to}
use Rattle.oplock_state.specs.State.{State}
use Rattle.oplock_state.specs.Tables.{AreSorted, AreThere, FitTables, IsStep, is_oplock_of_stream, last_at, room_at, rows_at}
use Rattle.volume_breaks.proofs.GrantLemmas.{NoneOf, switched-on}
use Rattle.volume_tables.specs.HandleTable.{stream_of_handle}
use Rattle.volume_tables.specs.Rooms.{room_in}

-- ---- lists

filter-swap : {X : Type 0} (p q : X → Bool) (xs : List X) → filter p (filter q xs) ≡ filter q (filter p xs)
filter-swap p q [] = refl
filter-swap p q (x ∷ xs) = elim (cases_Bool (p x)) [
  | inl a ↦ elim (cases_Bool (q x)) [
    | inl b ↦ rw (a, b, a) (ap (λ rest. x ∷ rest) (filter-swap p q xs))
    | inr b ↦ rw (a, b) (filter-swap p q xs)
  ]
  | inr a ↦ elim (cases_Bool (q x)) [
    | inl b ↦ rw (a, b, a) (filter-swap p q xs)
    | inr b ↦ rw (a, b) (filter-swap p q xs)
  ]
]

filter-map : {X : Type 0} (p : X → Bool) (f : X → X) (xs : List X) → ((x : X) → p (f x) ≡ p x) → filter p (map f xs) ≡ map f (filter p xs)
filter-map p f [] same = refl
filter-map p f (x ∷ xs) same = elim (cases_Bool (p x)) [
  | inl passes ↦ rw (same x, passes) (ap (λ rest. f x ∷ rest) (filter-map p f xs same))
  | inr fails ↦ rw (same x, fails) (filter-map p f xs same)
]

filter-all : {X : Type 0} (p : X → Bool) (xs : List X) → All (λ x. p x ≡ true) xs → filter p xs ≡ xs
filter-all p [] all = refl
filter-all p (x ∷ xs) all =
    let here : p x ≡ true = all 0 x (omega arith) in
    rw here (ap (λ rest. x ∷ rest) (filter-all p xs (λ k d within. all (suc k) d (omega arith))))

filter-none : {X : Type 0} (p : X → Bool) (xs : List X) → All (λ x. p x ≡ false) xs → filter p xs ≡ []
filter-none p [] all = refl
filter-none p (x ∷ xs) all =
    let here : p x ≡ false = all 0 x (omega arith) in
    rw here (filter-none p xs (λ k d within. all (suc k) d (omega arith)))

-- what passes one test passes the other
filter-within : {X : Type 0} (p q : X → Bool) (xs : List X) → ((x : X) → p x ≡ true → q x ≡ true) → filter p (filter q xs) ≡ filter p xs
filter-within p q [] within = refl
filter-within p q (x ∷ xs) within = elim (cases_Bool (q x)) [
  | inl kept ↦ rw kept (elim (cases_Bool (p x)) [
    | inl passes ↦ rw passes (ap (λ rest. x ∷ rest) (filter-within p q xs within))
    | inr fails ↦ rw fails (filter-within p q xs within)
  ])
  | inr gone ↦ rw gone (elim (cases_Bool (p x)) [
    | inl passes ↦ absurd (both_ways (q x) gone (within x passes))
    | inr fails ↦ rw fails (filter-within p q xs within)
  ])
]

map-same : {X : Type 0} (f : X → X) (xs : List X) → All (λ x. f x ≡ x) xs → map f xs ≡ xs
map-same f [] all = refl
map-same f (x ∷ xs) all =
    let here : f x ≡ x = all 0 x (omega arith) in
    rw here (ap (λ rest. x ∷ rest) (map-same f xs (λ k d within. all (suc k) d (omega arith))))

-- all that pass a test do
filter-passes : {X : Type 0} (p : X → Bool) (P : X → Type 0) (xs : List X) → ((x : X) → p x ≡ true → P x) → All P (filter p xs)
filter-passes p P [] each = λ k d within. absurd (omega arith)
filter-passes p P (x ∷ xs) each = elim (cases_Bool (p x)) [
  | inl passes ↦ rw passes (All-cons P x (filter p xs) (each x passes) (filter-passes p P xs each))
  | inr fails ↦ rw fails (filter-passes p P xs each)
]

-- ---- what is done to the oplock of one handle

abbrev pub HaveHomes : List (ℕ × Handle) → List Oplock → Type 0
HaveHomes handles rows = All (λ (o : Oplock). IsSome (home_of_handle handles o.handle)) rows

-- it is done alike to those of one home, and leaves the oplocks of all other handles
pub record IsLocal (handle : ℕ) (change : List Oplock → List Oplock) : Type 0 where
  pub sorts : (handles : List (ℕ × Handle)) (home : ℕ) (rows : List Oplock) → filter (is_home_to handles home) (change rows) ≡ change (filter (is_home_to handles home) rows)
  pub stays : (rows : List Oplock) → NoneOf handle rows → change rows ≡ rows
  pub keeps : (other : ℕ) (rows : List Oplock) → (handle == other) ≡ false → filter (λ (o : Oplock). o.handle == other) (change rows) ≡ filter (λ (o : Oplock). o.handle == other) rows
  pub homes : (handles : List (ℕ × Handle)) (rows : List Oplock) → HaveHomes handles rows → HaveHomes handles (change rows)

kept-by : (a b : ℕ) → (a == b) ≡ false → not (a == b) ≡ true
kept-by a b differ = rw differ refl

-- an oplock of another handle isn't of this one
other-handle : (o handle other : ℕ) → (o == other) ≡ true → (handle == other) ≡ false → (o == handle) ≡ false
other-handle o handle other is differ =
    let same : o ≡ other = eqb-true o other is in
    ap (λ n. n == handle) same ∙ eqb-swap other handle ∙ differ

pub local-without : (handle : ℕ) → IsLocal handle (without_oplock_of handle)
local-without handle = record {
  sorts = λ handles home rows. filter-swap (is_home_to handles home) (λ (o : Oplock). not (o.handle == handle)) rows;
  stays = λ rows none. filter-all (λ (o : Oplock). not (o.handle == handle)) rows (λ k d within. kept-by (get_or rows k d).handle handle (none k d within));
  keeps = λ other rows differ. filter-within (λ (o : Oplock). o.handle == other) (λ (o : Oplock). not (o.handle == handle)) rows
      (λ o is. kept-by o.handle handle (other-handle o.handle handle other is differ));
  homes = λ handles rows homes. All-filter (λ (o : Oplock). not (o.handle == handle)) (λ (o : Oplock). IsSome (home_of_handle handles o.handle)) rows homes;
}

pub local-map : (handle : ℕ) (f : Oplock → Oplock) → ((o : Oplock) → (f o).handle ≡ o.handle) → ((o : Oplock) → (o.handle == handle) ≡ false → f o ≡ o) → IsLocal handle (map f)
local-map handle f same leaves = record {
  sorts = λ handles home rows. filter-map (is_home_to handles home) f rows (λ o. ap (λ (h : ℕ). option_map_or (λ own. own == home) (home_of_handle handles h) false) (same o));
  stays = λ rows none. map-same f rows (λ k d within. leaves (get_or rows k d) (none k d within));
  keeps = λ other rows differ. filter-map (λ (o : Oplock). o.handle == other) f rows (λ o. ap (λ (h : ℕ). h == other) (same o))
      ∙ map-same f (filter (λ (o : Oplock). o.handle == other) rows)
      (filter-passes (λ (o : Oplock). o.handle == other) (λ o. f o ≡ o) rows (λ o is. leaves o (other-handle o.handle handle other is differ)));
  homes = λ handles rows homes. All-map (λ (o : Oplock). IsSome (home_of_handle handles o.handle)) f rows
      (λ k d within. subst (λ (h : ℕ). IsSome (home_of_handle handles h)) (sym (same (get_or rows k d))) (homes k d within));
}

pub local-left : (done : Effect) (handle number : ℕ) → IsLocal handle (left_by_effect done handle number)
local-left Stays handle number = record { sorts = λ handles home rows. refl; stays = λ rows none. refl; keeps = λ other rows differ. refl; homes = λ handles rows homes. homes }
local-left Ends handle number =
    let one = local-without handle in
    record { sorts = one.sorts; stays = one.stays; keeps = one.keeps; homes = one.homes }
local-left (Begins level) handle number =
    let one = local-map handle (break_begun handle level number)
    (λ o. elim (cases_Bool (o.handle == handle)) [ inl here ↦ rw here refl | inr other ↦ rw other refl ])
    (λ o other. rw other refl) in
    record { sorts = one.sorts; stays = one.stays; keeps = one.keeps; homes = one.homes }
local-left (Lowers level) handle number =
    let one = local-map handle (lowered handle level)
    (λ o. elim (cases_Bool (o.handle == handle)) [ inl here ↦ rw here refl | inr other ↦ rw other refl ])
    (λ o other. rw other refl) in
    record { sorts = one.sorts; stays = one.stays; keeps = one.keeps; homes = one.homes }

pub local-answer : (handle : ℕ) (level : Level) (turn : ℕ) → IsLocal handle (after_answer handle level turn)
local-answer handle level turn =
    let kept = local-map handle (as_answered handle level turn)
    (λ o. elim (cases_Bool (o.handle == handle)) [ inl here ↦ rw here refl | inr other ↦ rw other refl ])
    (λ o other. rw other refl) in
    let gone = local-without handle in
    record {
      sorts = λ handles home rows. elim (cases_Bool (has_read level)) [ inl some ↦ rw some (kept.sorts handles home rows) | inr none ↦ rw none (gone.sorts handles home rows) ];
      stays = λ rows none. elim (cases_Bool (has_read level)) [ inl some ↦ rw some (kept.stays rows none) | inr not ↦ rw not (gone.stays rows none) ];
      keeps = λ other rows differ. elim (cases_Bool (has_read level)) [ inl some ↦ rw some (kept.keeps other rows differ) | inr none ↦ rw none (gone.keeps other rows differ) ];
      homes = λ handles rows homes. elim (cases_Bool (has_read level)) [ inl some ↦ rw some (kept.homes handles rows homes) | inr none ↦ rw none (gone.homes handles rows homes) ];
    }

-- ---- where a handle is at home

-- a handle of a stream is on it
pub own-stream : (handles : List (ℕ × Handle)) (handle stream : ℕ) → stream_of_handle handles handle ≡ Some stream → option_map_or (is_open_on stream) (row_of handles handle) false ≡ true
own-stream handles handle stream found = elim (option_cases (row_of handles handle)) [
  | inl none ↦ (let impossible : None ≡ Some stream = rw none at found in cc)
  | inr some ↦ (let its : some.0.stream ≡ Some stream = rw some.1 at found in rw (some.1, its) (eq-eqb stream stream refl))
]

-- and has its home
pub home-found : (handles : List (ℕ × Handle)) (handle stream : ℕ) → stream_of_handle handles handle ≡ Some stream → home_of_handle handles handle ≡ Some (home_of_stream stream)
home-found handles handle stream found = ap (option_map home_of_stream) found

-- an oplock of a handle has its home, and no other
pub own-home : (handles : List (ℕ × Handle)) (handle home : ℕ) → home_of_handle handles handle ≡ Some home → option_map_or (λ own. own == home) (home_of_handle handles handle) false ≡ true
own-home handles handle home found = ap (λ (own : Option ℕ). option_map_or (λ (h : ℕ). h == home) own false) found ∙ eq-eqb home home refl

pub other-home : (handles : List (ℕ × Handle)) (handle home other : ℕ) → home_of_handle handles handle ≡ Some home → (other == home) ≡ false
    → option_map_or (λ own. own == other) (home_of_handle handles handle) false ≡ false
other-home handles handle home other found differ = ap (λ (own : Option ℕ). option_map_or (λ (h : ℕ). h == other) own false) found ∙ eqb-swap home other ∙ differ

-- none of the oplocks of another home is its handle's
none-at : (handles : List (ℕ × Handle)) (rows : List Oplock) (handle home other : ℕ) → home_of_handle handles handle ≡ Some home → (other == home) ≡ false
    → NoneOf handle (filter (is_home_to handles other) rows)
none-at handles rows handle home other found differ =
    filter-passes (is_home_to handles other) (λ (o : Oplock). (o.handle == handle) ≡ false) rows
    (λ o at. elim (cases_Bool (o.handle == handle)) [
      | inl is ↦ (let same : o.handle ≡ handle = eqb-true o.handle handle is in
          absurd (both_ways _ (rw (← same) at (other-home handles handle home other found differ)) at))
      | inr not ↦ not
    ])

-- ---- in step

-- what is done to the oplock of a handle in the list, and in the table of its home
pub sorted-local : (handles : List (ℕ × Handle)) (rows : List Oplock) (old new : List (ℕ × State)) (handle home last taken : ℕ) (change : List Oplock → List Oplock) → IsLocal handle change
    → home_of_handle handles handle ≡ Some home → AreSorted handles rows old → IsStep old new home (change (rows_at old home)) last taken → AreSorted handles (change rows) new
sorted-local handles rows old new handle home last taken change local found sorted step = record {
  each = λ other. elim (cases_Bool (other == home)) [
    | inl here ↦ (let is : other ≡ home = eqb-true other home here in
        rw is (step.here ∙ ap change (sorted.each home) ∙ sym (local.sorts handles home rows)))
    | inr differ ↦ step.other_rows other differ ∙ sorted.each other
        ∙ sym (local.stays (filter (is_home_to handles other) rows) (none-at handles rows handle home other found differ))
        ∙ sym (local.sorts handles other rows)
  ];
  homes = local.homes handles rows sorted.homes;
}

-- a handle that is at home nowhere has no oplock
pub none-homeless : (handles : List (ℕ × Handle)) (rows : List Oplock) (handle : ℕ) → HaveHomes handles rows → home_of_handle handles handle ≡ None → NoneOf handle rows
none-homeless handles rows handle homes none k d within = elim (cases_Bool ((get_or rows k d).handle == handle)) [
  | inl is ↦ (let same : (get_or rows k d).handle ≡ handle = eqb-true _ _ is in
      let home : IsSome (home_of_handle handles handle) = subst (λ (h : ℕ). IsSome (home_of_handle handles h)) same (homes k d within) in
      absurd (no_home (home_of_handle handles handle) none home))
  | inr other ↦ other
]
  where
    no_home : (home : Option ℕ) → home ≡ None → IsSome home → ⊥
    no_home None none some = (let impossible : false ≡ true = some in cc)
    no_home (Some home) none some = (let impossible : Some home ≡ None = none in cc)

pub sorted-homeless : (handles : List (ℕ × Handle)) (rows : List Oplock) (tables : List (ℕ × State)) (handle : ℕ) (change : List Oplock → List Oplock) → IsLocal handle change
    → home_of_handle handles handle ≡ None → AreSorted handles rows tables → AreSorted handles (change rows) tables
sorted-homeless handles rows tables handle change local none sorted =
    rw (local.stays rows (none-homeless handles rows handle sorted.homes none)) sorted

-- ---- one that is broken

-- it has a home
pub there-home : (handles : List (ℕ × Handle)) (rows : List Oplock) (o : Oplock) → HaveHomes handles rows → filter (λ (x : Oplock). x.handle == o.handle) rows ≡ o ∷ []
    → IsSome (home_of_handle handles o.handle)
there-home handles rows o homes there =
    subst (HaveHomes handles) there (All-filter (λ (x : Oplock). x.handle == o.handle) (λ (x : Oplock). IsSome (home_of_handle handles x.handle)) rows homes) 0 o (omega arith)

-- it is there in the table of its home
pub there-at : (handles : List (ℕ × Handle)) (rows : List Oplock) (o : Oplock) (home : ℕ) → home_of_handle handles o.handle ≡ Some home
    → filter (λ (x : Oplock). x.handle == o.handle) rows ≡ o ∷ [] → filter (λ (x : Oplock). x.handle == o.handle) (filter (is_home_to handles home) rows) ≡ o ∷ []
there-at handles rows o home found there =
    let here : is_home_to handles home o ≡ true = own-home handles o.handle home found in
    filter-swap (λ (x : Oplock). x.handle == o.handle) (is_home_to handles home) rows
    ∙ ap (filter (is_home_to handles home)) there
    ∙ rw here refl

-- ---- those that are chosen

pairs-cons : {X : Type 0} (R : X → X → Type 0) (x : X) (xs : List X) → All (R x) xs → AllPairs R xs → AllPairs R (x ∷ xs)
pairs-cons R x xs first pairs zero zero d below within = absurd (omega arith)
pairs-cons R x xs first pairs zero (suc j) d below within = first j d (omega arith)
pairs-cons R x xs first pairs (suc i) zero d below within = absurd (omega arith)
pairs-cons R x xs first pairs (suc i) (suc j) d below within = pairs i j d (omega arith) (omega arith)

put-all : {X : Type 0} (P : X → Type 0) (before : X → X → Bool) (x : X) (xs : List X) → P x → All P xs → All P (put_in_order before x xs)
put-all P before x [] here all = All-cons P x [] here all
put-all P before x (y ∷ ys) here all = elim (cases_Bool (before x y)) [
  | inl first ↦ rw first (All-cons P x (y ∷ ys) here all)
  | inr later ↦ rw later (All-cons P y (put_in_order before x ys) (all 0 y (omega arith)) (put-all P before x ys here (λ k d within. all (suc k) d (omega arith))))
]

pairs-put : {X : Type 0} (R : X → X → Type 0) (before : X → X → Bool) → ((a b : X) → R a b → R b a) → (x : X) (xs : List X) → All (R x) xs → AllPairs R xs → AllPairs R (put_in_order before x xs)
pairs-put R before swap x [] first pairs = pairs-cons R x [] first pairs
pairs-put R before swap x (y ∷ ys) first pairs = elim (cases_Bool (before x y)) [
  | inl comes ↦ rw comes (pairs-cons R x (y ∷ ys) first pairs)
  | inr later ↦ rw later (pairs-cons R y (put_in_order before x ys)
      (put-all (R y) before x ys (swap x y (first 0 y (omega arith))) (λ k d within. pairs 0 (suc k) d (omega arith) (omega arith)))
      (pairs-put R before swap x ys (λ k d within. first (suc k) d (omega arith)) (λ i j d below within. pairs (suc i) (suc j) d (omega arith) (omega arith))))
]

pairs-in_order : {X : Type 0} (R : X → X → Type 0) (before : X → X → Bool) → ((a b : X) → R a b → R b a) → (xs : List X) → AllPairs R xs → AllPairs R (in_order before xs)
pairs-in_order R before swap [] pairs = pairs
pairs-in_order R before swap (x ∷ xs) pairs =
    pairs-put R before swap x (in_order before xs)
    (All-in_order (R x) before xs (λ k d within. pairs 0 (suc k) d (omega arith) (omega arith)))
    (pairs-in_order R before swap xs (λ i j d below within. pairs (suc i) (suc j) d (omega arith) (omega arith)))

pairs-filter : {X : Type 0} (R : X → X → Type 0) (p : X → Bool) (xs : List X) → AllPairs R xs → AllPairs R (filter p xs)
pairs-filter R p [] pairs = pairs
pairs-filter R p (x ∷ xs) pairs = elim (cases_Bool (p x)) [
  | inl passes ↦ rw passes (pairs-cons R x (filter p xs) (All-filter p (R x) xs (λ k d within. pairs 0 (suc k) d (omega arith) (omega arith)))
      (pairs-filter R p xs (λ i j d below within. pairs (suc i) (suc j) d (omega arith) (omega arith))))
  | inr fails ↦ rw fails (pairs-filter R p xs (λ i j d below within. pairs (suc i) (suc j) d (omega arith) (omega arith)))
]

abbrev Apart : Oplock → Oplock → Type 0
Apart a b = (a.handle == b.handle) ≡ false

-- where no two are of one handle each is there once
pub once : (rows : List Oplock) → AllPairs Apart rows → All (λ (o : Oplock). filter (λ (x : Oplock). x.handle == o.handle) rows ≡ o ∷ []) rows
once [] differ k d within = absurd (omega arith)
once (x ∷ rows) differ zero d within =
    let none : NoneOf x.handle rows = λ k e inside. eqb-swap (get_or rows k e).handle x.handle ∙ differ 0 (suc k) e (omega arith) (omega arith) in
    rw (eq-eqb x.handle x.handle refl) (rw (filter-none (λ (o : Oplock). o.handle == x.handle) rows none) refl)
once (x ∷ rows) differ (suc k) d within =
    let apart : (x.handle == (get_or rows k d).handle) ≡ false = differ 0 (suc k) d (omega arith) (omega arith) in
    rw apart (once rows (λ i j e below inside. differ (suc i) (suc j) e (omega arith) (omega arith)) k d (omega arith))

-- those that are chosen of a list are there
pub chosen-there : (before : Oplock → Oplock → Bool) (p : Oplock → Bool) (rows : List Oplock) → AllPairs Apart rows → AreThere rows (in_order before (filter p rows))
chosen-there before p rows differ = record {
  each = All-in_order (λ (o : Oplock). filter (λ (x : Oplock). x.handle == o.handle) rows ≡ o ∷ []) before (filter p rows)
      (All-filter p (λ (o : Oplock). filter (λ (x : Oplock). x.handle == o.handle) rows ≡ o ∷ []) rows (once rows differ));
  differ = pairs-in_order Apart before (λ a b apart. eqb-swap b.handle a.handle ∙ apart) (filter p rows) (pairs-filter Apart p rows differ);
}

-- ---- a grant

-- what switches leave of those on one stream
switches-sort : (p : Oplock → Bool) (rows switched : List Oplock) → filter p (after_switches rows switched) ≡ after_switches (filter p rows) switched
switches-sort p rows [] = refl
switches-sort p rows (o ∷ switched) =
    switches-sort p (without_oplock_of o.handle rows) switched
    ∙ ap (λ (now : List Oplock). after_switches now switched) (filter-swap p (λ (x : Oplock). not (x.handle == o.handle)) rows)

switches-stay : (rows switched : List Oplock) → All (λ (o : Oplock). NoneOf o.handle rows) switched → after_switches rows switched ≡ rows
switches-stay rows [] none = refl
switches-stay rows (o ∷ switched) none =
    ap (λ (now : List Oplock). after_switches now switched) (IsLocal.stays (local-without o.handle) rows (none 0 o (omega arith)))
    ∙ switches-stay rows switched (λ k d within. none (suc k) d (omega arith))

switches-homes : (handles : List (ℕ × Handle)) (rows switched : List Oplock) → HaveHomes handles rows → HaveHomes handles (after_switches rows switched)
switches-homes handles rows [] homes = homes
switches-homes handles rows (o ∷ switched) homes = switches-homes handles (without_oplock_of o.handle rows) switched (IsLocal.homes (local-without o.handle) handles rows homes)

-- two tests by homes that differ aren't both passed
not-both : (handles : List (ℕ × Handle)) (o x : Oplock) (home other : ℕ) → is_home_to handles home o ≡ true → is_home_to handles other x ≡ true → (other == home) ≡ false → (x.handle == o.handle) ≡ false
not-both handles o x home other at at_other differ = elim (cases_Bool (x.handle == o.handle)) [
  | inr not ↦ not
  | inl is ↦ (let same : x.handle ≡ o.handle = eqb-true x.handle o.handle is in
      let here : option_map_or (λ own. own == other) (home_of_handle handles o.handle) false ≡ true = rw same at at_other in
      absurd (no_two (home_of_handle handles o.handle) here at))
]
  where
    no_two : (own : Option ℕ) → option_map_or (λ h. h == other) own false ≡ true → option_map_or (λ h. h == home) own false ≡ true → ⊥
    no_two None a b = (let impossible : false ≡ true = a in cc)
    no_two (Some h) a b =
        let is : h ≡ other = eqb-true h other a in
        both_ways (other == home) differ (ap (λ (t : ℕ). t == home) (sym is) ∙ b)

and-left : (a b : Bool) → (a && b) ≡ true → a ≡ true
and-left true b is = refl
and-left false b is = is

-- homes of streams differ as their numbers do
pub homes-differ : (a b : ℕ) → (home_of_stream a == home_of_stream b) ≡ (a == b)
homes-differ a b = elim (cases_Bool (a == b)) [
  | inl is ↦ (let same : a ≡ b = eqb-true a b is in
      let doubled : home_of_stream a ≡ home_of_stream b = ap home_of_stream same in
      eq-eqb (home_of_stream a) (home_of_stream b) doubled ∙ sym is)
  | inr differ ↦ elim (cases_Bool (home_of_stream a == home_of_stream b)) [
    | inr not ↦ not ∙ sym differ
    | inl is ↦ (let doubled : 2 * a ≡ 2 * b = eqb-true (2 * a) (2 * b) is in
        let same : a ≡ b = omega arith in
        absurd (both_ways (a == b) differ (eq-eqb a b same)))
  ]
]

-- the oplocks of a stream's home are those on the stream
at-home : (handles : List (ℕ × Handle)) (stream : ℕ) (o : Oplock) → is_home_to handles (home_of_stream stream) o ≡ is_oplock_of_stream handles stream o
at-home handles stream o = elim (option_cases (row_of handles o.handle)) [
  | inl none ↦ rw none refl
  | inr some ↦ rw some.1 (by_stream some.0.stream)
]
  where
    by_stream : (own : Option ℕ) → option_map_or (λ (h : ℕ). h == home_of_stream stream) (option_map home_of_stream own) false ≡ option_map_or (λ (s : ℕ). s == stream) own false
    by_stream None = refl
    by_stream (Some s) = homes-differ s stream

filter-alike : (p q : Oplock → Bool) (rows : List Oplock) → ((o : Oplock) → p o ≡ q o) → filter p rows ≡ filter q rows
filter-alike p q [] same = refl
filter-alike p q (o ∷ rows) same = elim (cases_Bool (q o)) [
  | inl passes ↦ rw (same o, passes) (ap (λ rest. o ∷ rest) (filter-alike p q rows same))
  | inr fails ↦ rw (same o, fails) (filter-alike p q rows same)
]

-- the table of a stream's home has the oplocks on the stream
pub rows-on : (handles : List (ℕ × Handle)) (rows : List Oplock) (tables : List (ℕ × State)) (stream : ℕ) → AreSorted handles rows tables → rows_at tables (home_of_stream stream) ≡ filter (is_oplock_of_stream handles stream) rows
rows-on handles rows tables stream sorted =
    sorted.each (home_of_stream stream) ∙ filter-alike (is_home_to handles (home_of_stream stream)) (is_oplock_of_stream handles stream) rows (at-home handles stream)

switched-alike : (handles : List (ℕ × Handle)) (stream handle key : ℕ) (rows : List Oplock)
    → switched_among (is_home_to handles (home_of_stream stream)) handle key rows ≡ switched_among (is_oplock_of_stream handles stream) handle key rows
switched-alike handles stream handle key rows =
    filter-alike (λ o. is_home_to handles (home_of_stream stream) o && is_of_key handle key o) (λ o. is_oplock_of_stream handles stream o && is_of_key handle key o) rows
    (λ o. ap (λ at. at && is_of_key handle key o) (at-home handles stream o))

-- one that is granted in the list, and in the table of its home
sorted-granted : (handles : List (ℕ × Handle)) (rows : List Oplock) (old new : List (ℕ × State)) (handle key home : ℕ) (level : Level) (turn last taken : ℕ) → home_of_handle handles handle ≡ Some home
    → AreSorted handles rows old → IsStep old new home (after_grant (λ _. true) handle key level turn (rows_at old home)) last taken
    → AreSorted handles (after_grant (is_home_to handles home) handle key level turn rows) new
sorted-granted handles rows old new handle key home level turn last taken found sorted step = record {
  each = λ other. elim (cases_Bool (other == home)) [
    | inl here ↦ (let is : other ≡ home = eqb-true other home here in rw is own)
    | inr differ ↦ step.other_rows other differ ∙ sorted.each other ∙ sym (beside other differ)
  ];
  homes = All-push (λ (o : Oplock). IsSome (home_of_handle handles o.handle)) (after_switches rows switched) granted (switches-homes handles rows switched sorted.homes) (rw found refl);
}
  where
    switched : List Oplock
    switched = switched_among (is_home_to handles home) handle key rows

    granted : Oplock
    granted = as_granted handle key level turn

    parts : (other : ℕ) → filter (is_home_to handles other) (after_switches rows switched ++ granted ∷ []) ≡ after_switches (filter (is_home_to handles other) rows) switched ++ filter (is_home_to handles other) (granted ∷ [])
    parts other = filter-append (is_home_to handles other) (after_switches rows switched) (granted ∷ [])
        ∙ ap (λ (now : List Oplock). now ++ filter (is_home_to handles other) (granted ∷ [])) (switches-sort (is_home_to handles other) rows switched)

    own : rows_at new home ≡ filter (is_home_to handles home) (after_switches rows switched ++ granted ∷ [])
    own =
        let at : is_home_to handles home granted ≡ true = own-home handles handle home found in
        let last_one : filter (is_home_to handles home) (granted ∷ []) ≡ granted ∷ [] = rw at refl in
        step.here ∙ ap (after_grant (λ _. true) handle key level turn) (sorted.each home)
        ∙ ap (λ (s : List Oplock). after_switches (filter (is_home_to handles home) rows) s ++ granted ∷ []) (switched-on (is_home_to handles home) handle key rows)
        ∙ ap (λ (end : List Oplock). after_switches (filter (is_home_to handles home) rows) switched ++ end) (sym last_one)
        ∙ sym (parts home)

    beside : (other : ℕ) → (other == home) ≡ false → filter (is_home_to handles other) (after_switches rows switched ++ granted ∷ []) ≡ filter (is_home_to handles other) rows
    beside other differ =
        let at : is_home_to handles other granted ≡ false = other-home handles handle home other found differ in
        let no_one : filter (is_home_to handles other) (granted ∷ []) ≡ [] = rw at refl in
        let apart = filter-passes (λ (o : Oplock). is_home_to handles home o && is_of_key handle key o) (λ (o : Oplock). NoneOf o.handle (filter (is_home_to handles other) rows)) rows
        (λ o passes. filter-passes (is_home_to handles other) (λ (x : Oplock). (x.handle == o.handle) ≡ false) rows
        (λ x at_other. not-both handles o x home other (and-left _ _ passes) at_other differ)) in
        parts other
        ∙ ap (λ (end : List Oplock). after_switches (filter (is_home_to handles other) rows) switched ++ end) no_one
        ∙ append-nil _
        ∙ switches-stay (filter (is_home_to handles other) rows) switched apart

-- one that is granted in the list on a stream, and in the table of the stream's home
pub sorted-grant : (handles : List (ℕ × Handle)) (rows : List Oplock) (old new : List (ℕ × State)) (handle key stream : ℕ) (level : Level) (turn last taken : ℕ) → stream_of_handle handles handle ≡ Some stream
    → AreSorted handles rows old → IsStep old new (home_of_stream stream) (after_grant (λ _. true) handle key level turn (rows_at old (home_of_stream stream))) last taken
    → AreSorted handles (after_grant (is_oplock_of_stream handles stream) handle key level turn rows) new
sorted-grant handles rows old new handle key stream level turn last taken found sorted step =
    subst (λ (switched : List Oplock). AreSorted handles (after_switches rows switched ++ as_granted handle key level turn ∷ []) new) (switched-alike handles stream handle key rows)
    (sorted-granted handles rows old new handle key (home_of_stream stream) level turn last taken (home-found handles handle stream found) sorted step)

-- ---- room and answers

-- the same oplocks in the tables
pub sorted-same : (handles : List (ℕ × Handle)) (rows : List Oplock) (old new : List (ℕ × State)) (key last taken : ℕ) → IsStep old new key (rows_at old key) last taken → AreSorted handles rows old → AreSorted handles rows new
sorted-same handles rows old new key last taken step sorted = record {
  each = λ home. elim (cases_Bool (home == key)) [
    | inl here ↦ (let is : home ≡ key = eqb-true home key here in rw is (step.here ∙ sorted.each key))
    | inr other ↦ step.other_rows home other ∙ sorted.each home
  ];
  homes = sorted.homes;
}

-- what may stay of the oplock of a handle, by the table of its home
pub target-at : (handles : List (ℕ × Handle)) (rows : List Oplock) (tables : List (ℕ × State)) (handle home : ℕ) → home_of_handle handles handle ≡ Some home → AreSorted handles rows tables
    → target_among handle (rows_at tables home) ≡ target_among handle rows
target-at handles rows tables handle home found sorted =
    ap (target_among handle) (sorted.each home)
    ∙ ap (option_and_then (λ (o : Oplock). o.target))
    (find-filter (λ (o : Oplock). o.handle == handle) (is_home_to handles home) rows
    (λ k d within is. (let same : (get_or rows k d).handle ≡ handle = eqb-true _ _ is in rw same (own-home handles handle home found))))

-- none, of one that has no home
pub target-homeless : (handles : List (ℕ × Handle)) (rows : List Oplock) (handle : ℕ) → home_of_handle handles handle ≡ None → HaveHomes handles rows → target_among handle rows ≡ None
target-homeless handles rows handle none homes = ap (option_and_then (λ (o : Oplock). o.target)) (no_one rows (none-homeless handles rows handle homes none))
  where
    no_one : (xs : List Oplock) → NoneOf handle xs → find (λ (o : Oplock). o.handle == handle) xs ≡ None
    no_one [] not = refl
    no_one (x ∷ xs) not =
        let here : (x.handle == handle) ≡ false = not 0 x (omega arith) in
        rw here (no_one xs (λ k d within. not (suc k) d (omega arith)))

-- ---- the room and the numbers of the tables

-- where no room is taken and no break begins
pub fit-step : (rooms : List (ℕ × ℕ)) (last : ℕ) (old new : List (ℕ × State)) (key : ℕ) (rows : List Oplock) → IsStep old new key rows (last_at old key) 0 → FitTables rooms last old → FitTables rooms last new
fit-step rooms last old new key rows step fit = record {
  room = λ other. elim (cases_Bool (other == key)) [
    | inl here ↦ (let is : other ≡ key = eqb-true other key here in let had = fit.room key in let has = step.room in rw is (omega arith))
    | inr beside ↦ (let had = fit.room other in let same = step.other_rooms other beside in omega arith)
  ];
  numbers = λ other. elim (cases_Bool (other == key)) [
    | inl here ↦ (let is : other ≡ key = eqb-true other key here in let had = fit.numbers key in let has = step.number in rw is (omega arith))
    | inr beside ↦ (let had = fit.numbers other in let same = step.other_lasts other beside in omega arith)
  ];
}

-- where more is promised to one, as its table has
pub fit-promised : (rooms more : List (ℕ × ℕ)) (last : ℕ) (tables : List (ℕ × State)) (key room : ℕ) → room_in more key ≤ max (room_in rooms key) room → ((other : ℕ) → (other == key) ≡ false → room_in more other ≡ room_in rooms other)
    → room ≤ room_at tables key → FitTables rooms last tables → FitTables more last tables
fit-promised rooms more last tables key room most others there fit = record {
  room = λ other. elim (cases_Bool (other == key)) [
    | inl here ↦ (let is : other ≡ key = eqb-true other key here in let had = fit.room key in rw is (omega arith))
    | inr beside ↦ (let had = fit.room other in let same = others other beside in omega arith)
  ];
  numbers = fit.numbers;
}

-- where one takes its room
pub fit-taken : (rooms less : List (ℕ × ℕ)) (last : ℕ) (old new : List (ℕ × State)) (key : ℕ) (rows : List Oplock) → IsStep old new key rows (last_at old key) 1 → room_in less key + 1 ≤ room_in rooms key
    → ((other : ℕ) → (other == key) ≡ false → room_in less other ≡ room_in rooms other) → FitTables rooms last old → FitTables less last new
fit-taken rooms less last old new key rows step taken others fit = record {
  room = λ other. elim (cases_Bool (other == key)) [
    | inl here ↦ (let is : other ≡ key = eqb-true other key here in let had = fit.room key in let has = step.room in rw is (omega arith))
    | inr beside ↦ (let had = fit.room other in let same = step.other_rooms other beside in let kept = others other beside in omega arith)
  ];
  numbers = λ other. elim (cases_Bool (other == key)) [
    | inl here ↦ (let is : other ≡ key = eqb-true other key here in let had = fit.numbers key in let has = step.number in rw is (omega arith))
    | inr beside ↦ (let had = fit.numbers other in let same = step.other_lasts other beside in omega arith)
  ];
}

-- ---- the oplock of a handle that may have no home

pub fit-dropped : (rooms : List (ℕ × ℕ)) (last : ℕ) (old new : List (ℕ × State)) (home : Option ℕ) (rows : ℕ → List Oplock) → ForSome home (λ own. IsStep old new own (rows own) (last_at old own) 0) → IfNone home (new ≡ old)
    → FitTables rooms last old → FitTables rooms last new
fit-dropped rooms last old new None rows own none fit = rw none fit
fit-dropped rooms last old new (Some home) rows own none fit = fit-step rooms last old new home (rows home) (own home refl) fit

pub sorted-dropped : (handles : List (ℕ × Handle)) (rows : List Oplock) (old new : List (ℕ × State)) (handle : ℕ) (home : Option ℕ) → home_of_handle handles handle ≡ home
    → ForSome home (λ own. IsStep old new own (without_oplock_of handle (rows_at old own)) (last_at old own) 0) → IfNone home (new ≡ old) → AreSorted handles rows old → AreSorted handles (without_oplock_of handle rows) new
sorted-dropped handles rows old new handle None is own none sorted = rw none (sorted-homeless handles rows old handle (without_oplock_of handle) (local-without handle) is sorted)
sorted-dropped handles rows old new handle (Some home) is own none sorted =
    sorted-local handles rows old new handle home (last_at old home) 0 (without_oplock_of handle) (local-without handle) is sorted (own home refl)

-- what an answer leaves, by what it keeps
pub kept-rows : (level kept : Level) (left : Level → List Oplock) (none : List Oplock) (target : Option Level) → Some kept ≡ option_map (λ told. in_both level told) target
    → option_map_or (λ told. left (in_both level told)) target none ≡ left kept
kept-rows level kept left none None is = ap (λ (o : Option Level). option_map_or left o none) (sym is)
kept-rows level kept left none (Some told) is = ap (λ (o : Option Level). option_map_or left o none) (sym is)
