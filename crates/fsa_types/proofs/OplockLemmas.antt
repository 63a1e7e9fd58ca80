-- Laws of lists of oplocks: they stay sound as breaks begin in them, go on and end.
use Rattle.std.proofs.Common.{◌≡◌, ◌++◌, ℕ, suc, ◌+◌, ◌<◌, ◌≤◌, Bool, true, false, not, List, [], ◌∷◌, length, get_or, refl, ap, sym, ◌∙◌, arith, inl, inr, Option, Some, None}
use Rattle.std.specs.List.{All, AllPairs}
use Rattle.std.specs.Option.{option_map_or}
use Rattle.std.specs.Prelude.{◌==◌, ◌&&◌, ◌||◌, is_some, filter, map}
use Rattle.std.proofs.lemmas.Bool.{cases_Bool, cases_lt, eq-eqb, eqb-true, ne_eqb, both_ways}
use Rattle.std.proofs.lemmas.List.{get_or-map, get_or_default, length-map}
use Rattle.std.proofs.lemmas.List.Elements.{All-nil, All-push, All-cons, All-map, All-filter}
use Rattle.std.proofs.lemmas.List.Kept.{AllPairs-filter}
use Rattle.std.proofs.lemmas.List.Quantifiers.{all_pairs_push}
use Rattle.fsa_types.specs.OplockGrants.{as_granted, as_answered}
use Rattle.fsa_types.specs.OplockLists.{OplockState, break_begun, lowered, after_effect, effect_on, after_breaks, IsSoundOplock, AreOplocks, CanBegin, CanGoOn, CanHave, IsLater, IsCopy}
use Rattle.fsa_types.specs.Oplocks.{Oplock, Effect, Stays, Ends, Begins, Lowers, effect, has_read, has_write, has_handle, level_with, in_both, is_within, keep}
use Rattle.fsa_types.specs.Sorting.{put_in_order, in_order}
use Rattle.fsa_types.specs.declared.oplock.Class.{Class}
use Rattle.fsa_types.specs.declared.request.Level.{Level}
use Rattle.fsa_types.specs.declared.request.Level.TheVariants.{Nil, R, RH, RW, RWH}

-- ---- levels

-- a level is within itself
pub within-same : (level : Level) → is_within level level ≡ true
within-same Nil = refl
within-same R = refl
within-same RH = refl
within-same RW = refl
within-same RWH = refl

-- what is in both of two levels is within what one of them is within
pub within-both : (a b c : Level) → is_within a c ≡ true → is_within (in_both a b) c ≡ true
within-both a b c inside =
    let reads : Bool = not (has_read a) || has_read c in
    let writes : Bool = not (has_write a) || has_write c in
    let handles : Bool = not (has_handle a) || has_handle c in
    elim (cases_Bool (has_read a && has_read b)) [
      | inl read ↦ rw read (made (has_write a && has_write b) (has_handle a && has_handle b)
          (read_of (has_read a) (has_read b) (has_read c) read (part_one reads writes handles inside))
          (less (has_write a) (has_write b) (has_write c) (part_two reads writes handles inside))
          (less (has_handle a) (has_handle b) (has_handle c) (part_three reads writes handles inside)))
      | inr none ↦ rw none refl
    ]
  where
    part_one : (p q r : Bool) → (p && q && r) ≡ true → p ≡ true
    part_one true q r is = refl
    part_one false q r is = cc

    part_two : (p q r : Bool) → (p && q && r) ≡ true → q ≡ true
    part_two true true r is = refl
    part_two true false r is = is
    part_two false q r is = cc

    part_three : (p q r : Bool) → (p && q && r) ≡ true → r ≡ true
    part_three true true r is = is
    part_three true false r is = cc
    part_three false q r is = cc

    read_of : (p q r : Bool) → (p && q) ≡ true → (not p || r) ≡ true → r ≡ true
    read_of true q r both is = is
    read_of false q r both is = cc

    less : (p q r : Bool) → (not p || r) ≡ true → (not (p && q) || r) ≡ true
    less true true r is = is
    less true false r is = refl
    less false q r is = refl

    made : (write handle : Bool) → has_read c ≡ true → (not write || has_write c) ≡ true → (not handle || has_handle c) ≡ true → is_within (level_with write handle) c ≡ true
    made true true read write handle = rw (read, write, handle) refl
    made true false read write handle = rw (read, write) refl
    made false true read write handle = rw (read, handle) refl
    made false false read write handle = rw read refl

-- ---- lists

pub AllPairs-map : {X Y : Type 0} (P : Y → Y → Type 0) (f : X → Y) (xs : List X) → AllPairs (λ a b. P (f a) (f b)) xs → AllPairs P (map f xs)
AllPairs-map P f [] pairs j k d below within = absurd (omega arith)
AllPairs-map {X} P f (x ∷ xs) pairs j k d below within =
    let bound : k < length (x ∷ xs) = omega (arith, length-map (x ∷ xs) f) in
    rw (get_or-map f (x ∷ xs) j x d (omega arith), get_or-map f (x ∷ xs) k x d bound) (pairs j k x below bound)

put_in_order-all : {X : Type 0} (P : X → Type 0) (before : X → X → Bool) (x : X) (xs : List X) → P x → All P xs → All P (put_in_order before x xs)
put_in_order-all P before x [] here all = All-cons P x [] here all
put_in_order-all P before x (y ∷ ys) here all = elim (cases_Bool (before x y)) [
  | inl first ↦ rw first (All-cons P x (y ∷ ys) here all)
  | inr later ↦ rw later (All-cons P y (put_in_order before x ys) (all 0 y (omega arith)) (put_in_order-all P before x ys here (λ k d within. all (suc k) d (omega arith))))
]

-- what is true of all items is so once they are in order
pub All-in_order : {X : Type 0} (P : X → Type 0) (before : X → X → Bool) (xs : List X) → All P xs → All P (in_order before xs)
All-in_order P before [] all = all
All-in_order P before (x ∷ xs) all =
    put_in_order-all P before x (in_order before xs) (all 0 x (omega arith)) (All-in_order P before xs (λ k d within. all (suc k) d (omega arith)))

-- ---- one effect

begun-handle : (handle : ℕ) (level : Level) (number : ℕ) (o : Oplock) → (break_begun handle level number o).handle ≡ o.handle
begun-handle handle level number o = elim (cases_Bool (o.handle == handle)) [ inl here ↦ rw here refl | inr other ↦ rw other refl ]

lowered-handle : (handle : ℕ) (level : Level) (o : Oplock) → (lowered handle level o).handle ≡ o.handle
lowered-handle handle level o = elim (cases_Bool (o.handle == handle)) [ inl here ↦ rw here refl | inr other ↦ rw other refl ]

-- two that are of one handle
same_handle : (a b handle : ℕ) → (a == handle) ≡ true → (b == handle) ≡ true → (a == b) ≡ true
same_handle a b handle is_a is_b =
    let one : a ≡ handle = eqb-true a handle is_a in
    let two : b ≡ handle = eqb-true b handle is_b in
    eq-eqb a b (omega arith)

pub AreOplocks-nil : (last : ℕ) → AreOplocks [] last
AreOplocks-nil last = record {
  each = All-nil IsSoundOplock;
  handles_differ = λ i j d below within. absurd (omega arith);
  numbers_differ = λ i j d below within. absurd (omega arith);
  numbers_given = All-nil (λ o. o.number ≤ last);
}

-- an oplock taken out, or more of them
pub AreOplocks-filter : (p : Oplock → Bool) (oplocks : List Oplock) (last : ℕ) → AreOplocks oplocks last → AreOplocks (filter p oplocks) last
AreOplocks-filter p oplocks last are = record {
  each = All-filter p IsSoundOplock oplocks are.each;
  handles_differ = AllPairs-filter (λ a b. (a.handle == b.handle) ≡ false) p oplocks are.handles_differ;
  numbers_differ = AllPairs-filter (λ a b. (is_some a.target && a.number == b.number) ≡ false) p oplocks are.numbers_differ;
  numbers_given = All-filter p (λ o. o.number ≤ last) oplocks are.numbers_given;
}

AreOplocks-begun : (handle : ℕ) (level : Level) (oplocks : List Oplock) (last : ℕ) → CanBegin level handle oplocks → AreOplocks oplocks last
    → AreOplocks (map (break_begun handle level (last + 1)) oplocks) (last + 1)
AreOplocks-begun handle level oplocks last can are = record {
  each = All-map IsSoundOplock (break_begun handle level (last + 1)) oplocks (λ k d within. elim (cases_Bool ((get_or oplocks k d).handle == handle)) [
    | inl here ↦ rw here (record {
      has_number = rw (ne_eqb (last + 1) 0 (λ e. absurd (omega arith))) refl;
      has_call = refl;
      target_within = can k d within here;
    })
    | inr other ↦ rw other (are.each k d within)
  ]);
  handles_differ = AllPairs-map (λ a b. (a.handle == b.handle) ≡ false) (break_begun handle level (last + 1)) oplocks
      (λ i j d below within. rw (begun-handle handle level (last + 1) (get_or oplocks i d), begun-handle handle level (last + 1) (get_or oplocks j d)) (are.handles_differ i j d below within));
  numbers_differ = AllPairs-map (λ a b. (is_some a.target && a.number == b.number) ≡ false) (break_begun handle level (last + 1)) oplocks
      (λ i j d below within. elim (cases_Bool ((get_or oplocks i d).handle == handle)) [
        | inl first ↦ elim (cases_Bool ((get_or oplocks j d).handle == handle)) [
          | inl second ↦ absurd (both_ways _ (are.handles_differ i j d below within) (same_handle _ _ handle first second))
          | inr other ↦ (let given = are.numbers_given j d within in
              rw (first, other) (ne_eqb (last + 1) (get_or oplocks j d).number (λ e. absurd (omega arith))))
        ]
        | inr other ↦ elim (cases_Bool ((get_or oplocks j d).handle == handle)) [
          | inl second ↦ (let given = are.numbers_given i d (omega arith) in
              rw (other, second) (no_right (is_some (get_or oplocks i d).target) _ (ne_eqb (get_or oplocks i d).number (last + 1) (λ e. absurd (omega arith)))))
          | inr neither ↦ rw (other, neither) (are.numbers_differ i j d below within)
        ]
      ]);
  numbers_given = All-map (λ o. o.number ≤ last + 1) (break_begun handle level (last + 1)) oplocks (λ k d within. elim (cases_Bool ((get_or oplocks k d).handle == handle)) [
    | inl here ↦ rw here (omega arith)
    | inr other ↦ (let given = are.numbers_given k d within in rw other (omega arith))
  ]);
}
  where
    no_right : (b c : Bool) → c ≡ false → (b && c) ≡ false
    no_right true c is = is
    no_right false c is = refl

AreOplocks-lowered : (handle : ℕ) (level : Level) (oplocks : List Oplock) (last : ℕ) → CanGoOn level handle oplocks → AreOplocks oplocks last
    → AreOplocks (map (lowered handle level) oplocks) last
AreOplocks-lowered handle level oplocks last can are = record {
  each = All-map IsSoundOplock (lowered handle level) oplocks (λ k d within. elim (cases_Bool ((get_or oplocks k d).handle == handle)) [
    | inl here ↦ (let had = can k d within here in let was = are.each k d within in rw here (record {
      has_number = was.has_number ∙ had.1;
      has_call = was.has_call ∙ ap not had.1;
      target_within = had.0;
    }))
    | inr other ↦ rw other (are.each k d within)
  ]);
  handles_differ = AllPairs-map (λ a b. (a.handle == b.handle) ≡ false) (lowered handle level) oplocks
      (λ i j d below within. rw (lowered-handle handle level (get_or oplocks i d), lowered-handle handle level (get_or oplocks j d)) (are.handles_differ i j d below within));
  numbers_differ = AllPairs-map (λ a b. (is_some a.target && a.number == b.number) ≡ false) (lowered handle level) oplocks
      (λ i j d below within. rw (lowered-number (get_or oplocks j d)) (elim (cases_Bool ((get_or oplocks i d).handle == handle)) [
        | inl here ↦ (let had = can i d (omega arith) here in rw here (rw had.1 at (are.numbers_differ i j d below within)))
        | inr other ↦ rw other (are.numbers_differ i j d below within)
      ]));
  numbers_given = All-map (λ o. o.number ≤ last) (lowered handle level) oplocks (λ k d within. rw (lowered-number (get_or oplocks k d)) (are.numbers_given k d within));
}
  where
    lowered-number : (o : Oplock) → (lowered handle level o).number ≡ o.number
    lowered-number o = elim (cases_Bool (o.handle == handle)) [ inl here ↦ rw here refl | inr other ↦ rw other refl ]

-- an effect that can be had leaves the oplocks sound
pub AreOplocks-effect : (done : Effect) (handle : ℕ) (held : OplockState) → CanHave done handle held.oplocks → AreOplocks held.oplocks held.last_break
    → AreOplocks (after_effect done handle held).oplocks (after_effect done handle held).last_break
AreOplocks-effect Stays handle held can are = are
AreOplocks-effect Ends handle held can are = AreOplocks-filter (λ o. not (o.handle == handle)) held.oplocks held.last_break are
AreOplocks-effect (Begins level) handle held can are = AreOplocks-begun handle level held.oplocks held.last_break can are
AreOplocks-effect (Lowers level) handle held can are = AreOplocks-lowered handle level held.oplocks held.last_break can are

-- ---- all of them

-- a copy stays one
pub IsCopy-effect : (done : Effect) (handle : ℕ) (held : OplockState) (was : Oplock) → IsCopy held.oplocks was → IsCopy (after_effect done handle held).oplocks was
IsCopy-effect Stays handle held was copy = copy
IsCopy-effect Ends handle held was copy = All-filter (λ o. not (o.handle == handle)) (λ now. (now.handle == was.handle) ≡ true → IsLater was now) held.oplocks copy
IsCopy-effect (Begins level) handle held was copy =
    All-map (λ now. (now.handle == was.handle) ≡ true → IsLater was now) (break_begun handle level (held.last_break + 1)) held.oplocks
    (λ k d within. elim (cases_Bool ((get_or held.oplocks k d).handle == handle)) [
      | inl here ↦ rw here (λ same. record { level = IsLater.level (copy k d within same); target = λ had. refl })
      | inr other ↦ rw other (copy k d within)
    ])
IsCopy-effect (Lowers level) handle held was copy =
    All-map (λ now. (now.handle == was.handle) ≡ true → IsLater was now) (lowered handle level) held.oplocks
    (λ k d within. elim (cases_Bool ((get_or held.oplocks k d).handle == handle)) [
      | inl here ↦ rw here (λ same. record { level = IsLater.level (copy k d within same); target = λ had. refl })
      | inr other ↦ rw other (copy k d within)
    ])

-- what a kind does to a copy can be had on the oplock
pub CanHave-effect : (kind : Class) (was : Oplock) (oplocks : List Oplock) → IsSoundOplock was → IsCopy oplocks was → CanHave (effect_on kind was) was.handle oplocks
CanHave-effect kind was oplocks is copy = by_target kind was.level was.target is.target_within (λ k d within same. let later = copy k d within same in (later.level, later.target))
  where
    by_target : (kind : Class) (level : Level) (target : Option Level) → option_map_or (λ t. is_within t level) target true ≡ true
        → All (λ now. (now.handle == was.handle) ≡ true → (now.level ≡ level) × (is_some target ≡ true → is_some now.target ≡ true)) oplocks
        → CanHave (effect kind level target) was.handle oplocks
    by_target kind level (Some told) inside later = λ k d within same.
        (let now = later k d within same in (rw now.0 (within-both told (keep kind) level inside), now.1 refl))
    by_target kind level None inside later = elim (cases_Bool (is_within level (keep kind))) [
      | inl kept ↦ rw kept tt
      | inr lost ↦ elim (cases_Bool (is_within level R)) [
        | inl read ↦ rw (lost, read) tt
        | inr more ↦ rw (lost, more) (λ k d within same. let now = later k d within same in rw now.0 (within-both level (keep kind) level (within-same level)))
      ]
    ]

-- breaks of copies leave the oplocks sound
pub AreOplocks-breaks : (kind : Class) (held : OplockState) (chosen : List Oplock) → All IsSoundOplock chosen → All (IsCopy held.oplocks) chosen
    → AreOplocks held.oplocks held.last_break → AreOplocks (after_breaks kind held chosen).oplocks (after_breaks kind held chosen).last_break
AreOplocks-breaks kind held [] each copies are = are
AreOplocks-breaks kind held (o ∷ chosen) each copies are =
    let next : OplockState = after_effect (effect_on kind o) o.handle held in
    AreOplocks-breaks kind next chosen (λ k d within. each (suc k) d (omega arith))
    (λ k d within. IsCopy-effect (effect_on kind o) o.handle held (get_or chosen k d) (copies (suc k) d (omega arith)))
    (AreOplocks-effect (effect_on kind o) o.handle held (CanHave-effect kind o held.oplocks (each 0 o (omega arith)) (copies 0 o (omega arith))) are)

-- each oplock of the list is a copy of its own
pub IsCopy-own : (oplocks : List Oplock) → AllPairs (λ a b. (a.handle == b.handle) ≡ false) oplocks → All (IsCopy oplocks) oplocks
IsCopy-own oplocks differ j d within k e inside same =
    elim (cases_lt j k) [
      | inl below ↦ absurd (both_ways _ (rw (get_or_default oplocks j e d within) at (differ j k e below inside)) (eqb_swap _ _ same))
      | inr above ↦ elim (cases_lt k j) [
        | inl below ↦ absurd (both_ways _ (rw (get_or_default oplocks j e d within) at (differ k j e below within)) same)
        | inr equal ↦ (let at_one : j ≡ k = omega arith in
            let is : get_or oplocks k e ≡ get_or oplocks j d = ap (λ i. get_or oplocks i e) (sym at_one) ∙ get_or_default oplocks j e d within in
            record { level = ap (λ (o : Oplock). o.level) is; target = λ had. ap (λ (o : Oplock). is_some o.target) is ∙ had })
      ]
    ]
  where
    eqb_swap : (a b : ℕ) → (a == b) ≡ true → (b == a) ≡ true
    eqb_swap a b is = eq-eqb b a (sym (eqb-true a b is))

-- those that are chosen of a list are sound, and copies
pub chosen-are : (before : Oplock → Oplock → Bool) (p : Oplock → Bool) (oplocks : List Oplock) (last : ℕ) → AreOplocks oplocks last
    → All IsSoundOplock (in_order before (filter p oplocks)) × All (IsCopy oplocks) (in_order before (filter p oplocks))
chosen-are before p oplocks last are = (
  All-in_order IsSoundOplock before (filter p oplocks) (All-filter p IsSoundOplock oplocks are.each),
  All-in_order (IsCopy oplocks) before (filter p oplocks) (All-filter p (IsCopy oplocks) oplocks (IsCopy-own oplocks are.handles_differ)),
)

-- ---- what is granted

-- the number of no break that is in progress is 0
numbered-not_0 : (o : Oplock) → IsSoundOplock o → (is_some o.target && o.number == 0) ≡ false
numbered-not_0 o is = no_both (o.number == 0) (is_some o.target) is.has_number
  where
    no_both : (zero target : Bool) → not zero ≡ target → (target && zero) ≡ false
    no_both true target same = rw (← same) refl
    no_both false true same = refl
    no_both false false same = refl

-- an oplock more, of a handle that has none, without a break
pub AreOplocks-push : (oplocks : List Oplock) (last handle key : ℕ) (level : Level) (turn : ℕ) → AreOplocks oplocks last
    → All (λ o. (o.handle == handle) ≡ false) oplocks → AreOplocks (oplocks ++ as_granted handle key level turn ∷ []) last
AreOplocks-push oplocks last handle key level turn are others =
    let more : Oplock = as_granted handle key level turn in
    record {
      each = All-push IsSoundOplock oplocks more are.each (record { has_number = refl; has_call = refl; target_within = refl });
      handles_differ = all_pairs_push (λ a b. (a.handle == b.handle) ≡ false) oplocks more are.handles_differ others;
      numbers_differ = all_pairs_push (λ a b. (is_some a.target && a.number == b.number) ≡ false) oplocks more are.numbers_differ
          (λ k d within. numbered-not_0 (get_or oplocks k d) (are.each k d within));
      numbers_given = All-push (λ o. o.number ≤ last) oplocks more are.numbers_given (omega arith);
    }

as_answered-handle : (handle : ℕ) (level : Level) (turn : ℕ) (o : Oplock) → (as_answered handle level turn o).handle ≡ o.handle
as_answered-handle handle level turn o = elim (cases_Bool (o.handle == handle)) [ inl here ↦ rw here refl | inr other ↦ rw other refl ]

-- the break of the handle's oplock ended by an answer: this level stays, and a call is pending as granted
pub AreOplocks-as_answered : (oplocks : List Oplock) (last handle : ℕ) (level : Level) (turn : ℕ) → AreOplocks oplocks last
    → AreOplocks (map (as_answered handle level turn) oplocks) last
AreOplocks-as_answered oplocks last handle level turn are = record {
  each = All-map IsSoundOplock (as_answered handle level turn) oplocks (λ k d within. elim (cases_Bool ((get_or oplocks k d).handle == handle)) [
    | inl here ↦ rw here (record { has_number = refl; has_call = refl; target_within = refl })
    | inr other ↦ rw other (are.each k d within)
  ]);
  handles_differ = AllPairs-map (λ a b. (a.handle == b.handle) ≡ false) (as_answered handle level turn) oplocks
      (λ i j d below within. rw (as_answered-handle handle level turn (get_or oplocks i d), as_answered-handle handle level turn (get_or oplocks j d)) (are.handles_differ i j d below within));
  numbers_differ = AllPairs-map (λ a b. (is_some a.target && a.number == b.number) ≡ false) (as_answered handle level turn) oplocks
      (λ i j d below within. elim (cases_Bool ((get_or oplocks i d).handle == handle)) [
        | inl first ↦ rw first refl
        | inr other ↦ rw other (elim (cases_Bool ((get_or oplocks j d).handle == handle)) [
          | inl second ↦ rw second (numbered-not_0 (get_or oplocks i d) (are.each i d (omega arith)))
          | inr neither ↦ rw neither (are.numbers_differ i j d below within)
        ])
      ]);
  numbers_given = All-map (λ o. o.number ≤ last) (as_answered handle level turn) oplocks (λ k d within. elim (cases_Bool ((get_or oplocks k d).handle == handle)) [
    | inl here ↦ rw here (omega arith)
    | inr other ↦ rw other (are.numbers_given k d within)
  ]);
}
