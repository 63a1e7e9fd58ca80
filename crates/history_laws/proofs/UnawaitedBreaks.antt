-- Breaks by class NameChange for which a request needn't wait change nothing: what isn't awaited has no handle caching and, where a break
-- of it is in progress, a target without that, so it stays as it is.
use Rattle.std.proofs.Common.{◌≡◌, ℕ, suc, Bool, true, false, List, [], ◌∷◌, length, get_or, refl, ap, sym, ◌∙◌, inl, inr, arith, Option, Some, None}
use Rattle.std.specs.Prelude.{◌==◌, ◌||◌, All, filter, fold, map, not}
use Rattle.std.proofs.lemmas.Bool.{both_ways, cases_Bool, cases_lt, eq-eqb, eqb-true}
use Rattle.std.proofs.lemmas.List.{get_or_default, length-map}
use Rattle.std.proofs.lemmas.List.Elements.{All-cons, All-filter, All-nil}
use Rattle.fsa_types.specs.OplockLists.{effect_on, lowered, number_of_break}
use Rattle.fsa_types.specs.Oplocks.{Lowers, effect, is_awaited, loses}
use Rattle.fsa_types.specs.declared.oplock.Class.TheVariants.{NameChange}
use Rattle.fsa_types.specs.declared.oplock.HandleSet.{HandleSet}
use Rattle.fsa_types.specs.declared.request.Level.{Level}
use Rattle.fsa_types.specs.declared.request.Level.TheVariants.{Nil, R, RH, RW, RWH}
use Rattle.fsa_types.proofs.OplockLemmas.{All-in_order}
use Rattle.fsa_model.specs.Breaks.{chosen, is_broken_before, is_chosen, with_breaks, with_effect}
use Rattle.fsa_model.specs.Volume.{Oplock, Volume}
use Rattle.fsa_model.specs.Waits.{waits_for}
use Rattle.history_laws.proofs.SetsBroken.{OplocksDiffer}

-- ---- lists

-- what leaves each item leaves the list
leaves-all : {X : Type 0} (f : X → X) (xs : List X) → All (λ x. f x ≡ x) xs → map f xs ≡ xs
leaves-all f [] each = refl
leaves-all f (x ∷ xs) each =
    let here : f x ≡ x = each 0 x (omega arith) in
    rw here (ap (λ rest. x ∷ rest) (leaves-all f xs (λ k d within. each (suc k) d (omega arith))))

-- where no item is kept, the test fails for each
fails-each : {X : Type 0} (test : X → Bool) (xs : List X) → (length (filter test xs) == 0) ≡ true → All (λ x. test x ≡ false) xs
fails-each test [] none = All-nil (λ item. test item ≡ false)
fails-each test (x ∷ xs) none = elim (cases_Bool (test x)) [
  | inl is ↦ (let zero : suc (length (filter test xs)) ≡ 0 = eqb-true _ 0 (rw is at none) in absurd (omega (arith, zero)))
  | inr isnt ↦ All-cons (λ item. test item ≡ false) x xs isnt (fails-each test xs (rw isnt at none))
]

-- ---- one oplock

-- it is the one that its handle has, if any
abbrev IsOnly : List Oplock → Oplock → Type 0
IsOnly oplocks o = All (λ now. (now.handle == o.handle) ≡ true → now ≡ o) oplocks

-- so is each of a list, where they differ
only-own : (oplocks : List Oplock) → OplocksDiffer oplocks → All (IsOnly oplocks) oplocks
only-own oplocks differ j d within k e inside same =
    elim (cases_lt j k) [
      | inl below ↦ absurd (both_ways _ (rw (get_or_default oplocks j e d within) at (differ j k e below inside)) (turned _ _ same))
      | inr above ↦ elim (cases_lt k j) [
        | inl below ↦ absurd (both_ways _ (rw (get_or_default oplocks j e d within) at (differ k j e below within)) same)
        | inr equal ↦ (let at_one : j ≡ k = omega arith in ap (λ i. get_or oplocks i e) (sym at_one) ∙ get_or_default oplocks j e d within)
      ]
    ]
  where
    turned : (a b : ℕ) → (a == b) ≡ true → (b == a) ≡ true
    turned a b is = eq-eqb b a (sym (eqb-true a b is))

-- a break that goes on to the target that it has leaves the list
lowers-none : (oplocks : List Oplock) (o : Oplock) (target : Level) → IsOnly oplocks o → o.target ≡ Some target → map (lowered o.handle target) oplocks ≡ oplocks
lowers-none oplocks o target only has = leaves-all (lowered o.handle target) oplocks (λ k d within. elim (cases_Bool ((get_or oplocks k d).handle == o.handle)) [
  | inl here ↦ (let targets : (get_or oplocks k d).target ≡ Some target = ap (λ (now : Oplock). now.target) (only k d within here) ∙ has in rw (here, ← targets) refl)
  | inr other ↦ rw other refl
])

-- where neither holds
right-fails : (one other : Bool) → (one || other) ≡ false → other ≡ false
right-fails true other fails = cc
right-fails false other fails = fails

module _ (v : Volume) (o : Oplock) (only : IsOnly v.oplocks o) where
  -- and so the volume
  lowers-same : (target : Level) → o.target ≡ Some target → with_effect v o (Lowers target) ≡ v
  lowers-same target has = ap (λ (oplocks : List Oplock). record v { oplocks = oplocks }) (lowers-none v.oplocks o target only has)

  -- what isn't awaited stays: a level with handle caching is awaited, and so is a target with it
  effect-same : (level : Level) (target : Option Level) → o.target ≡ target → is_awaited NameChange level target ≡ false → with_effect v o (effect NameChange level target) ≡ v
  effect-same Nil None has free = refl
  effect-same R None has free = refl
  effect-same RW None has free = refl
  effect-same RH None has free = cc
  effect-same RWH None has free = cc
  effect-same level (Some Nil) has free = lowers-same Nil has
  effect-same level (Some R) has free = lowers-same R has
  effect-same level (Some RW) has free = lowers-same RW has
  effect-same level (Some RH) has free = (let impossible = right-fails (loses NameChange level) true free in cc)
  effect-same level (Some RWH) has free = (let impossible = right-fails (loses NameChange level) true free in cc)

-- ---- all that are chosen

each-same : (v : Volume) (oplocks : List Oplock) → All (IsOnly v.oplocks) oplocks → All (λ o. is_awaited NameChange o.level o.target ≡ false) oplocks
    → fold (λ w oplock. with_effect w oplock (effect_on NameChange oplock)) v oplocks ≡ v
each-same v [] only free = refl
each-same v (o ∷ oplocks) only free =
    let here : with_effect v o (effect_on NameChange o) ≡ v = effect-same v o (only 0 o (omega arith)) o.level o.target refl (free 0 o (omega arith)) in
    rw here (each-same v oplocks (λ k d within. only (suc k) d (omega arith)) (λ k d within. free (suc k) d (omega arith)))

-- where the request needn't wait, none of them is awaited
none-awaited : (v : Volume) (on : HandleSet) (acting : Option ℕ) (key : ℕ) → waits_for v on NameChange acting key ≡ false
    → (length (filter (λ (o : Oplock). is_awaited NameChange o.level o.target) (chosen v on acting key)) == 0) ≡ true
none-awaited v on acting key free =
    let many = length-map (filter (λ (o : Oplock). is_awaited NameChange o.level o.target) (chosen v on acting key)) (λ (o : Oplock). number_of_break (with_breaks v on NameChange acting key).oplocks o.handle) in
    passes _ (rw many at free)
  where
    passes : (test : Bool) → not test ≡ false → test ≡ true
    passes true none = refl
    passes false none = cc

pub unawaited-same : (v : Volume) (on : HandleSet) (acting : Option ℕ) (key : ℕ) → OplocksDiffer v.oplocks → waits_for v on NameChange acting key ≡ false → with_breaks v on NameChange acting key ≡ v
unawaited-same v on acting key differ free =
    each-same v (chosen v on acting key)
    (All-in_order (IsOnly v.oplocks) (is_broken_before v) (filter (is_chosen v on acting key) v.oplocks) (All-filter (is_chosen v on acting key) (IsOnly v.oplocks) v.oplocks (only-own v.oplocks differ)))
    (fails-each (λ (o : Oplock). is_awaited NameChange o.level o.target) (chosen v on acting key) (none-awaited v on acting key free))
