-- How many oplocks breaks, switches and answers leave, and that no more handles are chosen than there are oplocks.
use Rattle.std.proofs.Common.{◌≡◌, ℕ, suc, ◌+◌, ◌-◌, ◌<◌, ◌≤◌, Bool, true, false, not, List, [], ◌∷◌, ◌++◌, length, get_or, refl, sym, ◌∙◌, arith, inl, inr}
use Rattle.std.specs.List.{list_any}
use Rattle.std.specs.Prelude.{◌==◌, ◌&&◌, min}
use Rattle.std.proofs.lemmas.Bool.{cases_Bool, eq-eqb, eqb-true, both_ways}
use Rattle.std.proofs.lemmas.List.{length-map}
use Rattle.std.proofs.lemmas.List.Elements.{All-push}
use Rattle.std.proofs.lemmas.List.Quantifiers.{all_pairs_push}
use Rattle.fsa_types.proofs.RowLemmas.{length-filter_le}
use Rattle.fsa_types.specs.OplockGrants.{after_answer, after_switches, as_answered}
use Rattle.fsa_types.specs.OplockLists.{OplockState, after_breaks, after_effect, break_begun, effect_on, left_by_effect, lowered, without_oplock_of}
use Rattle.fsa_types.specs.Oplocks.{Begins, Effect, Ends, Lowers, Oplock, Stays, has_read}
use Rattle.fsa_types.specs.declared.oplock.Class.{Class}
use Rattle.fsa_types.specs.declared.request.Level.{Level}
use Rattle.fsa_model.proofs.RowLaws.{any-filter, none-all}
use Rattle.oplock_state.specs.State.{AreMarked, has_oplock}

-- ---- how many stay

pub without-few : (handle : ℕ) (rows : List Oplock) → length (without_oplock_of handle rows) ≤ length rows
without-few handle rows = length-filter_le (λ (o : Oplock). not (o.handle == handle)) rows

effect-few : (done : Effect) (handle number : ℕ) (rows : List Oplock) → length (left_by_effect done handle number rows) ≤ length rows
effect-few Stays handle number rows = omega arith
effect-few Ends handle number rows = without-few handle rows
effect-few (Begins level) handle number rows = omega (arith, length-map rows (break_begun handle level number))
effect-few (Lowers level) handle number rows = omega (arith, length-map rows (lowered handle level))

pub breaks-few : (class : Class) (held : OplockState) (broken : List Oplock) → length (after_breaks class held broken).oplocks ≤ length held.oplocks
breaks-few class held [] = omega arith
breaks-few class held (o ∷ broken) =
    let one = effect-few (effect_on class o) o.handle (held.last_break + 1) held.oplocks in
    let rest = breaks-few class (after_effect (effect_on class o) o.handle held) broken in
    omega arith

pub switches-few : (rows switched : List Oplock) → length (after_switches rows switched) ≤ length rows
switches-few rows [] = omega arith
switches-few rows (o ∷ switched) =
    let one = without-few o.handle rows in
    let rest = switches-few (without_oplock_of o.handle rows) switched in
    omega arith

pub answer-few : (handle : ℕ) (level : Level) (turn : ℕ) (rows : List Oplock) → length (after_answer handle level turn rows) ≤ length rows
answer-few handle level turn rows = elim (cases_Bool (has_read level)) [
  | inl some ↦ rw some (omega (arith, length-map rows (as_answered handle level turn)))
  | inr none ↦ rw none (without-few handle rows)
]

-- ---- the room

pub room-kept : (list list' marked marked' rows rows' : ℕ) → list ≤ list' → marked ≤ marked' → rows' ≤ rows → min list (marked - rows) ≤ min list' (marked' - rows')
room-kept list list' marked marked' rows rows' a b c = omega arith

pub room-used : (list list' marked marked' rows rows' : ℕ) → list ≤ list' + 1 → marked ≤ marked' → rows' ≤ rows + 1
    → min list (marked - rows) ≤ min list' (marked' - rows') + 1
room-used list list' marked marked' rows rows' a b c = omega arith

pub room-there : (list marked rows : ℕ) → 1 ≤ min list (marked - rows) → rows + 1 ≤ marked
room-there list marked rows some = omega arith

-- ---- no more handles are chosen than there are oplocks

-- without the oplock of a handle that has one there are fewer
without-fewer : (handle : ℕ) (rows : List Oplock) → has_oplock handle rows ≡ true → length (without_oplock_of handle rows) + 1 ≤ length rows
without-fewer handle [] there = cc
without-fewer handle (o ∷ rows) there = elim (cases_Bool (o.handle == handle)) [
  | inl here ↦ rw here (let few = without-few handle rows in omega arith)
  | inr other ↦ rw other (let rest = without-fewer handle rows (rw other at there) in omega arith)
]

marks-few : (marked : List ℕ) (rows : List Oplock) → AreMarked marked rows → length marked ≤ length rows
marks-few [] rows are = omega arith
marks-few (m ∷ marked) rows are =
    let fewer = without-fewer m rows (are.each 0 m (omega arith)) in
    let rest = marks-few marked (without_oplock_of m rows) (record {
      differ = λ i j d below within. are.differ (suc i) (suc j) d (omega arith) (omega arith);
      each = λ k d within. any-filter (λ (o : Oplock). o.handle == get_or marked k d) (λ (o : Oplock). not (o.handle == m)) rows
          (λ o is. elim (cases_Bool (o.handle == m)) [
            | inl same ↦ (let differ : (m == get_or marked k d) ≡ false = are.differ 0 (suc k) d (omega arith) (omega arith) in
                let equal : m ≡ get_or marked k d = sym (eqb-true o.handle m same) ∙ eqb-true o.handle (get_or marked k d) is in
                absurd (both_ways (m == get_or marked k d) differ (eq-eqb m (get_or marked k d) equal)))
            | inr other ↦ rw other refl
          ])
          (are.each (suc k) d (omega arith));
    }) in
    omega arith

-- a handle more, which isn't chosen yet
pub marks-more : (marked : List ℕ) (rows : List Oplock) (handle : ℕ) → AreMarked marked rows → has_oplock handle rows ≡ true → list_any (λ other. other == handle) marked ≡ false
    → AreMarked (marked ++ handle ∷ []) rows
marks-more marked rows handle are there new = record {
  differ = all_pairs_push (λ a b. (a == b) ≡ false) marked handle are.differ (none-all (λ other. other == handle) marked new);
  each = All-push (λ h. has_oplock h rows ≡ true) marked handle are.each there;
}

pub marks-fit : (marked : List ℕ) (rows : List Oplock) (handle : ℕ) → AreMarked marked rows → has_oplock handle rows ≡ true → list_any (λ other. other == handle) marked ≡ false
    → length marked < length rows
marks-fit marked rows handle are there new =
    let most = marks-few (marked ++ handle ∷ []) rows (marks-more marked rows handle are there new) in
    let long : length (marked ++ handle ∷ []) ≡ length marked + 1 = length-push marked in
    omega arith
  where
    length-push : (xs : List ℕ) → length (xs ++ handle ∷ []) ≡ length xs + 1
    length-push [] = refl
    length-push (x ∷ xs) = let rest = length-push xs in omega arith

pub fresh-parts : (a b : Bool) → (a && not b) ≡ true → (a ≡ true) × (b ≡ false)
fresh-parts true false fresh = (refl, refl)
fresh-parts true true fresh = cc
fresh-parts false b fresh = cc

pub marks-none : (rows : List Oplock) → AreMarked [] rows
marks-none rows = record { differ = λ i j d below within. absurd (omega arith); each = λ k d within. absurd (omega arith) }
