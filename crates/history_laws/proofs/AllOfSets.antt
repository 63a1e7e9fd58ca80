-- Once the oplocks of some sets of handles have been broken by one class, one set after the other, each oplock that is left on
-- one of these sets, but for those of the acting handle and key, is within what the class leaves: its level is or, while a break
-- is in progress, its target.
use Rattle.std.proofs.Common.{◌≡◌, ℕ, Bool, true, false, List, [], ◌∷◌, refl, ap, sym, ◌∙◌, inl, inr, ◌⊎◌, Option, Some, None}
use Rattle.std.specs.Option.{option_map_or}
use Rattle.std.specs.Prelude.{unwrap_or}
use Rattle.std.proofs.lemmas.Bool.{cases_Bool, false≢true}
use Rattle.fsa_types.specs.OplockLists.{effect_on}
use Rattle.fsa_types.specs.Oplocks.{effect, is_within, keep}
use Rattle.fsa_types.specs.declared.oplock.Class.{Class}
use Rattle.fsa_types.specs.declared.oplock.HandleSet.{HandleSet}
use Rattle.fsa_types.specs.declared.request.Level.{Level}
use Rattle.fsa_types.specs.declared.request.Level.TheVariants.{R}
use Rattle.fsa_model.specs.Breaks.{is_chosen, with_breaks}
use Rattle.fsa_model.specs.Grant.{oplock_of}
use Rattle.fsa_model.specs.Volume.{Oplock, Volume}
use Rattle.fsa_model.proofs.CoherenceBreaks.{handles-breaks, held-breaks, links-breaks}
use Rattle.fsa_model.proofs.CoherenceLaws.{held_after, held_in}
use Rattle.fsa_model.proofs.RowLaws.{option_cases}
use Rattle.history_laws.specs.OplockChanges.{is_within_class}
use Rattle.history_laws.proofs.CausesOfBreaks.{After, AsWas, LeftSo, Ended, after-set, differ-breaks, none-comes}
use Rattle.history_laws.proofs.SetsBroken.{IsOneOf, OplocksDiffer, with_sets_broken}
use Rattle.history_laws.proofs.ToldTargets.{within-kept}

-- ---- one effect

-- what is held of an oplock, its level and target, is within what the class leaves; and so is nothing
abbrev is_held_within : Class → Option (Level × Option Level) → Bool
is_held_within class held = option_map_or (λ h. is_within (unwrap_or h.1 h.0) (keep class)) held true

-- the class's effect on it leaves no more
effect-within : (class : Class) (level : Level) (target : Option Level) → is_held_within class (held_after (effect class level target) (Some (level, target))) ≡ true
effect-within class level (Some told) = within-kept class told
effect-within class level None = elim (cases_Bool (is_within level (keep class))) [
  | inl stays ↦ rw stays stays
  | inr loses ↦ elim (cases_Bool (is_within level R)) [
    | inl ends ↦ rw (loses, ends) refl
    | inr begins ↦ rw (loses, begins) (within-kept class level)
  ]
]

module _ (class : Class) (acting : Option ℕ) (key handle : ℕ) where
  -- ---- one set

  -- an oplock that is left is within what the class leaves, or wasn't chosen and is as it was
  within-set : (w : Volume) (on : HandleSet) (o : Oplock) → OplocksDiffer w.oplocks → oplock_of (with_breaks w on class acting key) handle ≡ Some o
      → (is_within_class class o ≡ true) ⊎ ((is_chosen w on acting key o ≡ false) × (oplock_of w handle ≡ Some o))
  within-set w on o differ found = elim (option_cases (oplock_of w handle)) [
    | inl none ↦ (let impossible : Some o ≡ None = sym found ∙ none-comes handle w on class acting key none in cc)
    | inr some ↦ elim (cases_Bool (is_chosen w on acting key some.0)) [
      | inl is ↦ inl (broken some.0 some.1 is)
      | inr isnt ↦ inr (left some.0 some.1 isnt (after-set handle w on class acting key some.0 differ some.1))
    ]
  ]
    where
      broken : (was : Oplock) → oplock_of w handle ≡ Some was → is_chosen w on acting key was ≡ true → is_within_class class o ≡ true
      broken was held is =
          let now : held_in (with_breaks w on class acting key).oplocks handle ≡ Some (o.level, o.target) = rw found refl in
          let left : held_in (with_breaks w on class acting key).oplocks handle ≡ held_after (effect class was.level was.target) (Some (was.level, was.target))
          = held-breaks w on class acting key handle was differ held ∙ rw is refl in
          ap (is_held_within class) (sym now ∙ left) ∙ effect-within class was.level was.target

      left : (was : Oplock) → oplock_of w handle ≡ Some was → is_chosen w on acting key was ≡ false
          → After handle (is_chosen w on acting key was) (effect_on class was) was (oplock_of (with_breaks w on class acting key) handle)
          → (is_chosen w on acting key o ≡ false) × (oplock_of w handle ≡ Some o)
      left was held isnt (AsWas same) = (let is : Some was ≡ Some o = sym same ∙ found in let one : was ≡ o = cc in (rw one at isnt, held ∙ is))
      left was held isnt (LeftSo next is lower same) = absurd (false≢true (sym isnt ∙ is))
      left was held isnt (Ended is ends same) = absurd (false≢true (sym isnt ∙ is))

  -- ---- all sets

  module _ (v : Volume) (on : HandleSet) where
    -- the handle's oplock, where it is one of the set, and not of the acting handle or key, is within what the class leaves
    abbrev IsWithin : Volume → Type 0
    IsWithin w = (o : Oplock) → oplock_of w handle ≡ Some o → is_chosen v on acting key o ≡ true → is_within_class class o ≡ true

    -- so it stays after more sets
    within-later : (sets : List HandleSet) (w : Volume) → OplocksDiffer w.oplocks → IsWithin w → IsWithin (with_sets_broken class acting key sets w)
    within-later [] w differ within = within
    within-later (next ∷ sets) w differ within =
        within-later sets (with_breaks w next class acting key) (differ-breaks w next class acting key differ)
        (λ o found is. elim (within-set w next o differ found) [ inl so ↦ so | inr same ↦ within o same.1 is ])

    -- and so it is after the set itself
    within-sets : (sets : List HandleSet) (w : Volume) → w.handles ≡ v.handles → w.links ≡ v.links → OplocksDiffer w.oplocks
        → IsOneOf on sets → IsWithin (with_sets_broken class acting key sets w)
    within-sets [] w handles links differ one = absurd one
    within-sets (next ∷ sets) w handles links differ (inl here) =
        within-later sets (with_breaks w next class acting key) (differ-breaks w next class acting key differ)
        (λ o found is. elim (within-set w next o differ found) [
          | inl so ↦ so
          | inr same ↦ absurd (false≢true (sym same.0 ∙ rw (handles, links, ← here) is))
        ])
    within-sets (next ∷ sets) w handles links differ (inr later) =
        within-sets sets (with_breaks w next class acting key) (handles-breaks w next class acting key ∙ handles) (links-breaks w next class acting key ∙ links)
        (differ-breaks w next class acting key differ) later

pub all-within : (class : Class) (acting : Option ℕ) (key : ℕ) (sets : List HandleSet) (on : HandleSet) (v : Volume) → OplocksDiffer v.oplocks → IsOneOf on sets
    → (handle : ℕ) (oplock : Oplock) → oplock_of (with_sets_broken class acting key sets v) handle ≡ Some oplock → is_chosen v on acting key oplock ≡ true
    → is_within_class class oplock ≡ true
all-within class acting key sets on v differ one handle oplock found is = within-sets class acting key handle v on sets v refl refl differ one oplock found is
