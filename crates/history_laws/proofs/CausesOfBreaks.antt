-- What breaks of some sets of handles, all by one class, leave of each oplock: it is as it was, or the class's effect on it left
-- or ended it, however many of the sets hold its handle; and a handle without an oplock gets none.
use Rattle.std.proofs.Common.{◌≡◌, ℕ, suc, ◌+◌, Bool, true, false, ◌==◌, not, List, [], ◌∷◌, refl, ap, sym, subst, ◌∙◌, arith, inl, inr, Option, Some, None, eq-eqb}
use Rattle.std.specs.Prelude.{All, filter, find, map, option_map}
use Rattle.std.proofs.lemmas.Bool.{cases_Bool, eqb-true, false≢true, ne_eqb, not_from_false}
use Rattle.std.proofs.lemmas.List.Elements.{All-filter, filter_passes}
use Rattle.std.proofs.lemmas.List.Kept.{AllPairs-filter}
use Rattle.fsa_types.specs.OplockLists.{OplockState, after_breaks, after_effect, break_begun, effect_on, left_by_effect, lowered, without_oplock_of}
use Rattle.fsa_types.specs.Oplocks.{Effect, Stays, Ends, Begins, Lowers, effect, in_both, is_within, keep}
use Rattle.fsa_types.specs.declared.oplock.Class.{Class}
use Rattle.fsa_types.specs.declared.oplock.Class.TheVariants.{Clash, NameChange, ReadOpen, Change}
use Rattle.fsa_types.specs.declared.oplock.HandleSet.{HandleSet}
use Rattle.fsa_types.specs.declared.request.Call.{Call}
use Rattle.fsa_types.specs.declared.request.Level.{Level}
use Rattle.fsa_types.specs.declared.request.Level.TheVariants.{Nil, R, RH, RW, RWH}
use Rattle.fsa_model.specs.Breaks.{chosen, is_broken_before, is_chosen, oplocks_of, with_breaks}
use Rattle.fsa_model.specs.Coherence.{acting_handle, acting_key}
use Rattle.fsa_model.specs.Grant.{oplock_of}
use Rattle.fsa_model.specs.Outcome.{Outcome}
use Rattle.fsa_model.specs.Turn.{volume_after}
use Rattle.fsa_model.specs.Volume.{Oplock, Volume}
use Rattle.fsa_model.proofs.BreakLaws.{with_breaks-oplocks}
use Rattle.fsa_model.proofs.CoherenceBreaks.{find-passes, handles-breaks, held-no_breaks, links-breaks}
use Rattle.fsa_model.proofs.CoherenceLaws.{All-in_order, only_oplock}
use Rattle.fsa_model.proofs.CoherenceTied.{differ-changed}
use Rattle.fsa_model.proofs.RowLaws.{find-filter, find-map, find-same, option_cases, option_map-none}
use Rattle.history_laws.specs.OplockChanges.{IsBroken, IsLeftBy, MayBreak, WhyGone, WhyNow}
use Rattle.history_laws.proofs.SetsBroken.{BreaksSetsBy, HasCauses, OplocksDiffer, with_sets_broken}

-- ---- one effect, a second time

-- a class leaves the whole of what it left
kept-twice : (kind : Class) (level : Level) → in_both (in_both level (keep kind)) (keep kind) ≡ in_both level (keep kind)
kept-twice Clash Nil = refl
kept-twice Clash R = refl
kept-twice Clash RH = refl
kept-twice Clash RW = refl
kept-twice Clash RWH = refl
kept-twice NameChange Nil = refl
kept-twice NameChange R = refl
kept-twice NameChange RH = refl
kept-twice NameChange RW = refl
kept-twice NameChange RWH = refl
kept-twice ReadOpen Nil = refl
kept-twice ReadOpen R = refl
kept-twice ReadOpen RH = refl
kept-twice ReadOpen RW = refl
kept-twice ReadOpen RWH = refl
kept-twice Change Nil = refl
kept-twice Change R = refl
kept-twice Change RH = refl
kept-twice Change RW = refl
kept-twice Change RWH = refl

-- what a class left has a target that the class left
left-target : (kind : Class) (level : Level) (target : Option Level) (was now : Oplock) → IsLeftBy (effect kind level target) was now
    → (of : Level) × (now.target ≡ Some (in_both of (keep kind)))
left-target kind level (Some told) was now left = (told, ap (λ (o : Oplock). o.target) left)
left-target kind level None was now left = elim (cases_Bool (is_within level (keep kind))) [
  | inl stays ↦ absurd (rw stays at left)
  | inr loses ↦ elim (cases_Bool (is_within level R)) [
    | inl ends ↦ absurd (rw (loses, ends) at left)
    | inr begins ↦ (let begun : IsLeftBy (Begins (in_both level (keep kind))) was now = rw (loses, begins) at left in (level, ap (λ (o : Oplock). o.target) begun))
  ]
]

-- so a second break by it goes on to that same target
effect-left : (kind : Class) (was now : Oplock) → IsLeftBy (effect_on kind was) was now → (to : Level) × (now.target ≡ Some to) × (effect_on kind now ≡ Lowers to)
effect-left kind was now left =
    let target = left-target kind was.level was.target was now left in
    (in_both target.0 (keep kind), target.1, ap (λ to. effect kind now.level to) target.1 ∙ ap Lowers (kept-twice kind target.0))

-- ---- the oplock of a handle, in a list

module _ (handle : ℕ) where
  abbrev oplock_in : List Oplock → Option Oplock
  oplock_in oplocks = find (λ (o : Oplock). o.handle == handle) oplocks

  -- what is found for it is its own, and no other handle's
  of-it : (oplocks : List Oplock) (at : ℕ) (o : Oplock) → oplock_in oplocks ≡ Some o → (at == handle) ≡ true → (o.handle == at) ≡ true
  of-it oplocks at o found here =
      eq-eqb o.handle at (eqb-true o.handle handle (find-passes (λ (x : Oplock). x.handle == handle) oplocks o found) ∙ sym (eqb-true at handle here))

  not-at : (oplocks : List Oplock) (at : ℕ) (o : Oplock) → oplock_in oplocks ≡ Some o → (at == handle) ≡ false → (o.handle == at) ≡ false
  not-at oplocks at o found other =
      ne_eqb o.handle at (λ e. false≢true (sym other ∙ eq-eqb at handle (sym e ∙ eqb-true o.handle handle (find-passes (λ (x : Oplock). x.handle == handle) oplocks o found))))

  -- changed with all others
  found-map : (change : Oplock → Oplock) (oplocks : List Oplock) → ((o : Oplock) → (change o).handle ≡ o.handle)
      → oplock_in (map change oplocks) ≡ option_map change (oplock_in oplocks)
  found-map change oplocks same =
      find-map (λ (o : Oplock). o.handle == handle) change oplocks
      ∙ ap (λ found. option_map change found) (find-same (λ (o : Oplock). (change o).handle == handle) (λ (o : Oplock). o.handle == handle) oplocks (λ o. ap (λ h. h == handle) (same o)))

  found-begun : (at : ℕ) (level : Level) (number : ℕ) (oplocks : List Oplock) → oplock_in (map (break_begun at level number) oplocks) ≡ option_map (break_begun at level number) (oplock_in oplocks)
  found-begun at level number oplocks = found-map (break_begun at level number) oplocks (λ o. elim (cases_Bool (o.handle == at)) [ inl here ↦ rw here refl | inr other ↦ rw other refl ])

  found-lowered : (at : ℕ) (level : Level) (oplocks : List Oplock) → oplock_in (map (lowered at level) oplocks) ≡ option_map (lowered at level) (oplock_in oplocks)
  found-lowered at level oplocks = found-map (lowered at level) oplocks (λ o. elim (cases_Bool (o.handle == at)) [ inl here ↦ rw here refl | inr other ↦ rw other refl ])

  -- taken out
  found-without : (at : ℕ) (oplocks : List Oplock) → (at == handle) ≡ true → oplock_in (without_oplock_of at oplocks) ≡ None
  found-without at [] here = refl
  found-without at (o ∷ oplocks) here = elim (cases_Bool (o.handle == at)) [
    | inl of_it ↦ rw of_it (found-without at oplocks here)
    | inr of_another ↦ (let isnt : (o.handle == handle) ≡ false = ne_eqb o.handle handle (λ e. false≢true (sym of_another ∙ eq-eqb o.handle at (e ∙ sym (eqb-true at handle here)))) in
        rw (of_another, isnt) (found-without at oplocks here))
  ]

  -- an effect on another handle's oplock leaves it
  left-other : (done : Effect) (at number : ℕ) (oplocks : List Oplock) → (at == handle) ≡ false → oplock_in (left_by_effect done at number oplocks) ≡ oplock_in oplocks
  left-other Stays at number oplocks other = refl
  left-other Ends at number oplocks other =
      find-filter (λ (o : Oplock). o.handle == handle) (λ (o : Oplock). not (o.handle == at)) oplocks
      (λ k d within here. not_from_false _ (ne_eqb _ at (λ e. false≢true (sym other ∙ eq-eqb at handle (sym e ∙ eqb-true _ handle here)))))
  left-other (Begins level) at number oplocks other = found-begun at level number oplocks ∙ elim (option_cases (oplock_in oplocks)) [
    | inl none ↦ rw none refl
    | inr some ↦ rw (some.1, not-at oplocks at some.0 some.1 other) refl
  ]
  left-other (Lowers level) at number oplocks other = found-lowered at level oplocks ∙ elim (option_cases (oplock_in oplocks)) [
    | inl none ↦ rw none refl
    | inr some ↦ rw (some.1, not-at oplocks at some.0 some.1 other) refl
  ]

  -- ---- what breaks of one set leave of it

  -- it is as it was, or it was chosen, and this effect left or ended it
  pub data After (is_one : Bool) (done : Effect) (was : Oplock) (now : Option Oplock) : Type 0 where
    AsWas : now ≡ Some was → After is_one done was now
    LeftSo : (o : Oplock) → is_one ≡ true → IsLeftBy done was o → now ≡ Some o → After is_one done was now
    Ended : is_one ≡ true → done ≡ Ends → now ≡ None → After is_one done was now

  -- after one effect of these, a second time too; and after those on the oplocks of a list
  after-effect : (is_one : Bool) (done : Effect) (was : Oplock) (at number : ℕ) (oplocks : List Oplock) → (at == handle) ≡ true → is_one ≡ true
      → After is_one done was (oplock_in oplocks) → After is_one done was (oplock_in (left_by_effect done at number oplocks))
  after-effect is_one Stays was at number oplocks here is so = so
  after-effect is_one Ends was at number oplocks here is so = Ended is refl (found-without at oplocks here)
  after-effect is_one (Begins level) was at number oplocks here is (AsWas same) =
      LeftSo (record was { target = Some level; number = number; call = None }) is refl (found-begun at level number oplocks ∙ rw (same, of-it oplocks at was same here) refl)
  after-effect is_one (Begins level) was at number oplocks here is (LeftSo o one left same) =
      LeftSo (record o { target = Some level; number = number; call = None }) is (ap (λ (x : Oplock). record x { target = Some level; number = number; call = None }) left)
      (found-begun at level number oplocks ∙ rw (same, of-it oplocks at o same here) refl)
  after-effect is_one (Begins level) was at number oplocks here is (Ended one ends same) = cc
  after-effect is_one (Lowers level) was at number oplocks here is (AsWas same) =
      LeftSo (record was { target = Some level }) is refl (found-lowered at level oplocks ∙ rw (same, of-it oplocks at was same here) refl)
  after-effect is_one (Lowers level) was at number oplocks here is (LeftSo o one left same) =
      LeftSo (record o { target = Some level }) is (ap (λ (x : Oplock). record x { target = Some level }) left)
      (found-lowered at level oplocks ∙ rw (same, of-it oplocks at o same here) refl)
  after-effect is_one (Lowers level) was at number oplocks here is (Ended one ends same) = cc

  after-all : (kind : Class) (is_one : Bool) (done : Effect) (was : Oplock) (held : OplockState) (oplocks : List Oplock)
      → All (λ o. (o.handle == handle) ≡ true → (effect_on kind o ≡ done) × (is_one ≡ true)) oplocks
      → After is_one done was (oplock_in held.oplocks) → After is_one done was (oplock_in (after_breaks kind held oplocks).oplocks)
  after-all kind is_one done was held [] each so = so
  after-all kind is_one done was held (o ∷ oplocks) each so =
      after-all kind is_one done was (after_effect (effect_on kind o) o.handle held) oplocks (λ k d within. each (suc k) d (omega arith))
      (elim (cases_Bool (o.handle == handle)) [
        | inl here ↦ (let both : (effect_on kind o ≡ done) × (is_one ≡ true) = each 0 o (omega arith) here in
            subst (λ (e : Effect). After is_one done was (oplock_in (left_by_effect e o.handle (held.last_break + 1) held.oplocks))) (sym both.0)
            (after-effect is_one done was o.handle (held.last_break + 1) held.oplocks here both.1 so))
        | inr other ↦ subst (λ (found : Option Oplock). After is_one done was found) (sym (left-other (effect_on kind o) o.handle (held.last_break + 1) held.oplocks other)) so
      ])

  -- after the breaks of the set; and where it has none it gets none
  pub after-set : (v : Volume) (on : HandleSet) (kind : Class) (acting : Option ℕ) (key : ℕ) (was : Oplock) → OplocksDiffer v.oplocks
      → oplock_of v handle ≡ Some was → After (is_chosen v on acting key was) (effect_on kind was) was (oplock_of (with_breaks v on kind acting key) handle)
  after-set v on kind acting key was differ found =
      let only = only_oplock v.oplocks handle was differ found in
      let alike : Oplock → Type 0 = λ o. (o.handle == handle) ≡ true → (effect_on kind o ≡ effect_on kind was) × (is_chosen v on acting key was ≡ true) in
      let all_alike : All alike (filter (is_chosen v on acting key) v.oplocks) =
      (λ k d within here.
      let same = All-filter (is_chosen v on acting key) (λ o. (o.handle == handle) ≡ true → o ≡ was) v.oplocks only k d within here in
      (ap (λ (o : Oplock). effect_on kind o) same, ap (is_chosen v on acting key) (sym same) ∙ filter_passes (is_chosen v on acting key) v.oplocks k d within)) in
      subst (λ (held : OplockState). After (is_chosen v on acting key was) (effect_on kind was) was (oplock_in held.oplocks)) (sym (with_breaks-oplocks v on kind acting key))
      (after-all kind (is_chosen v on acting key was) (effect_on kind was) was (oplocks_of v) (chosen v on acting key)
      (All-in_order alike (is_broken_before v) (filter (is_chosen v on acting key) v.oplocks) all_alike) (AsWas found))

  pub none-comes : (v : Volume) (on : HandleSet) (kind : Class) (acting : Option ℕ) (key : ℕ) → oplock_of v handle ≡ None → oplock_of (with_breaks v on kind acting key) handle ≡ None
  none-comes v on kind acting key none =
      option_map-none (λ (o : Oplock). (o.level, o.target)) (oplock_of (with_breaks v on kind acting key) handle) (held-no_breaks v on kind acting key handle none)

-- ---- each handle keeps at most one

differ-effect : (done : Effect) (at number : ℕ) (oplocks : List Oplock) → OplocksDiffer oplocks
    → OplocksDiffer (left_by_effect done at number oplocks)
differ-effect Stays at number oplocks differ = differ
differ-effect Ends at number oplocks differ = AllPairs-filter (λ a b. (a.handle == b.handle) ≡ false) (λ (o : Oplock). not (o.handle == at)) oplocks differ
differ-effect (Begins level) at number oplocks differ = differ-changed oplocks (λ o. record o { target = Some level; number = number; call = None }) at (λ o. refl) differ
differ-effect (Lowers level) at number oplocks differ = differ-changed oplocks (λ o. record o { target = Some level }) at (λ o. refl) differ

differ-all : (kind : Class) (held : OplockState) (oplocks : List Oplock) → OplocksDiffer held.oplocks
    → OplocksDiffer (after_breaks kind held oplocks).oplocks
differ-all kind held [] differ = differ
differ-all kind held (o ∷ oplocks) differ =
    differ-all kind (after_effect (effect_on kind o) o.handle held) oplocks (differ-effect (effect_on kind o) o.handle (held.last_break + 1) held.oplocks differ)

pub differ-breaks : (v : Volume) (on : HandleSet) (kind : Class) (acting : Option ℕ) (key : ℕ) → OplocksDiffer v.oplocks
    → OplocksDiffer (with_breaks v on kind acting key).oplocks
differ-breaks v on kind acting key differ =
    subst (λ (held : OplockState). OplocksDiffer held.oplocks) (sym (with_breaks-oplocks v on kind acting key))
    (differ-all kind (oplocks_of v) (chosen v on acting key) differ)

-- ---- all sets

module _ (v : Volume) (call : Call) (kind : Class) (handle : ℕ) where
  abbrev acts : Option ℕ
  acts = acting_handle v call.client call.what

  abbrev key : ℕ
  key = acting_key v call.client call.what

  -- it is as it was, or it was broken, and the effect left or ended it
  data Cause (now : Option Oplock) : Type 0 where
    AsBefore : now ≡ oplock_of v handle → Cause now
    Changed : (was o : Oplock) → oplock_of v handle ≡ Some was → IsBroken v call kind was → IsLeftBy (effect_on kind was) was o → now ≡ Some o → Cause now
    Gone : (was : Oplock) → oplock_of v handle ≡ Some was → IsBroken v call kind was → effect_on kind was ≡ Ends → now ≡ None → Cause now

  -- after one set more: what was left stays as it is
  cause-set : (w : Volume) (on : HandleSet) → MayBreak v call kind on → w.handles ≡ v.handles → w.links ≡ v.links
      → OplocksDiffer w.oplocks → Cause (oplock_of w handle) → Cause (oplock_of (with_breaks w on kind acts key) handle)
  cause-set w on may handles links differ (AsBefore same) = elim (option_cases (oplock_of w handle)) [
    | inl none ↦ AsBefore (none-comes handle w on kind acts key none ∙ sym none ∙ same)
    | inr some ↦ first some.0 some.1 (after-set handle w on kind acts key some.0 differ some.1)
  ]
    where
      broken : (was : Oplock) → is_chosen w on acts key was ≡ true → IsBroken v call kind was
      broken was is = record { on = on; may = may; chosen = rw (handles, links) at is }

      first : (was : Oplock) → oplock_of w handle ≡ Some was → After handle (is_chosen w on acts key was) (effect_on kind was) was (oplock_of (with_breaks w on kind acts key) handle)
          → Cause (oplock_of (with_breaks w on kind acts key) handle)
      first was found (AsWas so) = AsBefore (so ∙ sym found ∙ same)
      first was found (LeftSo o is left so) = Changed was o (sym same ∙ found) (broken was is) left so
      first was found (Ended is ends so) = Gone was (sym same ∙ found) (broken was is) ends so
  cause-set w on may handles links differ (Changed was o held broken left same) = again (after-set handle w on kind acts key o differ same)
    where
      again : After handle (is_chosen w on acts key o) (effect_on kind o) o (oplock_of (with_breaks w on kind acts key) handle) → Cause (oplock_of (with_breaks w on kind acts key) handle)
      again (AsWas so) = Changed was o held broken left so
      again (LeftSo next is lower so) = (
          let goes_on = effect-left kind was o left in
          let lowers : IsLeftBy (Lowers goes_on.0) o next = subst (λ done. IsLeftBy done o next) goes_on.2 lower in
          let unchanged : next ≡ o = lowers ∙ ap (λ (target : Option Level). record o { target = target }) (sym goes_on.1) in
          Changed was o held broken left (so ∙ ap (λ (x : Oplock). Some x) unchanged))
      again (Ended is ends so) = (let goes_on = effect-left kind was o left in let impossible : Lowers goes_on.0 ≡ Ends = sym goes_on.2 ∙ ends in cc)
  cause-set w on may handles links differ (Gone was held broken ends same) = Gone was held broken ends (none-comes handle w on kind acts key same)

  cause-sets : (sets : List HandleSet) (w : Volume) → All (λ on. MayBreak v call kind on) sets → w.handles ≡ v.handles → w.links ≡ v.links
      → OplocksDiffer w.oplocks → Cause (oplock_of w handle) → Cause (oplock_of (with_sets_broken kind acts key sets w) handle)
  cause-sets [] w may handles links differ so = so
  cause-sets (on ∷ sets) w may handles links differ so =
      cause-sets sets (with_breaks w on kind acts key) (λ k d within. may (suc k) d (omega arith))
      (handles-breaks w on kind acts key ∙ handles) (links-breaks w on kind acts key ∙ links) (differ-breaks w on kind acts key differ)
      (cause-set w on (may 0 on (omega arith)) handles links differ so)

  -- so a cause is told of each that is there, and of each that is gone
  why-now : (turn : ℕ) (next : Volume) (now : Option Oplock) (oplock : Oplock) → now ≡ Some oplock → Cause now → WhyNow v call turn next handle oplock
  why-now turn next now oplock found (AsBefore same) = WhyNow.Same (sym same ∙ found)
  why-now turn next now oplock found (Changed was o held broken left same) =
      (let is : Some o ≡ Some oplock = sym same ∙ found in let one : o ≡ oplock = cc in WhyNow.Broken was kind held broken (rw one at left))
  why-now turn next now oplock found (Gone was held broken ends same) = (let impossible : Some oplock ≡ None = sym found ∙ same in cc)

  why-gone : (turn : ℕ) (next : Volume) (now : Option Oplock) (was : Oplock) → oplock_of v handle ≡ Some was → now ≡ None → Cause now → WhyGone v call turn next handle was
  why-gone turn next now was had none (AsBefore same) = (let impossible : Some was ≡ None = sym had ∙ sym same ∙ none in cc)
  why-gone turn next now was had none (Changed old o held broken left same) = (let impossible : Some o ≡ None = sym same ∙ none in cc)
  why-gone turn next now was had none (Gone old held broken ends same) =
      (let is : Some old ≡ Some was = sym held ∙ had in let one : old ≡ was = cc in WhyGone.Ended kind (rw one at broken) (rw one at ends))

-- where a try changes oplocks only by such breaks, each change has its cause
pub causes-of_breaks : (v : Volume) (call : Call) (turn : ℕ) (outcome : Outcome) → OplocksDiffer v.oplocks
    → BreaksSetsBy v call outcome → HasCauses v call turn (volume_after outcome)
causes-of_breaks v call turn outcome differ breaks = record {
  now = λ handle oplock found. why-now v call breaks.class handle turn (volume_after outcome) (oplock_of (volume_after outcome) handle) oplock found (cause handle);
  gone = λ handle was had none. why-gone v call breaks.class handle turn (volume_after outcome) (oplock_of (volume_after outcome) handle) was had none (cause handle);
}
  where
    cause : (handle : ℕ) → Cause v call breaks.class handle (oplock_of (volume_after outcome) handle)
    cause handle =
        subst (λ (oplocks : List Oplock). Cause v call breaks.class handle (find (λ o. o.handle == handle) oplocks)) (sym breaks.oplocks)
        (cause-sets v call breaks.class handle breaks.sets v breaks.may refl refl differ (AsBefore refl))
