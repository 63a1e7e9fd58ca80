-- What changes oplocks, pending calls and ends by breaks of one class alone tells of each break that begins, and leaves just what
-- it told.
use Rattle.std.proofs.Common.{◌≡◌, ℕ, ◌+◌, ◌≤◌, Bool, true, false, not, List, [], ◌∷◌, refl, sym, subst, ◌∙◌, arith, inl, inr, ◌⊎◌, Option, Some, None}
use Rattle.std.specs.List.{filter, fold, list_any}
use Rattle.std.specs.Option.{option_map_or}
use Rattle.std.specs.Prelude.{◌&&◌, is_some}
use Rattle.std.proofs.lemmas.Bool.{cases_Bool, eqb-true}
use Rattle.fsa_types.specs.OplockLists.{effect_on}
use Rattle.fsa_types.specs.Oplocks.{Effect, Lowers, effect, in_both, is_within, keep}
use Rattle.fsa_types.specs.declared.oplock.Class.{Class}
use Rattle.fsa_types.specs.declared.oplock.HandleSet.{HandleSet}
use Rattle.fsa_types.specs.declared.request.Level.TheVariants.{R}
use Rattle.fsa_model.specs.Breaks.{chosen, is_broken_before, is_chosen, with_breaks, with_effect}
use Rattle.fsa_model.specs.Once.{how_many}
use Rattle.fsa_model.specs.Settling.{HasOneOplockEach, is_of, is_under}
use Rattle.fsa_model.specs.Volume.{Oplock, Volume}
use Rattle.fsa_model.specs.Waiting.{is_granted_under}
use Rattle.fsa_model.proofs.CountLaws.{and_left, and_right, how_many-filter_le, how_many-in_order, how_many-none, how_many-weaker, only-one}
use Rattle.fsa_model.proofs.OnceLaws.{is_call_of}
use Rattle.fsa_model.proofs.PendLaws.{OneGrantEach}
use Rattle.fsa_model.proofs.RowLaws.{any-weaker, option_cases}
use Rattle.fsa_model.proofs.TryLaws.{HasOneOplockEach-kept, Keeps, Keeps-breaks, Keeps-effect, OneGrantEach-kept}
use Rattle.history_laws.specs.Telling.{TellsTarget, is_held_under, is_told_level, is_untold}
use Rattle.history_laws.proofs.AnyLaws.{and_none, none-stronger}
use Rattle.history_laws.proofs.BackedBreaks.{TurnsDiffer}
use Rattle.history_laws.proofs.ByBreaks.{ByBreaks, Still, Locked, Broken, Next}
use Rattle.history_laws.proofs.ToldTargets.{IsTold, IsUnbroken, bad-before, begins-told, effect-told, effect-unbroken, ends-told, is_bad, is_fixed, lowers-told, within-kept}

-- at most one oplock is of a handle, and at most one granted under a turn; at most one call is pending under a turn, and none
-- twice
pub record AreApart (v : Volume) : Type 0 where
  pub one : HasOneOplockEach v
  pub grants : OneGrantEach v
  pub turns : TurnsDiffer v
  pub calls : (client number : ℕ) → how_many (is_call_of client number) v.pending ≤ 1

pub apart-kept : (v w : Volume) → Keeps v w → AreApart v → AreApart w
apart-kept v w keeps apart = record {
  one = HasOneOplockEach-kept v w keeps apart.one;
  grants = OneGrantEach-kept v w keeps apart.grants;
  turns = λ turn. (let few = apart.turns turn in let fewer = keeps.pending (is_under turn) in omega arith);
  calls = λ client number. (let few = apart.calls client number in let fewer = keeps.pending (is_call_of client number) in omega arith);
}

-- so they stay
pub apart-by : {kind : Class} {v w : Volume} → ByBreaks kind v w → AreApart v → AreApart w
apart-by (Still v w oplocks locks pending ended left last_break last_lock) apart = record {
  one = λ id. rw oplocks (apart.one id);
  grants = λ at. rw oplocks (apart.grants at);
  turns = λ at. rw pending (apart.turns at);
  calls = λ c n. rw pending (apart.calls c n);
}
apart-by (Locked v at_handle at count exclusive) apart = record { one = apart.one; grants = apart.grants; turns = apart.turns; calls = apart.calls }
apart-by {kind} (Broken v on acting key) apart = apart-kept v (with_breaks v on kind acting key) (Keeps-breaks v on kind acting key) apart
apart-by (Next u v w first second) apart = apart-by second (apart-by first apart)

-- those that are broken are some of all
pub among-chosen : (v : Volume) (on : HandleSet) (acting : Option ℕ) (key : ℕ) (test : Oplock → Bool) → how_many test (chosen v on acting key) ≤ how_many test v.oplocks
among-chosen v on acting key test = (let ordered = how_many-in_order test (is_broken_before v) (filter (is_chosen v on acting key) v.oplocks) in let kept = how_many-filter_le test (is_chosen v on acting key) v.oplocks in omega arith)

module _ (handle turn : ℕ) where
  -- of these at most one is of the handle, that one has no break in progress, and no other is granted under its turn
  pub record Fits (oplocks : List Oplock) : Type 0 where
    pub once : how_many (is_of handle) oplocks ≤ 1
    pub own : how_many (λ o. is_of handle o && not (not (is_some o.target) && is_granted_under turn o)) oplocks ≡ 0
    pub others : how_many (λ o. is_granted_under turn o && not (is_of handle o)) oplocks ≡ 0

  pub fits-rest : (o : Oplock) (oplocks : List Oplock) → Fits (o ∷ oplocks) → Fits oplocks
  fits-rest o oplocks fits = record {
    once = (let few = fits.once in omega arith);
    own = (let few = fits.own in omega arith);
    others = (let few = fits.others in omega arith);
  }

  pub fits-other : (o : Oplock) (oplocks : List Oplock) → Fits (o ∷ oplocks) → is_of handle o ≡ false → is_granted_under turn o ≡ false
  fits-other o oplocks fits other = elim (cases_Bool (is_granted_under turn o)) [
    | inr isnt ↦ isnt
    | inl granted ↦ absurd (let many : 1 + how_many (λ o. is_granted_under turn o && not (is_of handle o)) oplocks ≡ 0 = rw (granted, other) at fits.others in omega arith)
  ]

  pub fits-own : (o : Oplock) (oplocks : List Oplock) → Fits (o ∷ oplocks) → is_of handle o ≡ true → (o.target ≡ None) × (o.call ≡ Some turn)
  fits-own o oplocks fits here = elim (option_cases o.target) [
    | inr target ↦ (let impossible : false ≡ true = rw target.1 at granted in cc)
    | inl none ↦ elim (option_cases o.call) [
      | inl nobody ↦ (let impossible : false ≡ true = rw (none, nobody) at granted in cc)
      | inr call ↦ (let same : call.0 ≡ turn = eqb-true call.0 turn (rw (none, call.1) at granted) in (none, rw same at call.1))
    ]
  ]
    where
      granted : (not (is_some o.target) && is_granted_under turn o) ≡ true
      granted = elim (cases_Bool (not (is_some o.target) && is_granted_under turn o)) [
        | inl is ↦ is
        | inr isnt ↦ absurd (let many : 1 + how_many (λ o. is_of handle o && not (not (is_some o.target) && is_granted_under turn o)) oplocks ≡ 0 = rw (here, isnt) at fits.own in omega arith)
      ]

  pub fits-chosen : (v : Volume) (on : HandleSet) (acting : Option ℕ) (key : ℕ) → AreApart v → list_any (is_held_under handle turn) v.oplocks ≡ true → Fits (chosen v on acting key)
  fits-chosen v on acting key apart held = record {
    once = (let few = among-chosen v on acting key (is_of handle) in let one = apart.one handle in omega arith);
    own = (let few = among-chosen v on acting key (λ o. is_of handle o && not (not (is_some o.target) && is_granted_under turn o)) in
        let none = how_many-none (λ o. is_of handle o && not (not (is_some o.target) && is_granted_under turn o)) v.oplocks (only-one (is_of handle) (λ o. not (is_some o.target) && is_granted_under turn o) v.oplocks (apart.one handle) held) in omega arith);
    others = (let few = among-chosen v on acting key (λ o. is_granted_under turn o && not (is_of handle o)) in
        let none = how_many-none (λ o. is_granted_under turn o && not (is_of handle o)) v.oplocks (only-one (is_granted_under turn) (is_of handle) v.oplocks (apart.grants turn)
        (any-weaker (is_held_under handle turn) (λ o. is_granted_under turn o && is_of handle o) v.oplocks
        (λ o is. rw (and_left (is_of handle o) (not (is_some o.target) && is_granted_under turn o) is, and_right (not (is_some o.target)) (is_granted_under turn o) (and_right (is_of handle o) (not (is_some o.target) && is_granted_under turn o) is)) refl) held)) in omega arith);
  }

module _ (handle turn client number : ℕ) (kind : Class) where
  -- the handle's oplock has no break in progress and its call pends, or the call was told of what the break leaves, of which
  -- breaks of the class take nothing more
  abbrev IsFine : Volume → Type 0
  IsFine w = IsUnbroken handle turn client number w ⊎ IsTold handle turn client number kind w

  abbrev step : Volume → Oplock → Volume
  step w o = with_effect w o (effect_on kind o)

  -- where the call was told of all breaks in progress of these, and the class leaves of them just that
  told-fold : (oplocks : List Oplock) (w : Volume) → how_many (is_bad handle turn client number kind w.ended) oplocks ≡ 0 → IsTold handle turn client number kind w → IsTold handle turn client number kind (fold step w oplocks)
  told-fold [] w none told = told
  told-fold (o ∷ oplocks) w none told = told-fold oplocks (step w o) rest (elim (cases_Bool (is_of handle o)) [
    | inr other ↦ effect-told handle turn client number w o other kind (effect_on kind o) told
    | inl here ↦ elim (option_cases o.target) [
      | inl unbroken ↦ absurd (let many : 1 + how_many (is_bad handle turn client number kind w.ended) oplocks ≡ 0 = rw (here, unbroken) at none in omega arith)
      | inr target ↦ elim (cases_Bool (is_fixed handle turn client number kind w.ended target.0)) [
        | inr loose ↦ absurd (let many : 1 + how_many (is_bad handle turn client number kind w.ended) oplocks ≡ 0 = rw (here, target.1, loose) at none in omega arith)
        | inl fixed ↦ (let is : effect_on kind o ≡ Lowers (in_both target.0 (keep kind)) = rw target.1 refl in
            subst (λ (done : Effect). IsTold handle turn client number kind (with_effect w o done)) (sym is) (lowers-told handle turn client number kind w o target.0 here fixed told))
      ]
    ]
  ])
    where
      rest : how_many (is_bad handle turn client number kind (step w o).ended) oplocks ≡ 0
      rest =
          let weaker = how_many-weaker (is_bad handle turn client number kind (step w o).ended) (is_bad handle turn client number kind w.ended) oplocks
          (λ x bad. bad-before handle turn client number kind w.ended (step w o).ended (Keeps.ended (Keeps-effect w o (effect_on kind o))) x bad) in
          omega arith

  -- the handle's own breaks, or stays
  own-step : (w : Volume) (o : Oplock) → is_of handle o ≡ true → o.target ≡ None → o.call ≡ Some turn → TurnsDiffer w → IsUnbroken handle turn client number w → IsFine (step w o)
  own-step w o here unbroken call turns so =
      let is : effect_on kind o ≡ effect kind o.level None = rw unbroken refl in
      subst (λ (done : Effect). IsFine (with_effect w o done)) (sym is) (elim (cases_Bool (is_within o.level (keep kind))) [
        | inl stays ↦ rw stays (inl so)
        | inr loses ↦ rw loses (elim (cases_Bool (is_within o.level R)) [
          | inl ends ↦ rw ends (inr (ends-told handle turn client number kind w o here))
          | inr begins ↦ rw begins (inr (begins-told handle turn client number kind w o (in_both o.level (keep kind)) (within-kept kind o.level) here call turns so))
        ])
      ])

  fine-fold : (oplocks : List Oplock) (w : Volume) → AreApart w → Fits handle turn oplocks → IsUnbroken handle turn client number w → IsFine (fold step w oplocks)
  fine-fold [] w apart fits so = inl so
  fine-fold (o ∷ oplocks) w apart fits so = elim (cases_Bool (is_of handle o)) [
    | inr other ↦ fine-fold oplocks (step w o) next_apart rest (effect-unbroken handle turn client number w o other (effect_on kind o) (fits-other handle turn o oplocks fits other) apart.calls so)
    | inl here ↦ (let whole = fits-own handle turn o oplocks fits here in go here (λ still. fine-fold oplocks (step w o) next_apart rest still) (own-step w o here whole.0 whole.1 apart.turns so))
  ]
    where
      next_apart : AreApart (step w o)
      next_apart = apart-kept w (step w o) (Keeps-effect w o (effect_on kind o)) apart

      rest : Fits handle turn oplocks
      rest = fits-rest handle turn o oplocks fits

      go : is_of handle o ≡ true → (IsUnbroken handle turn client number (step w o) → IsFine (fold step (step w o) oplocks)) → IsFine (step w o) → IsFine (fold step (step w o) oplocks)
      go here on (inl still) = on still
      go here on (inr told) = inr (told-fold oplocks (step w o)
          (let few : 1 + how_many (is_of handle) oplocks ≤ 1 = rw here at fits.once in
          let weaker = how_many-weaker (is_bad handle turn client number kind (step w o).ended) (is_of handle) oplocks
          (λ x bad. and_left (is_of handle x) (option_map_or (λ target. not (is_fixed handle turn client number kind (step w o).ended target)) x.target true) bad) in omega arith) told)

  -- ---- all that changes oplocks, pending calls and ends by breaks alone

  fine-by : {v w : Volume} → ByBreaks kind v w → AreApart v → IsFine v → IsFine w
  fine-by (Still v w oplocks locks pending ended left last_break last_lock) apart (inl so) = inl (record { held = rw oplocks so.held; pends = rw pending so.pends })
  fine-by (Still v w oplocks locks pending ended left last_break last_lock) apart (inr told) = inr (rw (oplocks, ended) told)
  fine-by (Locked v at_handle at count exclusive) apart (inl so) = inl (record { held = so.held; pends = so.pends })
  fine-by (Locked v at_handle at count exclusive) apart (inr told) = inr told
  fine-by (Broken v on acting key) apart (inl so) = fine-fold (chosen v on acting key) v apart (fits-chosen handle turn v on acting key apart so.held) so
  fine-by (Broken v on acting key) apart (inr told) = inr (told-fold (chosen v on acting key) v
      (let few = among-chosen v on acting key (is_bad handle turn client number kind v.ended) in let none = how_many-none (is_bad handle turn client number kind v.ended) v.oplocks told in omega arith) told)
  fine-by (Next u v w first second) apart fine = fine-by second (apart-by first apart) (fine-by first apart fine)

-- so it tells the targets
pub by-targets : {kind : Class} (v w : Volume) → ByBreaks kind v w → AreApart v → TellsTarget v w
by-targets {kind} v w by apart handle turn client number held pends = none (apart-by by apart) (fine-by handle turn client number kind by apart (inl (record { held = held; pends = pends })))
  where
    tells : (a b : Bool) → not a ≡ true → not (a && b) ≡ true
    tells true b is = cc
    tells false b is = refl

    broken : (o : Oplock) → is_untold handle client number w.ended o ≡ true → is_bad handle turn client number kind w.ended o ≡ true × (not (is_some o.target) && is_granted_under turn o) ≡ false
    broken o is = elim (option_cases o.target) [
      | inl unbroken ↦ (let impossible : false ≡ true = sym (and_none (is_of handle o) false refl) ∙ rw unbroken at is in cc)
      | inr target ↦ (
          let untold = and_right (is_of handle o) (not (is_told_level client number target.0 w.ended)) (rw target.1 at is) in
          let here = and_left (is_of handle o) (not (is_told_level client number target.0 w.ended)) (rw target.1 at is) in
          (rw (target.1, here, tells (is_told_level client number target.0 w.ended) (is_within target.0 (keep kind)) untold) refl, rw target.1 refl))
    ]

    none : AreApart w → IsFine handle turn client number kind w → list_any (is_untold handle client number w.ended) w.oplocks ≡ false
    none now (inr told) = none-stronger (is_bad handle turn client number kind w.ended) (is_untold handle client number w.ended) w.oplocks (λ o is. (broken o is).0) told
    none now (inl so) = none-stronger (λ o. is_of handle o && not (not (is_some o.target) && is_granted_under turn o)) (is_untold handle client number w.ended) w.oplocks
        (λ o is. rw (and_left (is_of handle o) (option_map_or (λ target. not (is_told_level client number target w.ended)) o.target false) is, (broken o is).1) refl)
        (only-one (is_of handle) (λ o. not (is_some o.target) && is_granted_under turn o) w.oplocks (now.one handle) so.held)
