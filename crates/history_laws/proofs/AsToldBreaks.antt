-- Where breaks tell the call of an oplock, the oplock is as was told: it is gone, or a break of it is in progress.
use Rattle.std.proofs.Common.{◌≡◌, ℕ, ◌+◌, ◌<◌, ◌≤◌, Bool, true, false, not, List, [], ◌∷◌, refl, sym, subst, ◌∙◌, arith, inl, inr, ◌⊎◌, Option, Some, None}
use Rattle.std.specs.List.{fold, list_any}
use Rattle.std.specs.Option.{option_map_or}
use Rattle.std.specs.Prelude.{◌==◌, ◌&&◌, is_some, map}
use Rattle.std.proofs.lemmas.Bool.{cases_Bool, eqb-true}
use Rattle.fsa_types.specs.OplockLists.{effect_on}
use Rattle.fsa_types.specs.Oplocks.{Effect, Stays, Ends, Begins, Lowers, effect, in_both, is_within, keep}
use Rattle.fsa_types.specs.Rows.{row_of}
use Rattle.fsa_types.specs.declared.oplock.Class.{Class}
use Rattle.fsa_types.specs.declared.reply.EndOf.{EndOf}
use Rattle.fsa_types.specs.declared.reply.Reply.{Reply}
use Rattle.fsa_types.specs.declared.request.Level.{Level}
use Rattle.fsa_types.specs.declared.request.Level.TheVariants.{Nil, R}
use Rattle.fsa_model.specs.Breaks.{chosen, with_break_begun, with_effect, with_told}
use Rattle.fsa_model.specs.Edits.{is_call, with_end, without_oplock}
use Rattle.fsa_model.specs.Once.{how_many, is_end}
use Rattle.fsa_model.specs.Settling.{is_of, is_under}
use Rattle.fsa_model.specs.Volume.{Oplock, Pending, Volume}
use Rattle.fsa_model.specs.Waiting.{is_granted_under}
use Rattle.fsa_model.proofs.BreakLaws.{told-oplocks}
use Rattle.fsa_model.proofs.CountLaws.{and_left, and_right, how_many-append, how_many-none, how_many-weaker, none-how_many, only-one}
use Rattle.fsa_model.proofs.OnceLaws.{is_call_of, is_same-equal, pending-with_end}
use Rattle.fsa_model.proofs.PendLaws.{found-under}
use Rattle.fsa_model.proofs.RowLaws.{any-filter, any-map, any-weaker, eqb-swap, option_cases}
use Rattle.fsa_model.proofs.TryLaws.{Keeps, Keeps-effect}
use Rattle.fsa_model.proofs.WaitLaws.{begun, changed, lowered}
use Rattle.history_laws.specs.Telling.{IsAsTold, IsLeft, asks_ack, is_held_under, telling, tells_of_break, times_told}
use Rattle.history_laws.proofs.AnyLaws.{and_none, any-never, any-filter_and, none-stronger}
use Rattle.history_laws.proofs.ByBreaks.{ByBreaks, Still, Locked, Broken, Next}
use Rattle.history_laws.proofs.TargetRuns.{AreApart, Fits, among-chosen, apart-by, apart-kept, fits-chosen, fits-other, fits-own, fits-rest}
use Rattle.history_laws.proofs.ToldTargets.{IsUnbroken, effect-unbroken, under-turn}

-- the handle's oplock has a break in progress
abbrev pub is_breaking_of : ℕ → Oplock → Bool
is_breaking_of handle oplock = oplock.handle == handle && is_some oplock.target

-- the call is pending under the turn of the oplock
abbrev is_called : ℕ → ℕ → Option ℕ → ℕ × Pending → Bool
is_called client number call entry = is_call_of client number entry && option_map_or (λ at. entry.0 == at) call false

-- where oplocks stay
pub same-left : (handle : ℕ) (ack : Bool) (v w : Volume) → w.oplocks ≡ v.oplocks → IsLeft ack handle v → IsLeft ack handle w
same-left handle true v w same left = rw same left
same-left handle false v w same left = rw same left

module _ (handle turn client number : ℕ) where
  -- ---- who is told

  -- another call ends
  other-times : (u : Volume) (c n : ℕ) (reply : Reply) (test : Reply → Bool) → (is_end client number (record { client = c; number = n; reply = reply }) && test reply) ≡ false
      → times_told test client number (with_end u c n reply) ≡ times_told test client number u
  other-times u c n reply test other =
      let all = how_many-append (λ (end : EndOf). is_end client number end && (tells_of_break end.reply && test end.reply)) u.ended (record { client = c; number = n; reply = reply } ∷ []) in
      let none : how_many (λ (end : EndOf). is_end client number end && (tells_of_break end.reply && test end.reply)) (record { client = c; number = n; reply = reply } ∷ []) ≡ 0
      = rw (fails (is_end client number (record { client = c; number = n; reply = reply })) (tells_of_break reply) (test reply) other) refl in
      omega arith
    where
      fails : (a b c : Bool) → (a && c) ≡ false → (a && (b && c)) ≡ false
      fails true b c isnt = and_none b c isnt
      fails false b c isnt = refl

  -- the oplock of another call is told
  untold : (u : Volume) (call : Option ℕ) (level : Level) (ack : Bool) (test : Reply → Bool) → list_any (is_called client number call) u.pending ≡ false
      → times_told test client number (with_told u call level ack) ≡ times_told test client number u
  untold u None level ack test none = refl
  untold u (Some at) level ack test none = elim (option_cases (row_of u.pending at)) [
    | inl missing ↦ rw missing refl
    | inr row ↦ rw row.1 (other-times u row.0.call.client row.0.call.number (telling level ack) test (elim (cases_Bool (row.0.call.client == client && row.0.call.number == number)) [
      | inr other ↦ rw other refl
      | inl is ↦ (let same = is_same-equal row.0.call.client row.0.call.number client number is in
          let there = found-under u.pending at row.0 row.1 in
          let here : 1 ≤ how_many (λ e. is_call_of client number e && e.0 == at) u.pending = rw (← same.0, ← same.1) there in
          let few = how_many-none (λ e. is_call_of client number e && e.0 == at) u.pending none in absurd (omega arith))
    ]))
  ]

  -- what is told doesn't pass
  fails-times : (u : Volume) (call : Option ℕ) (level : Level) (ack : Bool) (test : Reply → Bool) → test (telling level ack) ≡ false
      → times_told test client number (with_told u call level ack) ≡ times_told test client number u
  fails-times u None level ack test fails = refl
  fails-times u (Some at) level ack test fails = elim (option_cases (row_of u.pending at)) [
    | inl missing ↦ rw missing refl
    | inr row ↦ rw row.1 (other-times u row.0.call.client row.0.call.number (telling level ack) test
        (and_none (is_end client number (record { client = row.0.call.client; number = row.0.call.number; reply = telling level ack })) (test (telling level ack)) fails))
  ]

  -- the call that is pending under the turn is told, and pends no more
  told-gone : (u : Volume) (level : Level) (ack : Bool) → ((at : ℕ) → how_many (is_under at) u.pending ≤ 1) → list_any (λ (e : ℕ × Pending). e.0 == turn && is_call client number e.1) u.pending ≡ true
      → how_many (is_call_of client number) (with_told u (Some turn) level ack).pending ≡ 0
  told-gone u level ack turns pends =
      let under = under-turn turn client number u turns pends in
      rw under.found (pending-with_end u under.entry.1.call.client under.entry.1.call.number client number (telling level ack) ∙ rw under.its refl)

  -- an oplock of another call breaks
  effect-untold : (w : Volume) (o : Oplock) (done : Effect) (test : Reply → Bool) → list_any (is_called client number o.call) w.pending ≡ false
      → times_told test client number (with_effect w o done) ≡ times_told test client number w
  effect-untold w o Stays test none = refl
  effect-untold w o Ends test none = untold (without_oplock w o.handle) o.call Nil false test none
  effect-untold w o (Begins level) test none = untold (with_break_begun w o.handle level) o.call level true test none
  effect-untold w o (Lowers level) test none = refl

  -- ---- what has come of the oplock

  -- no more ends of the call tell of a break
  record IsUntold (v w : Volume) : Type 0 where
    so : (ack : Bool) → times_told (asks_ack ack) client number w ≤ times_told (asks_ack ack) client number v

  -- the call pends no more, and was told so alone, and the oplock is as was told
  record IsDone (ack : Bool) (v w : Volume) : Type 0 where
    gone : how_many (is_call_of client number) w.pending ≡ 0
    left : IsLeft ack handle w
    other : times_told (asks_ack (not ack)) client number w ≤ times_told (asks_ack (not ack)) client number v

  -- the oplock has no break in progress and its call pends, and was told nothing; or it is as was told
  abbrev IsEither : Volume → Volume → Type 0
  IsEither v w = (IsUnbroken handle turn client number w × IsUntold v w) ⊎ (IsDone true v w ⊎ IsDone false v w)

  -- ---- a break goes on

  change-breaks : (change : Oplock → Oplock) (at : ℕ) (oplocks : List Oplock) → ((x : Oplock) → (change x).handle ≡ x.handle) → ((x : Oplock) → is_some (change x).target ≡ true)
      → list_any (is_breaking_of handle) oplocks ≡ true → list_any (is_breaking_of handle) (map (changed change at) oplocks) ≡ true
  change-breaks change at oplocks keeps breaks some =
      any-map (is_breaking_of handle) (changed change at) oplocks
      ∙ any-weaker (is_breaking_of handle) (λ x. is_breaking_of handle (changed change at x)) oplocks
      (λ x is. elim (cases_Bool (x.handle == at)) [
        | inr differs ↦ rw differs is
        | inl same ↦ rw (same, keeps x, breaks x, and_left (is_of handle x) (is_some x.target) is) refl
      ]) some

  other-breaks : (w : Volume) (o : Oplock) (done : Effect) → is_of handle o ≡ false → list_any (is_breaking_of handle) w.oplocks ≡ true → list_any (is_breaking_of handle) (with_effect w o done).oplocks ≡ true
  other-breaks w o Stays other some = some
  other-breaks w o Ends other some = rw (told-oplocks (without_oplock w o.handle) o.call Nil false)
      (any-filter (is_breaking_of handle) (λ (x : Oplock). not (x.handle == o.handle)) w.oplocks
      (λ x is. (let same : x.handle ≡ handle = eqb-true x.handle handle (and_left (is_of handle x) (is_some x.target) is) in
      let differs : (x.handle == o.handle) ≡ false = rw same (eqb-swap handle o.handle ∙ other) in rw differs refl)) some)
  other-breaks w o (Begins level) other some = rw (told-oplocks (with_break_begun w o.handle level) o.call level true) (change-breaks (begun (w.last_break + 1) level) o.handle w.oplocks (λ x. refl) (λ x. refl) some)
  other-breaks w o (Lowers level) other some = change-breaks (lowered level) o.handle w.oplocks (λ x. refl) (λ x. refl) some

  -- the handle's, without a break in progress
  abbrev is_fresh : Oplock → Bool
  is_fresh o = is_of handle o && not (is_some o.target)

  module _ (kind : Class) where
    abbrev step : Volume → Oplock → Volume
    step w o = with_effect w o (effect_on kind o)

    still-left : (ack : Bool) (w : Volume) (o : Oplock) → is_fresh o ≡ false → IsLeft ack handle w → IsLeft ack handle (step w o)
    still-left false w o fits left = (let few = Keeps.oplocks (Keeps-effect w o (effect_on kind o)) handle in let none = how_many-none (is_of handle) w.oplocks left in none-how_many (is_of handle) (step w o).oplocks (omega arith))
    still-left true w o fits left = elim (cases_Bool (is_of handle o)) [
      | inr other ↦ other-breaks w o (effect_on kind o) other left
      | inl here ↦ elim (option_cases o.target) [
        | inl fresh ↦ (let impossible : true ≡ false = rw (here, fresh) at fits in cc)
        | inr target ↦ (let is : effect_on kind o ≡ Lowers (in_both target.0 (keep kind)) = rw target.1 refl in
            subst (λ (done : Effect). list_any (is_breaking_of handle) (with_effect w o done).oplocks ≡ true) (sym is) (change-breaks (lowered (in_both target.0 (keep kind))) o.handle w.oplocks (λ x. refl) (λ x. refl) left))
      ]
    ]

    step-done : (ack : Bool) (v w : Volume) (o : Oplock) → is_fresh o ≡ false → IsDone ack v w → IsDone ack v (step w o)
    step-done ack v w o fits done = record {
      gone = (let fewer = Keeps.pending (Keeps-effect w o (effect_on kind o)) (is_call_of client number) in let none = done.gone in omega arith);
      left = still-left ack w o fits done.left;
      other = (let same = effect-untold w o (effect_on kind o) (asks_ack (not ack)) (none-stronger (is_call_of client number) (is_called client number o.call) w.pending
          (λ e both. and_left (is_call_of client number e) (option_map_or (λ at. e.0 == at) o.call false) both) (none-how_many (is_call_of client number) w.pending done.gone)) in
          let before = done.other in omega arith);
    }

    done-fold : (ack : Bool) (v : Volume) (oplocks : List Oplock) (w : Volume) → how_many is_fresh oplocks ≡ 0 → IsDone ack v w → IsDone ack v (fold step w oplocks)
    done-fold ack v [] w none done = done
    done-fold ack v (o ∷ oplocks) w none done = elim (cases_Bool (is_fresh o)) [
      | inl fresh ↦ absurd (let many : 1 + how_many is_fresh oplocks ≡ 0 = rw fresh at none in omega arith)
      | inr fits ↦ done-fold ack v oplocks (step w o) (let few : 0 + how_many is_fresh oplocks ≡ 0 = rw fits at none in omega arith) (step-done ack v w o fits done)
    ]

    -- the handle's own breaks, or stays
    own-step : (v w : Volume) (o : Oplock) → is_of handle o ≡ true → o.target ≡ None → o.call ≡ Some turn → AreApart w → IsUnbroken handle turn client number w → IsUntold v w → IsEither v (step w o)
    own-step v w o here unbroken call apart so none =
        let is : effect_on kind o ≡ effect kind o.level None = rw unbroken refl in
        subst (λ (done : Effect). IsEither v (with_effect w o done)) (sym is) (elim (cases_Bool (is_within o.level (keep kind))) [
          | inl stays ↦ rw stays (inl (so, none))
          | inr loses ↦ rw loses (elim (cases_Bool (is_within o.level R)) [
            | inl ends ↦ rw ends (inr (inr ended))
            | inr begins ↦ rw begins (inr (inl (breaks (in_both o.level (keep kind)))))
          ])
        ])
      where
        ended : IsDone false v (with_effect w o Ends)
        ended = record {
          gone = rw call (told-gone (without_oplock w o.handle) Nil false apart.turns so.pends);
          left = rw (told-oplocks (without_oplock w o.handle) o.call Nil false)
              (any-filter_and (is_of handle) (λ (x : Oplock). not (x.handle == o.handle)) w.oplocks
              ∙ any-never (λ x. is_of handle x && not (x.handle == o.handle)) w.oplocks
              (λ x. elim (cases_Bool (x.handle == o.handle)) [
                | inl same ↦ rw same (and_none (is_of handle x) false refl)
                | inr differs ↦ (let isnt : is_of handle x ≡ false = rw (← eqb-true o.handle handle here) differs in rw isnt refl)
              ]));
          other = (let same = fails-times (without_oplock w o.handle) o.call Nil false (asks_ack true) refl in let before = none.so true in omega arith);
        }

        breaks : (level : Level) → IsDone true v (with_effect w o (Begins level))
        breaks level = record {
          gone = rw call (told-gone (with_break_begun w o.handle level) level true apart.turns so.pends);
          left = rw (told-oplocks (with_break_begun w o.handle level) o.call level true)
              (any-map (is_breaking_of handle) (changed (begun (w.last_break + 1) level) o.handle) w.oplocks
              ∙ any-weaker (is_held_under handle turn) (λ x. is_breaking_of handle (changed (begun (w.last_break + 1) level) o.handle x)) w.oplocks
              (λ x is. (let its : is_of handle x ≡ true = and_left (is_of handle x) (not (is_some x.target) && is_granted_under turn x) is in
              let same : (x.handle == o.handle) ≡ true = rw (eqb-true o.handle handle here) its in rw (same, its) refl)) so.held);
          other = (let same = fails-times (with_break_begun w o.handle level) o.call level true (asks_ack false) refl in let before = none.so false in omega arith);
        }

    either-fold : (v : Volume) (oplocks : List Oplock) (w : Volume) → AreApart w → Fits handle turn oplocks → IsUnbroken handle turn client number w → IsUntold v w → IsEither v (fold step w oplocks)
    either-fold v [] w apart fits so none = inl (so, none)
    either-fold v (o ∷ oplocks) w apart fits so none = elim (cases_Bool (is_of handle o)) [
      | inl here ↦ (let whole = fits-own handle turn o oplocks fits here in go here (λ so none. either-fold v oplocks (step w o) next_apart rest so none) (own-step v w o here whole.0 whole.1 apart so none))
      | inr other ↦ either-fold v oplocks (step w o) next_apart rest (effect-unbroken handle turn client number w o other (effect_on kind o) (fits-other handle turn o oplocks fits other) apart.calls so)
          (record { so = λ ack. (let same = effect-untold w o (effect_on kind o) (asks_ack ack) (elsewhere other) in let before = none.so ack in omega arith) })
    ]
      where
        next_apart : AreApart (step w o)
        next_apart = apart-kept w (step w o) (Keeps-effect w o (effect_on kind o)) apart

        rest : Fits handle turn oplocks
        rest = fits-rest handle turn o oplocks fits

        elsewhere : is_of handle o ≡ false → list_any (is_called client number o.call) w.pending ≡ false
        elsewhere other = by o.call (fits-other handle turn o oplocks fits other)
          where
            by : (call : Option ℕ) → option_map_or (λ call. call == turn) call false ≡ false → list_any (is_called client number call) w.pending ≡ false
            by None free = any-never (is_called client number None) w.pending (λ e. and_none (is_call_of client number e) false refl)
            by (Some at) free = none-stronger (λ e. is_call_of client number e && not (e.0 == turn)) (is_called client number (Some at)) w.pending
                (λ e both. (let under : e.0 ≡ at = eqb-true e.0 at (and_right (is_call_of client number e) (e.0 == at) both) in
                let differs : (e.0 == turn) ≡ false = rw under free in rw (and_left (is_call_of client number e) (e.0 == at) both, differs) refl))
                (only-one (is_call_of client number) (λ e. e.0 == turn) w.pending (apart.calls client number)
                (any-weaker (λ (e : ℕ × Pending). e.0 == turn && is_call client number e.1) (λ e. is_call_of client number e && e.0 == turn) w.pending
                (λ e both. rw (and_left (e.0 == turn) (is_call client number e.1) both, and_right (e.0 == turn) (is_call client number e.1) both) refl) so.pends))

        no_fresh : is_of handle o ≡ true → how_many is_fresh oplocks ≡ 0
        no_fresh here =
            let few : 1 + how_many (is_of handle) oplocks ≤ 1 = rw here at fits.once in
            let weaker = how_many-weaker is_fresh (is_of handle) oplocks (λ x is. and_left (is_of handle x) (not (is_some x.target)) is) in omega arith

        go : is_of handle o ≡ true → (IsUnbroken handle turn client number (step w o) → IsUntold v (step w o) → IsEither v (fold step (step w o) oplocks)) → IsEither v (step w o) → IsEither v (fold step (step w o) oplocks)
        go here on (inl still) = on still.0 still.1
        go here on (inr (inl begun)) = inr (inl (done-fold true v oplocks (step w o) (no_fresh here) begun))
        go here on (inr (inr ended)) = inr (inr (done-fold false v oplocks (step w o) (no_fresh here) ended))

  -- ---- all that changes oplocks, pending calls and ends by breaks alone

  -- none is fresh
  left-fresh : (ack : Bool) (v : Volume) → AreApart v → IsLeft ack handle v → list_any is_fresh v.oplocks ≡ false
  left-fresh true v apart left = only-one (is_of handle) (λ o. is_some o.target) v.oplocks (apart.one handle) left
  left-fresh false v apart left = none-stronger (is_of handle) is_fresh v.oplocks (λ o is. and_left (is_of handle o) (not (is_some o.target)) is) left

  done-by : {kind : Class} {u v w : Volume} (ack : Bool) → ByBreaks kind v w → AreApart v → IsDone ack u v → IsDone ack u w
  done-by {u} ack (Still v w oplocks locks pending ended left last_break last_lock) apart done = record {
    gone = rw pending done.gone;
    left = same-left handle ack v w oplocks done.left;
    other = rw ended done.other;
  }
  done-by {u} ack (Locked v at_handle at count exclusive) apart done = record { gone = done.gone; left = same-left handle ack v _ refl done.left; other = done.other }
  done-by {kind} {u} ack (Broken v on acting key) apart done = done-fold kind ack u (chosen v on acting key) v
      (let few = among-chosen v on acting key is_fresh in let none = how_many-none is_fresh v.oplocks (left-fresh ack v apart done.left) in omega arith) done
  done-by {u} ack (Next t v w first second) apart done = done-by ack second (apart-by first apart) (done-by ack first apart done)

  either-by : {kind : Class} {u v w : Volume} → ByBreaks kind v w → AreApart v → IsEither u v → IsEither u w
  either-by {u} {v} {w} by apart (inr (inl done)) = inr (inl (done-by true by apart done))
  either-by {u} {v} {w} by apart (inr (inr done)) = inr (inr (done-by false by apart done))
  either-by {u} (Still v w oplocks locks pending ended left last_break last_lock) apart (inl so) = inl (record { held = rw oplocks so.0.held; pends = rw pending so.0.pends }, record { so = λ ack. rw ended (so.1.so ack) })
  either-by {u} (Locked v at_handle at count exclusive) apart (inl so) = inl (record { held = so.0.held; pends = so.0.pends }, record { so = so.1.so })
  either-by {kind} {u} (Broken v on acting key) apart (inl so) = either-fold kind u (chosen v on acting key) v apart (fits-chosen handle turn v on acting key apart so.0.held) so.0 so.1
  either-by {u} (Next t v w first second) apart (inl so) = either-by second (apart-by first apart) (either-by first apart (inl so))

  as_told : (v w : Volume) → IsEither v w → (ack : Bool) → times_told (asks_ack ack) client number v < times_told (asks_ack ack) client number w → IsLeft ack handle w
  as_told v w (inl so) ack more = absurd (let few = so.1.so ack in omega arith)
  as_told v w (inr (inl done)) true more = done.left
  as_told v w (inr (inl done)) false more = absurd (let few = done.other in omega arith)
  as_told v w (inr (inr done)) true more = absurd (let few = done.other in omega arith)
  as_told v w (inr (inr done)) false more = done.left

-- so the oplocks are as told
pub by-as_told : {kind : Class} (v w : Volume) → ByBreaks kind v w → AreApart v → IsAsTold v w
by-as_told v w by apart handle turn client number ack held pends more =
    as_told handle turn client number v w (either-by handle turn client number by apart (inl (record { held = held; pends = pends }, record { so = λ ack. omega arith }))) ack more
