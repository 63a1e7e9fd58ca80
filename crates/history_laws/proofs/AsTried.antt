-- In each turn of a run what is pending of a call is what its last try left: once the turn's call has been tried that is pending
-- under the turn as the try left it, and so is each held call that a step of the settlement takes up, under its own turn.
use Rattle.std.proofs.Common.{◌≡◌, ℕ, zero, suc, ◌≤◌, Bool, true, false, not, List, [], ◌∷◌, ◌++◌, refl, sym, ◌∙◌, arith, eq-eqb, inl, inr, Some, None}
use Rattle.std.specs.List.{list_any}
use Rattle.std.specs.Prelude.{◌==◌, ◌&&◌, nat_lt}
use Rattle.std.proofs.lemmas.Bool.{cases_Bool, eqb-true, lt-ltb}
use Rattle.std.proofs.lemmas.List.Folds.{list_any-append}
use Rattle.fsa_types.specs.declared.reply.Blocker.{Blocker}
use Rattle.fsa_types.specs.declared.request.Call.{Call}
use Rattle.fsa_model.specs.Edits.{is_call}
use Rattle.fsa_model.specs.Engine.{CallsDiffer, own_tried}
use Rattle.fsa_model.specs.History.{HistoryEntry}
use Rattle.fsa_model.specs.Once.{IsOnce, how_many, made, times}
use Rattle.fsa_model.specs.Outcome.{Outcome, Done, Stay, Hold}
use Rattle.fsa_model.specs.Settle.{Settling, repeated, settle_step, starves, taken_up, with_tried}
use Rattle.fsa_model.specs.Settling.{GoesOn, GrantsNoneHeld, MaySettle, MayTakeUp, MayTurn, is_under}
use Rattle.fsa_model.specs.Setup.{Setup}
use Rattle.fsa_model.specs.Try.{try}
use Rattle.fsa_model.specs.Turn.{answered, turn_number}
use Rattle.fsa_model.specs.Volume.{Pending, Volume}
use Rattle.fsa_model.specs.Waiting.{is_held, next_ready}
use Rattle.fsa_model.proofs.CountLaws.{and_left, and_right, how_many-none, how_many-weaker, none-how_many, some-how_many}
use Rattle.fsa_model.proofs.EngineLaws.{new-before, run-before}
use Rattle.fsa_model.proofs.OnceLaws.{is_call_of, is_same-refl}
use Rattle.fsa_model.proofs.RowLaws.{any-filter_none, any-map, any-weaker, change_at, option_cases, or-false}
use Rattle.fsa_model.proofs.SettleLaws.{IsNext, next-may_be_held, next_ready-is, try-tries}
use Rattle.fsa_model.proofs.TakenLaws.{GoesOn-begins, GoesOn-settle_step}
use Rattle.fsa_model.proofs.TryLaws.{Keeps, Leaves, Tries, TriesTo}
use Rattle.fsa_model.proofs.TurnLaws.{TriedTo, try-keeps}
use Rattle.history_laws.specs.AsTried.{CallsPendAsTried, leaves_pending, pends_under}
use Rattle.history_laws.proofs.AnyLaws.{any-filter_and, none-stronger}
use Rattle.history_laws.proofs.CallsApart.{next-apart}
use Rattle.history_laws.proofs.TurnByTurn.{differ-before, own-takes_up}

-- ---- the turn's own call

module _ (v : Volume) (call : Call) (test : Pending → Bool) where
  -- before the turn nothing is pending under its number, and its try makes nothing pending
  none-under : (w : Volume) → MayTurn v → ((p : ℕ × Pending → Bool) → how_many p w.pending ≤ how_many p v.pending) → pends_under (turn_number v) test w ≡ false
  none-under w may keeps = none-how_many (λ e. e.0 == turn_number v && test e.1) w.pending
      (let fewer = keeps (λ e. e.0 == turn_number v && test e.1) in
      let later = how_many-weaker (λ e. e.0 == turn_number v && test e.1) (λ e. nat_lt (made v) e.0) v.pending
      (λ e both. (let here : e.0 ≡ turn_number v = eqb-true e.0 (turn_number v) (and_left (e.0 == turn_number v) (test e.1) both) in lt-ltb (made v) e.0 (omega arith))) in
      let none = may.turns in omega arith)

  -- so what is pending under it then is the call
  own-pends : (w : Volume) (blockers : List Blocker) → pends_under (turn_number v) test w ≡ false
      → list_any (λ e. e.0 == turn_number v && test e.1) (w.pending ++ (turn_number v, record { call = call; blockers = blockers }) ∷ []) ≡ test (record { call = call; blockers = blockers })
  own-pends w blockers none =
      list_any-append (λ e. e.0 == turn_number v && test e.1) w.pending ((turn_number v, record { call = call; blockers = blockers }) ∷ [])
      ∙ rw (none, eq-eqb (turn_number v) (turn_number v) refl) (or-false (test (record { call = call; blockers = blockers })))

  own-as_tried : (outcome : Outcome) → MayTurn v → TriedTo v (turn_number v) call.what outcome
      → pends_under (turn_number v) test (answered call (turn_number v) outcome) ≡ leaves_pending test call outcome
  own-as_tried (Done w reply) may tried =
      any-filter_none (λ e. e.0 == turn_number v && test e.1) (λ e. not (is_call call.client call.number e.1)) w.pending (none-under w may tried.0.keeps.pending)
  own-as_tried (Stay w interim) may tried = own-pends w [] (none-under w may tried.pending)
  own-as_tried (Hold w blockers interim) may tried = own-pends w blockers (none-under w may tried.0.keeps.pending)

-- ---- a held call that is taken up

module _ (v : Volume) (entry : ℕ × Pending) (test : Pending → Bool) (may : MaySettle v) (next : IsNext v entry) where
  -- under its turn it alone is pending, and still it alone once it has been tried
  none-other : (w : Volume) (T : ℕ × Pending → Bool) → Keeps v w → T entry ≡ false → list_any (λ e. T e && is_under entry.0 e) w.pending ≡ false
  none-other w T keeps isnt = none-how_many (λ e. T e && is_under entry.0 e) w.pending
      (let fewer = keeps.pending (λ e. T e && is_under entry.0 e) in
      let none = how_many-none (λ e. T e && is_under entry.0 e) v.pending (next-apart (is_under entry.0) T v entry (may.turns entry.0) next (eq-eqb entry.0 entry.0 refl) isnt) in omega arith)

  -- so it goes as it ends, and as it's held anew it's pending with these blockers
  held-as_tried : (outcome : Outcome) → IsOnce v → GrantsNoneHeld v → is_held entry.1 ≡ true → TriesTo Leaves v outcome
      → pends_under entry.0 test (with_tried entry.0 entry.1 outcome) ≡ leaves_pending test entry.1.call outcome
  held-as_tried (Done w reply) once none_held held tries =
      any-filter_and (λ e. e.0 == entry.0 && test e.1) (λ e. not (is_call entry.1.call.client entry.1.call.number e.1)) w.pending
      ∙ none-stronger (λ e. not (is_call_of entry.1.call.client entry.1.call.number e) && is_under entry.0 e)
      (λ e. (e.0 == entry.0 && test e.1) && not (is_call entry.1.call.client entry.1.call.number e.1)) w.pending
      (λ e all. by (e.0 == entry.0) (test e.1) (not (is_call entry.1.call.client entry.1.call.number e.1)) all)
      (none-other w (λ e. not (is_call_of entry.1.call.client entry.1.call.number e)) tries.0.keeps (rw (is_same-refl entry.1.call.client entry.1.call.number) refl))
    where
      by : (a b c : Bool) → ((a && b) && c) ≡ true → (c && a) ≡ true
      by true true true all = refl
      by true true false all = all
      by true false c all = cc
      by false b c all = cc
  held-as_tried (Stay w interim) once none_held held tries = absurd tries
  held-as_tried (Hold w blockers interim) once none_held held tries =
      any-map (λ e. e.0 == entry.0 && test e.1) changed w.pending ∙ elim (cases_Bool (test (record { call = entry.1.call; blockers = blockers }))) [
        | inr fails ↦ none-stronger (λ e. passes e && is_under entry.0 e) pends w.pending back (none-other w passes tries.0.keeps fails) ∙ sym fails
        | inl is ↦ (
            let many = next.is_there (λ e. is_held e.1 && (is_under entry.0 e && passes e)) (rw (held, eq-eqb entry.0 entry.0 refl, is) refl) in
            let same = tries.0.held once none_held (λ e. is_under entry.0 e && passes e) in
            any-weaker (λ e. is_held e.1 && (is_under entry.0 e && passes e)) pends w.pending (λ e both. on e (and_right (is_held e.1) (is_under entry.0 e && passes e) both))
            (some-how_many (λ e. is_held e.1 && (is_under entry.0 e && passes e)) w.pending (omega arith)) ∙ sym is)
      ]
    where
      changed : ℕ × Pending → ℕ × Pending
      changed = change_at (λ row. record row { blockers = blockers }) entry.0

      passes : ℕ × Pending → Bool
      passes e = test (record e.1 { blockers = blockers })

      pends : ℕ × Pending → Bool
      pends e = (changed e).0 == entry.0 && test (changed e).1

      back : (e : ℕ × Pending) → pends e ≡ true → (passes e && is_under entry.0 e) ≡ true
      back e so = elim (cases_Bool (e.0 == entry.0)) [
        | inl here ↦ (let its : passes e ≡ true = rw (here, here) at so in rw (its, here) refl)
        | inr other ↦ (let impossible : false ≡ true = rw (other, other) at so in cc)
      ]

      on : (e : ℕ × Pending) → (is_under entry.0 e && passes e) ≡ true → pends e ≡ true
      on e both = elim (cases_Bool (e.0 == entry.0)) [
        | inl here ↦ rw (here, here) (rw here at both)
        | inr other ↦ (let impossible : false ≡ true = rw other at both in cc)
      ]

-- the step of a settlement after so many
step-as_tried : (own : Volume) (steps : ℕ) (s : Settling) → GoesOn own s → (entry : ℕ × Pending) (test : Pending → Bool)
    → next_ready (repeated settle_step steps s).volume ≡ Some entry → is_held entry.1 ≡ true → starves (repeated settle_step steps s).starved entry.1 ≡ false
    → pends_under entry.0 test (repeated settle_step (suc steps) s).volume ≡ leaves_pending test entry.1.call (try (repeated settle_step steps s).volume entry.1.call entry.0)
step-as_tried own zero s on entry test found held plenty =
    let next : IsNext s.volume entry = next_ready-is s.volume entry found in
    rw (found, held, plenty) (held-as_tried s.volume entry test on.may next (try s.volume entry.1.call entry.0) on.once on.none_held held
    (Tries.so (try-tries s.volume entry.1.call entry.0 on.may.oplocks (next-may_be_held s.volume entry on.may next held))))
step-as_tried own (suc steps) s on entry test found held plenty = elim (option_cases (next_ready s.volume)) [
  | inl none ↦ (let impossible : None ≡ Some entry = rw (none, none) at found in cc)
  | inr some ↦ rw some.1 (step-as_tried own steps (taken_up s some.0) (GoesOn-settle_step own s (taken_up s some.0) on (rw some.1 refl)).0 entry test (rw some.1 at found) held (rw some.1 at plenty))
]

-- ---- in each turn of a run

pub calls-pend_as_tried : (setup : Setup) (history : List HistoryEntry) → CallsDiffer history → CallsPendAsTried setup history
calls-pend_as_tried setup history differ front later entry r is runs = record {
  own = λ test. own-as_tried r.volume entry.call test (try r.volume entry.call (turn_number r.volume)) may (try-keeps r.volume entry.call (turn_number r.volume) may.take_up.may.oplocks);
  taken_up = λ steps taken test. step-as_tried (own_tried r.volume entry.call) steps (record { volume = own_tried r.volume entry.call; starved = entry.starved; taken = [] })
      (GoesOn-begins (own_tried r.volume entry.call) entry.starved own_may) taken test;
}
  where
    differ_to : CallsDiffer (front ++ entry ∷ [])
    differ_to = differ-before history front later entry is differ

    may : MayTurn r.volume
    may = (run-before setup front entry r differ_to runs).may

    new : times entry.call.client entry.call.number r.volume ≡ 0
    new = new-before setup front entry r differ_to runs

    own_may : MayTakeUp (own_tried r.volume entry.call)
    own_may = own-takes_up r.volume entry.call may new
