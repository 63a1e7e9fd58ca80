-- Each step of a settlement keeps each pending call as it is, but the one that it takes up, and those that ask for an oplock or
-- answer a break. So one that is ready after no step stays through the settlement, unless it's a wait and all clients wait.
use Rattle.std.proofs.Common.{◌≡◌, ℕ, zero, suc, ◌≤◌, Bool, true, false, not, List, [], length, refl, ◌∙◌, arith, inl, inr}
use Rattle.std.specs.List.{list_any}
use Rattle.std.specs.Prelude.{◌==◌, ◌&&◌, if◌then◌else◌}
use Rattle.std.proofs.lemmas.Bool.{cases_Bool, eq-eqb, eqb-true, not-true}
use Rattle.fsa_types.specs.declared.reply.Body.TheVariants.{Nothing}
use Rattle.fsa_types.specs.declared.request.CallId.{CallId}
use Rattle.fsa_types.specs.declared.request.Request.TheVariants.{Cancel, Close}
use Rattle.fsa_types.specs.declared.request.What.{What}
use Rattle.fsa_types.specs.declared.request.What.TheVariants.{Ask, Leave}
use Rattle.fsa_types.specs.declared.status.Status.TheVariants.{NoMemory, Stalled}
use Rattle.fsa_model.specs.Close.{with_calls_ended}
use Rattle.fsa_model.specs.Once.{IsOnce, times}
use Rattle.fsa_model.specs.Outcome.{Outcome, Done, Stay, Hold}
use Rattle.fsa_model.specs.Settle.{Settling, repeated, settle_step, settled, starves, taken_up, taken_up_all, with_tried}
use Rattle.fsa_model.specs.Settling.{GoesOn, MaySettle, MayTakeUp, may_be_held}
use Rattle.fsa_model.specs.Try.{try}
use Rattle.fsa_model.specs.Turn.{volume_after}
use Rattle.fsa_model.specs.Volume.{Pending, Volume}
use Rattle.fsa_model.specs.Waiting.{all_wait, is_asked_before, is_held, is_ready, is_wait, next_ready, waits_in_order, with_stalled}
use Rattle.fsa_model.proofs.CountLaws.{and_left, and_right, and_true, how_many-none, none-how_many}
use Rattle.fsa_model.proofs.OnceLaws.{is_call_of, is_same-refl}
use Rattle.fsa_model.proofs.RowLaws.{any-map, any-weaker, eqb-swap, option_cases}
use Rattle.fsa_model.proofs.SettleLaws.{IsNext, next-may_be_held, next_ready-is, try-tries}
use Rattle.fsa_model.proofs.TakenLaws.{GoesOn-begins, GoesOn-settle_step, taken_up_all-goes}
use Rattle.fsa_model.proofs.TryLaws.{Leaves, Tries, TriesTo}
use Rattle.fsa_model.proofs.WatchLaws.{comes_over}
use Rattle.history_laws.specs.Holding.{asks_off, asks_oplock, calls_off, is_next}
use Rattle.history_laws.proofs.AnyLaws.{and_none, both_ends}
use Rattle.history_laws.proofs.AskedGrants.{GrantsAsked, asked-taken_up}
use Rattle.history_laws.proofs.CallsApart.{calls-apart, calls-stay, ends-stay, next-apart}
use Rattle.history_laws.proofs.HeldTries.{stays-try}

-- what can be held calls nothing off
held-none_off : (v : Volume) (client : ℕ) (what : What) (pending : Pending) → may_be_held what ≡ true → asks_off v client what pending ≡ false
held-none_off v client (Ask (Cancel number)) pending held = cc
held-none_off v client (Ask (Close handle)) pending held = cc
held-none_off v client Leave pending held = cc
held-none_off v client (Ask _) pending held = refl
held-none_off v client _ pending held = refl

-- ---- a step

module _ (s : Settling) (entry : ℕ × Pending) (test : ℕ × Pending → Bool) where
  -- what asks for no oplock, is pending under another turn than the call that is taken up, and passes
  abbrev others : ℕ × Pending → Bool
  others e = (not (asks_oplock e.1) && not (entry.0 == e.0)) && test e

  -- a held call that is taken up is tried
  stays-tried : (outcome : Outcome) → TriesTo Leaves s.volume outcome → list_any (λ e. others e && is_call_of entry.1.call.client entry.1.call.number e) s.volume.pending ≡ false
      → list_any others (volume_after outcome).pending ≡ true → list_any others (with_tried entry.0 entry.1 outcome).pending ≡ true
  stays-tried (Done w reply) tries apart some = ends-stay others w entry.1.call.client entry.1.call.number reply
      (none-how_many own w.pending (let fewer = tries.0.keeps.pending own in let none = how_many-none own s.volume.pending apart in omega arith)) some
    where
      own : ℕ × Pending → Bool
      own e = others e && is_call_of entry.1.call.client entry.1.call.number e
  stays-tried (Stay w interim) tries apart some = absurd tries
  stays-tried (Hold w blockers interim) tries apart some =
      any-map others (λ e. if e.0 == entry.0 then (e.0, record e.1 { blockers = blockers }) else e) w.pending
      ∙ any-weaker others (λ e. others (if e.0 == entry.0 then (e.0, record e.1 { blockers = blockers }) else e)) w.pending (λ e passes. (let differs = elsewhere e passes in rw differs passes)) some
    where
      elsewhere : (e : ℕ × Pending) → others e ≡ true → (e.0 == entry.0) ≡ false
      elsewhere e passes = eqb-swap e.0 entry.0 ∙ not-true (entry.0 == e.0) (and_right (not (asks_oplock e.1)) (not (entry.0 == e.0)) (and_left (not (asks_oplock e.1) && not (entry.0 == e.0)) (test e) passes))

  -- which ends as what it waits for has come, or starves, or is tried
  stays-taken_up : MaySettle s.volume → IsOnce s.volume → GrantsAsked s.volume → IsNext s.volume entry → list_any others s.volume.pending ≡ true → list_any others (taken_up s entry).volume.pending ≡ true
  stays-taken_up may once asked next some = elim (cases_Bool (is_held entry.1)) [
    | inr free ↦ rw free (let comes = comes_over s entry.1 free next.ready in
        rw comes.is (ends-stay others comes.seen entry.1.call.client entry.1.call.number comes.reply (rw comes.untouched.pending apart) (rw comes.untouched.pending some)))
    | inl held ↦ rw held (elim (cases_Bool (starves s.starved entry.1)) [
      | inl starving ↦ rw starving (ends-stay others s.volume entry.1.call.client entry.1.call.number (record { status = NoMemory; body = Nothing }) apart some)
      | inr plenty ↦ rw plenty (stays-tried (try s.volume entry.1.call entry.0)
          (Tries.so (try-tries s.volume entry.1.call entry.0 may.oplocks (next-may_be_held s.volume entry may next held))) apart (tried (next-may_be_held s.volume entry may next held)))
    ])
  ]
    where
      apart : list_any (λ e. others e && is_call_of entry.1.call.client entry.1.call.number e) s.volume.pending ≡ false
      apart = next-apart (is_call_of entry.1.call.client entry.1.call.number) others s.volume entry
          (let few : times entry.1.call.client entry.1.call.number s.volume ≤ 1 = once entry.1.call.client entry.1.call.number in omega arith) next (is_same-refl entry.1.call.client entry.1.call.number)
          (rw (eq-eqb entry.0 entry.0 refl, and_none (not (asks_oplock entry.1)) false refl) refl)

      tried : may_be_held entry.1.call.what ≡ true → list_any others (volume_after (try s.volume entry.1.call entry.0)).pending ≡ true
      tried can = any-weaker (λ e. not (asks_oplock e.1) && others e) others (volume_after (try s.volume entry.1.call entry.0)).pending (λ e both. and_right (not (asks_oplock e.1)) (others e) both)
          (stays-try s.volume entry.1.call others entry.0 once asked
          (any-weaker others (λ e. (not (asks_oplock e.1) && not (calls_off s.volume entry.1.call e.1)) && others e) s.volume.pending
          (λ e passes. (let asks_none = and_left (not (asks_oplock e.1)) (not (entry.0 == e.0)) (and_left (not (asks_oplock e.1) && not (entry.0 == e.0)) (test e) passes) in
          rw (passes, asks_none, held-none_off s.volume entry.1.call.client entry.1.call.what e.1 can) refl)) some))

-- what passes another test besides
asks_none : (b test : ℕ × Pending → Bool) (v : Volume) → list_any (λ e. (not (asks_oplock e.1) && b e) && test e) v.pending ≡ true → list_any (λ e. not (asks_oplock e.1) && test e) v.pending ≡ true
asks_none b test v some = any-weaker (λ e. (not (asks_oplock e.1) && b e) && test e) (λ e. not (asks_oplock e.1) && test e) v.pending (λ e all. both_ends (not (asks_oplock e.1)) (b e) (test e) all) some

-- the step of a settlement after so many, which changes nothing where no call is ready
pub step-stays : (own : Volume) (steps : ℕ) (s : Settling) → GoesOn own s → GrantsAsked s.volume → (test : ℕ × Pending → Bool)
    → list_any (λ e. (not (asks_oplock e.1) && not (is_next (repeated settle_step steps s).volume e.0)) && test e) (repeated settle_step steps s).volume.pending ≡ true
    → list_any (λ e. not (asks_oplock e.1) && test e) (repeated settle_step (suc steps) s).volume.pending ≡ true
step-stays own zero s on asked test some = elim (option_cases (next_ready s.volume)) [
  | inl none ↦ rw none (asks_none (λ e. true) test s.volume (rw none at some))
  | inr found ↦ rw found.1 (asks_none (λ e. not (found.0.0 == e.0)) test (taken_up s found.0).volume
      (stays-taken_up s found.0 test on.may on.once asked (next_ready-is s.volume found.0 found.1) (rw found.1 at some)))
]
step-stays own (suc steps) s on asked test some = elim (option_cases (next_ready s.volume)) [
  | inl none ↦ rw none (asks_none (λ e. true) test s.volume (rw (none, none) at some))
  | inr found ↦ rw found.1 (step-stays own steps (taken_up s found.0) (GoesOn-settle_step own s (taken_up s found.0) on (rw found.1 refl)).0
      (asked-taken_up s found.0 on.may (next_ready-is s.volume found.0 found.1) asked) test (rw found.1 at some))
]

-- ---- the steps, and the end

-- no call under this turn is ready
abbrev NoneReadyUnder : ℕ → Volume → Type 0
NoneReadyUnder turn v = list_any (λ e. e.0 == turn && is_ready v e.1) v.pending ≡ false

-- so none is next
none-next : (turn : ℕ) (v : Volume) → NoneReadyUnder turn v → is_next v turn ≡ false
none-next turn v none = elim (option_cases (next_ready v)) [
  | inl done ↦ rw done refl
  | inr found ↦ rw found.1 (elim (cases_Bool (found.0.0 == turn)) [
    | inr other ↦ other
    | inl its ↦ (
        let next : IsNext v found.0 = next_ready-is v found.0 found.1 in
        let some = next.is_there (λ e. e.0 == turn && is_ready v e.1) (rw (its, next.ready) refl) in
        let never = how_many-none (λ e. e.0 == turn && is_ready v e.1) v.pending none in absurd (omega arith))
  ])
]

module _ (turn : ℕ) (all : Bool) (test : Pending → Bool) where
  -- what is pending under the turn, asks for no oplock and passes; and is no wait, where all wait
  abbrev stays_if : ℕ × Pending → Bool
  stays_if e = e.0 == turn && not (asks_oplock e.1) && not (is_wait e.1.call.what && all) && test e.1

  -- as long as none under the turn is ready
  stays-steps : (own : Volume) (s : Settling) → GoesOn own s → GrantsAsked s.volume → ((steps : ℕ) → NoneReadyUnder turn (repeated settle_step steps s).volume) → (steps : ℕ)
      → list_any stays_if s.volume.pending ≡ true → list_any stays_if (repeated settle_step steps s).volume.pending ≡ true
  stays-steps own s on asked none zero some = some
  stays-steps own s on asked none (suc steps) some =
      let v : Volume = (repeated settle_step steps s).volume in
      any-weaker (λ e. not (asks_oplock e.1) && stays_if e) stays_if (repeated settle_step (suc steps) s).volume.pending (λ e both. and_right (not (asks_oplock e.1)) (stays_if e) both)
      (step-stays own steps s on asked stays_if
      (any-weaker stays_if (λ e. (not (asks_oplock e.1) && not (is_next v e.0)) && stays_if e) v.pending (λ e passes.
      (let its = and_left (e.0 == turn && not (asks_oplock e.1)) (not (is_wait e.1.call.what && all)) (and_left (e.0 == turn && not (asks_oplock e.1) && not (is_wait e.1.call.what && all)) (test e.1) passes) in
      let not_next : is_next v e.0 ≡ false = rw (eqb-true e.0 turn (and_left (e.0 == turn) (not (asks_oplock e.1)) its)) (none-next turn v (none steps)) in
      rw (passes, and_right (e.0 == turn) (not (asks_oplock e.1)) its, not_next) refl)) (stays-steps own s on asked none steps some)))

-- where all wait, only waits end
pub stalled-stays : (w : Volume) → IsOnce w → (test : ℕ × Pending → Bool) → list_any (λ e. not (is_wait e.1.call.what && all_wait w) && test e) w.pending ≡ true → list_any test (with_stalled w).pending ≡ true
stalled-stays w once test some = elim (cases_Bool (all_wait w)) [
  | inr isnt ↦ rw isnt (any-weaker (stays false) test w.pending (passes false) (rw isnt at some))
  | inl all ↦ rw all (any-weaker (stays true) test (with_calls_ended (λ _. Stalled) (waits_in_order w) w).pending (passes true) (calls-stay (stays true) (λ _. Stalled) (waits_in_order w) w
      (calls-apart (stays true) (λ p. is_wait p.call.what) (λ a b. is_asked_before a.1 b.1) w once no_wait) (rw all at some)))
]
  where
    stays : Bool → ℕ × Pending → Bool
    stays all e = not (is_wait e.1.call.what && all) && test e

    passes : (all : Bool) (e : ℕ × Pending) → stays all e ≡ true → test e ≡ true
    passes all e both = and_right (not (is_wait e.1.call.what && all)) (test e) both

    no_wait : (e : ℕ × Pending) → stays true e ≡ true → is_wait e.1.call.what ≡ false
    no_wait e both = by (is_wait e.1.call.what) (and_left (not (is_wait e.1.call.what && true)) (test e) both)
      where
        by : (a : Bool) → not (a && true) ≡ true → a ≡ false
        by false is = refl
        by true is = cc

-- a whole settlement
pub unready-settled : (own : Volume) (starved : List CallId) → MayTakeUp own → GrantsAsked own → (turn : ℕ) (test : Pending → Bool)
    → ((steps : ℕ) → NoneReadyUnder turn (repeated settle_step steps (record { volume = own; starved = starved; taken = [] })).volume)
    → list_any (stays_if turn (all_wait (taken_up_all own starved).volume) test) own.pending ≡ true → list_any (λ e. e.0 == turn && not (asks_oplock e.1) && test e.1) (settled own starved).volume.pending ≡ true
unready-settled own starved may asked turn test none some =
    let taken : Volume = (taken_up_all own starved).volume in
    stalled-stays taken (GoesOn.once (taken_up_all-goes own starved may).1) (λ e. e.0 == turn && not (asks_oplock e.1) && test e.1)
    (any-weaker (stays_if turn (all_wait taken) test) (λ e. not (is_wait e.1.call.what && all_wait taken) && (e.0 == turn && not (asks_oplock e.1) && test e.1)) taken.pending
    (λ e passes. and_true (not (is_wait e.1.call.what && all_wait taken)) (e.0 == turn && not (asks_oplock e.1) && test e.1)
    (and_right (e.0 == turn && not (asks_oplock e.1)) (not (is_wait e.1.call.what && all_wait taken)) (and_left (e.0 == turn && not (asks_oplock e.1) && not (is_wait e.1.call.what && all_wait taken)) (test e.1) passes))
    (both_ends (e.0 == turn && not (asks_oplock e.1)) (not (is_wait e.1.call.what && all_wait taken)) (test e.1) passes))
    (stays-steps turn (all_wait taken) test own (record { volume = own; starved = starved; taken = [] }) (GoesOn-begins own starved may) asked none (length own.pending) some))
