-- How waits come and go in the run of a history: turns of other clients add none of this client's, and its own turn
-- adds its own call at most.
use Rattle.std.proofs.Common.{◌≡◌, ◌⊎◌, ℕ, ◌+◌, ◌<◌, ◌≤◌, Bool, true, false, not, List, [], ◌∷◌, ◌++◌, length, refl, ap, sym, subst, ◌∙◌, arith, inl, inr, Some, None, Option, slice_get, suc}
use Rattle.std.specs.Prelude.{option_and_then, option_map, find}
use Rattle.std.proofs.lemmas.Bool.{cases_Bool}
use Rattle.fsa_types.specs.declared.request.Call.{Call}
use Rattle.fsa_types.specs.declared.request.CallId.{CallId}
use Rattle.fsa_types.specs.declared.reply.Reply.{Reply}
use Rattle.fsa_types.specs.declared.status.Status.TheVariants.{Stalled}
use Rattle.fsa_model.specs.Edits.{is_call}
use Rattle.fsa_model.specs.Engine.{CallsDiffer, ends_at_once, is_entry_of}
use Rattle.fsa_model.specs.History.{HistoryEntry, Run, begun, run, steps, turn_on, with_turn}
use Rattle.fsa_model.specs.Once.{how_many, is_end, times}
use Rattle.fsa_model.specs.Outcome.{Outcome, Done, Stay, Hold}
use Rattle.fsa_model.specs.Settle.{Settling, settle_step, settled, taken_up_all}
use Rattle.fsa_model.specs.Setup.{Setup}
use Rattle.fsa_model.specs.Turn.{Turned, answer_of, answered, settlement, try, turn, turn_number, turned, volume_after}
use Rattle.fsa_model.specs.Volume.{Pending, Volume}
use Rattle.fsa_model.specs.Waiting.{all_wait, waits_in_order, with_stalled}
use Rattle.fsa_model.proofs.CountLaws.{how_many-append, how_many-filter_le, how_many-length, how_many-some}
use Rattle.fsa_model.proofs.EngineLaws.{turn-turned}
use Rattle.fsa_model.proofs.OnceHistory.{Runs, is_entry_of-self, run-runs}
use Rattle.fsa_model.proofs.OnceLaws.{fewer-calls_ended}
use Rattle.fsa_model.proofs.RowLaws.{find-any, option_cases}
use Rattle.fsa_model.proofs.SettleLaws.{Steps-settle_step, how_many_free, is_free, repeated-ends, some_equal}
use Rattle.fsa_model.proofs.TakenLaws.{GoesOn, GoesOn-begins, GoesOn-settle_step, MayTakeUp}
use Rattle.fsa_model.proofs.TurnLaws.{Adds-answered, MayTurn, TriedTo, Turns, try-keeps, turn-turns}
use Rattle.fsa_model.proofs.WaitLaws.{find-passes}
use Rattle.history_laws.proofs.TurnByTurn.{differ-front}

-- how many pending calls pass the test
abbrev pub pending_that : (Call → Bool) → Volume → ℕ
pending_that test v = how_many (λ e. test e.1.call) v.pending

-- ---- a settlement makes no call pending

stalled_fewer : (test : Call → Bool) (v : Volume) → pending_that test (with_stalled v) ≤ pending_that test v
stalled_fewer test v = elim (cases_Bool (all_wait v)) [
  | inl all ↦ rw all (fewer-calls_ended (λ _. Stalled) (waits_in_order v) v (λ e. test e.1.call))
  | inr some ↦ rw some (omega arith)
]

settled_fewer : (test : Call → Bool) (v : Volume) (starved : List CallId) → MayTakeUp v → pending_that test (settled v starved).volume ≤ pending_that test v
settled_fewer test v starved may = (let last = stalled_fewer test (taken_up_all v starved).volume in let loop = go.1.1 in omega arith)
  where
    KeepsCount : Settling → Type 0
    KeepsCount s = GoesOn v s × (pending_that test s.volume ≤ pending_that test v)

    step : (s t : Settling) → KeepsCount s → settle_step s ≡ Some t → KeepsCount t × (how_many_free t.volume < how_many_free s.volume)
    step s t on stepped =
        let next = GoesOn-settle_step v s t on.0 stepped in
        let fewer = (Steps-settle_step s t on.0.may stepped).pending (λ turn call. test call) in
        let before = on.1 in
        ((next.0, omega arith), next.1)

    go : (settle_step (taken_up_all v starved) ≡ None) × KeepsCount (taken_up_all v starved)
    go = repeated-ends settle_step KeepsCount (λ s. how_many_free s.volume) step (length v.pending) (record { volume = v; starved = starved; taken = [] })
        (GoesOn-begins v starved may, omega arith) (how_many-length (is_free v) v.pending)

-- ---- the turn's own call

tried_fewer : (test : Call → Bool) (v : Volume) (call : Call) (turn : ℕ) (outcome : Outcome) → TriedTo v turn call.what outcome → pending_that test (volume_after outcome) ≤ pending_that test v
tried_fewer test v call turn (Done w reply) tried = tried.0.keeps.pending (λ e. test e.1.call)
tried_fewer test v call turn (Stay w interim) tried = tried.pending (λ e. test e.1.call)
tried_fewer test v call turn (Hold w blockers interim) tried = tried.0.keeps.pending (λ e. test e.1.call)

-- it ends at once, or it fails the test
abbrev AddsNone : (Call → Bool) → Call → Outcome → Type 0
AddsNone test call outcome = (test call ≡ false) ⊎ (ends_at_once (answer_of outcome) ≡ true)

answered_fewer : (test : Call → Bool) (call : Call) (turn : ℕ) (outcome : Outcome) → AddsNone test call outcome → pending_that test (answered call turn outcome) ≤ pending_that test (volume_after outcome)
answered_fewer test call turn (Done w reply) none = how_many-filter_le (λ (e : ℕ × Pending). test e.1.call) (λ e. not (is_call call.client call.number e.1)) w.pending
answered_fewer test call turn (Stay w interim) (inl fails) =
    let one = how_many-append (λ (e : ℕ × Pending). test e.1.call) w.pending ((turn, record { call = call; blockers = [] }) ∷ []) in
    let none : how_many (λ (e : ℕ × Pending). test e.1.call) ((turn, record { call = call; blockers = [] }) ∷ []) ≡ 0 = rw fails refl in omega arith
answered_fewer test call turn (Hold w blockers interim) (inl fails) =
    let one = how_many-append (λ (e : ℕ × Pending). test e.1.call) w.pending ((turn, record { call = call; blockers = blockers }) ∷ []) in
    let none : how_many (λ (e : ℕ × Pending). test e.1.call) ((turn, record { call = call; blockers = blockers }) ∷ []) ≡ 0 = rw fails refl in omega arith
answered_fewer test call turn (Stay w interim) (inr ends) = absurd (let f : false ≡ true = ends in cc)
answered_fewer test call turn (Hold w blockers interim) (inr ends) = absurd (let f : false ≡ true = ends in cc)

-- a turn whose own call fails the test, or ends at once, leaves no more calls pending that pass it
pub turn-fewer : (test : Call → Bool) (v : Volume) (call : Call) (starved : List CallId) (t : Turned) → MayTurn v → times call.client call.number v ≡ 0
    → (test call ≡ false) ⊎ (ends_at_once t.out.answer ≡ true) → turn v call starved ≡ Some t → pending_that test t.volume ≤ pending_that test v
turn-fewer test v call starved t may none adds is =
    subst (λ (t : Turned). pending_that test t.volume ≤ pending_that test v) same
    (let first = tried_fewer test v call (turn_number v) outcome tried in
    let second = answered_fewer test call (turn_number v) outcome (of adds) in
    let third = settled_fewer test (answered call (turn_number v) outcome) starved (Adds-answered v call outcome may none tried).may.take_up in omega arith)
  where
    outcome : Outcome
    outcome = try v call (turn_number v)

    tried : TriedTo v (turn_number v) call.what outcome
    tried = try-keeps v call (turn_number v) may.take_up.may.oplocks

    same : turned v outcome (answered call (turn_number v) outcome) starved (settlement v call starved).volume ≡ t
    same = turn-turned v call starved t is

    of : (test call ≡ false) ⊎ (ends_at_once t.out.answer ≡ true) → AddsNone test call outcome
    of (inl fails) = inl fails
    of (inr ends) = inr (ap (λ (t : Turned). ends_at_once t.out.answer) same ∙ ends)

-- ---- more turns

steps-append : {S F : Type 0} (step : S → F → Option S) (s : S) (front back : List F) → steps step s (front ++ back) ≡ option_and_then (λ after. steps step after back) (steps step s front)
steps-append step s [] back = refl
steps-append {S} {F} step s (item ∷ front) back =
    elim (step s item) as (λ o. option_and_then (λ after. steps step after (front ++ back)) o ≡ option_and_then (λ after. steps step after back) (option_and_then (λ after. steps step after front) o)) [
      | None ↦ refl
      | Some after ↦ steps-append step after front back
    ]

-- turns of which no own call passes the test leave no more pending that do
steps-fewer : (test : Call → Bool) (r s : Run) (history : List HistoryEntry) → MayTurn r.volume
    → ((client number : ℕ) → times client number r.volume + how_many (is_entry_of client number) history ≤ 1)
    → ((k : ℕ) (entry : HistoryEntry) → slice_get history k ≡ Some entry → test entry.call ≡ false) → steps turn_on r history ≡ Some s → pending_that test s.volume ≤ pending_that test r.volume
steps-fewer test r s [] may differ fails is = (let same : r ≡ s = some_equal r s is in let counts = ap (λ (r : Run). pending_that test r.volume) same in omega arith)
steps-fewer test r s (entry ∷ history) may differ fails is = elim (option_cases (turn r.volume entry.call entry.starved)) [
  | inl none ↦ (let impossible : None ≡ Some s = rw none at is in cc)
  | inr some ↦ (let turns : Turns r.volume entry.call some.0.volume = turn-turns r.volume entry.call entry.starved some.0 may new some.1 in
      let rest = steps-fewer test (with_turn r some.0) s history turns.may
      (λ client number. (let one = turns.times client number in let few = differ client number in omega arith)) (λ k later at. fails (suc k) later at) (rw some.1 at is) in
      let first = turn-fewer test r.volume entry.call entry.starved some.0 may new (inl (fails 0 entry refl)) some.1 in omega arith)
]
  where
    new : times entry.call.client entry.call.number r.volume ≡ 0
    new = (let few = differ entry.call.client entry.call.number in
        let self : is_entry_of entry.call.client entry.call.number entry ≡ true = is_entry_of-self entry in
        let one : times entry.call.client entry.call.number r.volume + (1 + how_many (is_entry_of entry.call.client entry.call.number) history) ≤ 1 = rw self at few in omega arith)

-- ---- the run of a history's beginning

pub run-front : (setup : Setup) (front later : List HistoryEntry) (s : Run) → run setup (front ++ later) ≡ Some s → (r : Run) × (run setup front ≡ Some r) × (steps turn_on r later ≡ Some s)
run-front setup front later s is = elim (option_cases (run setup front)) [
  | inl none ↦ (let impossible : None ≡ Some s = rw none at there in cc)
  | inr some ↦ (some.0, some.1, rw some.1 at there)
]
  where
    there : option_and_then (λ after. steps turn_on after later) (run setup front) ≡ Some s
    there = sym (steps-append turn_on (begun setup) front later) ∙ is

-- the turn of the last entry
pub record LastTurn (setup : Setup) (front : List HistoryEntry) (entry : HistoryEntry) (s : Run) : Type 0 where
  pub before : Run
  pub runs : run setup front ≡ Some before
  pub turned : Turned
  pub turns : turn before.volume entry.call entry.starved ≡ Some turned
  pub is : with_turn before turned ≡ s

pub run-last : (setup : Setup) (front : List HistoryEntry) (entry : HistoryEntry) (s : Run) → run setup (front ++ entry ∷ []) ≡ Some s → LastTurn setup front entry s
run-last setup front entry s is =
    let there = run-front setup front (entry ∷ []) s is in
    elim (option_cases (turn there.0.volume entry.call entry.starved)) [
      | inl none ↦ (let step : steps turn_on there.0 (entry ∷ []) ≡ Some s = there.2 in let impossible : None ≡ Some s = rw none at step in cc)
      | inr some ↦ (let step : steps turn_on there.0 (entry ∷ []) ≡ Some s = there.2 in
          record { before = there.0; runs = there.1; turned = some.0; turns = some.1; is = some_equal (with_turn there.0 some.0) s (rw some.1 at step) })
    ]

pub run-may_turn : (setup : Setup) (history : List HistoryEntry) (r : Run) → CallsDiffer history → run setup history ≡ Some r → MayTurn r.volume
run-may_turn setup history r differ is = Runs.may (run-runs setup history r differ is)

-- each call that was made is pending or has ended, once
pub run-times : (setup : Setup) (history : List HistoryEntry) (r : Run) (client number : ℕ) → CallsDiffer history → run setup history ≡ Some r
    → times client number r.volume ≡ how_many (is_entry_of client number) history
run-times setup history r client number differ is = (let all : times client number r.volume ≡ 0 + how_many (is_entry_of client number) history = Runs.times (run-runs setup history r differ is) client number in omega arith)

-- entries whose calls all fail a test leave no more pending that pass it
pub later-fewer : (test : Call → Bool) (setup : Setup) (front later : List HistoryEntry) (r s : Run) → CallsDiffer (front ++ later)
    → ((k : ℕ) (entry : HistoryEntry) → slice_get later k ≡ Some entry → test entry.call ≡ false) → run setup front ≡ Some r → run setup (front ++ later) ≡ Some s
    → pending_that test s.volume ≤ pending_that test r.volume
later-fewer test setup front later r s differ fails first whole =
    let there = run-front setup front later s whole in
    let same : there.0 ≡ r = some_equal there.0 r (sym there.1 ∙ first) in
    steps-fewer test r s later (run-may_turn setup front r (differ-front front later differ) first)
    (λ client number. (let few = differ client number in let both = how_many-append (is_entry_of client number) front later in let counts = run-times setup front r client number (differ-front front later differ) first in omega arith))
    fails (subst (λ (r : Run). steps turn_on r later ≡ Some s) same there.2)

-- the own call of the last entry
pub last-fewer : (test : Call → Bool) (setup : Setup) (front : List HistoryEntry) (entry : HistoryEntry) (s : Run) → CallsDiffer (front ++ entry ∷ [])
    → (last : LastTurn setup front entry s) → (test entry.call ≡ false) ⊎ (ends_at_once last.turned.out.answer ≡ true) → pending_that test s.volume ≤ pending_that test last.before.volume
last-fewer test setup front entry s differ last adds =
    subst (λ (r : Run). pending_that test r.volume ≤ pending_that test last.before.volume) last.is
    (turn-fewer test last.before.volume entry.call entry.starved last.turned (run-may_turn setup front last.before (differ-front front (entry ∷ []) differ) last.runs) new adds last.turns)
  where
    new : times entry.call.client entry.call.number last.before.volume ≡ 0
    new = (let few = differ entry.call.client entry.call.number in
        let both = how_many-append (is_entry_of entry.call.client entry.call.number) front (entry ∷ []) in
        let self : is_entry_of entry.call.client entry.call.number entry ≡ true = is_entry_of-self entry in
        let one : how_many (is_entry_of entry.call.client entry.call.number) (entry ∷ []) ≡ 1 = rw self refl in
        let counts = run-times setup front last.before entry.call.client entry.call.number (differ-front front (entry ∷ []) differ) last.runs in omega arith)

-- what has ended isn't pending
pub ended-not_pending : (setup : Setup) (history : List HistoryEntry) (r : Run) (client number : ℕ) (reply : Reply) → CallsDiffer history → run setup history ≡ Some r
    → option_map (λ end. end.reply) (find (is_end client number) r.volume.ended) ≡ Some reply → how_many (λ e. is_call client number e.1) r.volume.pending ≡ 0
ended-not_pending setup history r client number reply differ is ended = elim (option_cases (find (is_end client number) r.volume.ended)) [
  | inl none ↦ (let impossible : None ≡ Some reply = rw none at ended in cc)
  | inr some ↦ (let passes = find-passes (is_end client number) r.volume.ended some.0 some.1 in
      let there = how_many-some (is_end client number) r.volume.ended (find-any (is_end client number) (is_end client number) r.volume.ended some.0 some.1 passes) in
      let counts = run-times setup history r client number differ is in let few = differ client number in omega arith)
]
