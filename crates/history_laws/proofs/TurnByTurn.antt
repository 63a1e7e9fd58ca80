-- What each step of a settlement keeps, a settlement keeps; and what each turn keeps holds over a run.
use Rattle.std.proofs.Common.{◌≡◌, ℕ, zero, suc, ◌+◌, ◌≤◌, true, List, [], ◌∷◌, ◌++◌, length, refl, ap, sym, subst, ◌∙◌, arith, inl, inr, Option, Some, None}
use Rattle.std.specs.Prelude.{option_map, option_and_then}
use Rattle.fsa_types.specs.declared.request.Call.{Call}
use Rattle.fsa_types.specs.declared.request.CallId.{CallId}
use Rattle.fsa_model.specs.Engine.{CallsDiffer, is_entry_of, own_tried}
use Rattle.fsa_model.specs.History.{HistoryEntry, Run, begun, run, steps, turn_on, with_turn}
use Rattle.fsa_model.specs.Once.{how_many, times}
use Rattle.fsa_model.specs.Settle.{Settling, repeated, settle_step, taken_up, taken_up_all}
use Rattle.fsa_model.specs.Settling.{GoesOn, MaySettle, MayTakeUp, MayTurn}
use Rattle.fsa_model.specs.Setup.{Setup}
use Rattle.fsa_model.specs.Turn.{Turned, settlement, try, turn, turn_number}
use Rattle.fsa_model.specs.Volume.{Pending, Volume, fresh}
use Rattle.fsa_model.specs.Waiting.{next_ready, with_stalled}
use Rattle.fsa_model.proofs.CoherenceRuns.{turn_on-settled}
use Rattle.fsa_model.proofs.CountLaws.{how_many-append}
use Rattle.fsa_model.proofs.OnceHistory.{MayTurn-fresh, Runs, is_entry_of-self, run-runs}
use Rattle.fsa_model.proofs.RowLaws.{option_cases}
use Rattle.fsa_model.proofs.SettleLaws.{IsNext, Steps, Steps-taken_up, next_ready-is, some_equal}
use Rattle.fsa_model.proofs.TakenLaws.{GoesOn-settle_step}
use Rattle.fsa_model.proofs.TurnLaws.{Adds-answered, Turns, settlement-turns, try-keeps}

-- ---- a settlement

module _ (P : Volume → Type 0) (step : (s : Settling) (entry : ℕ × Pending) → MaySettle s.volume → IsNext s.volume entry → P s.volume → P (taken_up s entry).volume) where
  pub steps-keep : (most : ℕ) (s : Settling) → MaySettle s.volume → P s.volume → P (repeated settle_step most s).volume
  steps-keep zero s may holds = holds
  steps-keep (suc more) s may holds = elim (option_cases (next_ready s.volume)) [
    | inl none ↦ rw none holds
    | inr some ↦ (let next : IsNext s.volume some.0 = next_ready-is s.volume some.0 some.1 in
        let stepped : Steps s.volume (taken_up s some.0).volume = Steps-taken_up s some.0 may next in
        rw some.1 (steps-keep more (taken_up s some.0) stepped.may (step s some.0 may next holds)))
  ]

  -- until nothing is ready
  pub taken_up-keeps : (v : Volume) (starved : List CallId) → MaySettle v → P v → P (taken_up_all v starved).volume
  taken_up-keeps v starved may own = steps-keep (length v.pending) (record { volume = v; starved = starved; taken = [] }) may own

  -- and then, where all clients wait, the waits end
  pub settled-keeps : (v : Volume) (call : Call) (starved : List CallId) → MaySettle (own_tried v call)
      → (P (taken_up_all (own_tried v call) starved).volume → P (with_stalled (taken_up_all (own_tried v call) starved).volume)) → P (own_tried v call) → P (settlement v call starved).volume
  settled-keeps v call starved may stalled own = stalled (taken_up-keeps (own_tried v call) starved may own)

-- what each step keeps where the settlement has come so far
module _ (own : Volume) (P : Volume → Type 0) (step : (s : Settling) (entry : ℕ × Pending) → GoesOn own s → IsNext s.volume entry → P s.volume → P (taken_up s entry).volume) where
  pub goes-keep : (most : ℕ) (s : Settling) → GoesOn own s → P s.volume → GoesOn own (repeated settle_step most s) × P (repeated settle_step most s).volume
  goes-keep zero s on holds = (on, holds)
  goes-keep (suc more) s on holds = elim (option_cases (next_ready s.volume)) [
    | inl none ↦ rw none (on, holds)
    | inr some ↦ rw some.1 (goes-keep more (taken_up s some.0) (GoesOn-settle_step own s (taken_up s some.0) on (rw some.1 refl)).0 (step s some.0 on (next_ready-is s.volume some.0 some.1) holds))
  ]

-- ---- turns

-- none of these calls was made before, or is made twice
abbrev pub Differ : Volume → List HistoryEntry → Type 0
Differ v entries = (client number : ℕ) → times client number v + how_many (is_entry_of client number) entries ≤ 1

-- the first of them is new
pub new-call : (v : Volume) (entry : HistoryEntry) (later : List HistoryEntry) → Differ v (entry ∷ later) → times entry.call.client entry.call.number v ≡ 0
new-call v entry later differ =
    let few = differ entry.call.client entry.call.number in
    let self : is_entry_of entry.call.client entry.call.number entry ≡ true = is_entry_of-self entry in
    let one : times entry.call.client entry.call.number v + (1 + how_many (is_entry_of entry.call.client entry.call.number) later) ≤ 1 = rw self at few in omega arith

-- what a settlement asks holds once the turn's own call has been tried
pub own-takes_up : (v : Volume) (call : Call) → MayTurn v → times call.client call.number v ≡ 0 → MayTakeUp (own_tried v call)
own-takes_up v call may none = (Adds-answered v call (try v call (turn_number v)) may none (try-keeps v call (turn_number v) may.take_up.may.oplocks)).may.take_up

pub own-may : (v : Volume) (call : Call) → MayTurn v → times call.client call.number v ≡ 0 → MaySettle (own_tried v call)
own-may v call may none = (own-takes_up v call may none).may

-- the first of some turns is made, and what is left to make goes on from there
record Goes (r : Run) (entry : HistoryEntry) (later : List HistoryEntry) (s : Run) : Type 0 where
  next : Run
  settles : (settlement r.volume entry.call entry.starved).volume ≡ next.volume
  turns : Turns r.volume entry.call (settlement r.volume entry.call entry.starved).volume
  goes : steps turn_on next later ≡ Some s

goes_on : (r : Run) (entry : HistoryEntry) (later : List HistoryEntry) (s : Run) → MayTurn r.volume → Differ r.volume (entry ∷ later) → steps turn_on r (entry ∷ later) ≡ Some s → Goes r entry later s
goes_on r entry later s may differ is = elim (option_cases (turn r.volume entry.call entry.starved)) [
  | inl none ↦ (let impossible : None ≡ Some s = rw none at is in cc)
  | inr some ↦ (
      let settles : (settlement r.volume entry.call entry.starved).volume ≡ some.0.volume = sym (turn_on-settled r entry (with_turn r some.0) (ap (λ (found : Option Turned). option_map (with_turn r) found) some.1)) in
      record {
        next = with_turn r some.0;
        settles = settles;
        turns = settlement-turns r.volume entry.call entry.starved may (new-call r.volume entry later differ);
        goes = rw some.1 at is;
      })
]

-- what holds of a volume, and of the turns that are still to come
module _ (P : Volume → List HistoryEntry → Type 0)
    (keeps : (v : Volume) (entry : HistoryEntry) (later : List HistoryEntry) → MayTurn v → Differ v (entry ∷ later) → Turns v entry.call (settlement v entry.call entry.starved).volume → P v (entry ∷ later)
    → P (settlement v entry.call entry.starved).volume later) where
  pub turns-keep : (entries : List HistoryEntry) (r s : Run) → MayTurn r.volume → Differ r.volume entries → P r.volume entries → steps turn_on r entries ≡ Some s → P s.volume []
  turns-keep [] r s may differ holds is = subst (λ (s : Run). P s.volume []) (some_equal r s is) holds
  turns-keep (entry ∷ later) r s may differ holds is =
      let on : Goes r entry later s = goes_on r entry later s may differ is in
      turns-keep later on.next s (subst MayTurn on.settles on.turns.may) (λ client number. (let one = on.turns.times client number in let few = differ client number in rw (← on.settles) (omega arith)))
      (subst (λ (w : Volume). P w later) on.settles (keeps r.volume entry later may differ on.turns holds)) on.goes

  -- where it holds only once the first turn is made
  pub from-keeps : (entry : HistoryEntry) (later : List HistoryEntry) (r s : Run) → MayTurn r.volume → Differ r.volume (entry ∷ later)
      → (Turns r.volume entry.call (settlement r.volume entry.call entry.starved).volume → P (settlement r.volume entry.call entry.starved).volume later) → steps turn_on r (entry ∷ later) ≡ Some s → P s.volume []
  from-keeps entry later r s may differ made is =
      let on : Goes r entry later s = goes_on r entry later s may differ is in
      turns-keep later on.next s (subst MayTurn on.settles on.turns.may) (λ client number. (let one = on.turns.times client number in let few = differ client number in rw (← on.settles) (omega arith)))
      (subst (λ (w : Volume). P w later) on.settles (made on.turns)) on.goes

  -- of a whole run
  pub run-keeps : (setup : Setup) (history : List HistoryEntry) (r : Run) → CallsDiffer history → P (fresh setup) history → run setup history ≡ Some r → P r.volume []
  run-keeps setup history r differ holds is =
      turns-keep history (begun setup) r (MayTurn-fresh setup) (λ client number. (let few : how_many (is_entry_of client number) history ≤ 1 = differ client number in omega arith)) holds is

-- ---- a run in two parts

-- no call is made twice in the first part
pub differ-front : (front later : List HistoryEntry) → CallsDiffer (front ++ later) → CallsDiffer front
differ-front front later differ client number = (let few = differ client number in let parts = how_many-append (is_entry_of client number) front later in omega arith)

-- no call is made twice up to an entry
pub differ-before : (history front later : List HistoryEntry) (entry : HistoryEntry) → history ≡ front ++ entry ∷ later → CallsDiffer history → CallsDiffer (front ++ entry ∷ [])
differ-before history front later entry is differ client number =
    let few = differ client number in
    let all = ap (λ (entries : List HistoryEntry). how_many (is_entry_of client number) entries) is in
    let parts = how_many-append (is_entry_of client number) front (entry ∷ later) in
    let first = how_many-append (is_entry_of client number) front (entry ∷ []) in
    omega arith

pub steps-append : {S E : Type 0} (step : S → E → Option S) (s : S) (items more : List E) → steps step s (items ++ more) ≡ option_and_then (λ after. steps step after more) (steps step s items)
steps-append step s [] more = refl
steps-append {S} {E} step s (first ∷ items) more =
    elim (step s first) as (λ o. option_and_then (λ after. steps step after (items ++ more)) o ≡ option_and_then (λ after. steps step after more) (option_and_then (λ after. steps step after items) o)) [
      | None ↦ refl
      | Some after ↦ steps-append step after items more
    ]

-- where the first part ends the second begins
pub record Parts (setup : Setup) (front later : List HistoryEntry) (s : Run) : Type 0 where
  pub at : Run
  pub runs : run setup front ≡ Some at
  pub goes : steps turn_on at later ≡ Some s
  pub may : MayTurn at.volume
  pub differ : Differ at.volume later

pub parts : (setup : Setup) (front later : List HistoryEntry) (s : Run) → CallsDiffer (front ++ later) → run setup (front ++ later) ≡ Some s → Parts setup front later s
parts setup front later s differ is = elim (option_cases (run setup front)) [
  | inl none ↦ (let impossible : None ≡ Some s = rw none at both in cc)
  | inr some ↦ (let runs : Runs (fresh setup) front some.0.volume = run-runs setup front some.0 (differ-front front later differ) some.1 in record {
    at = some.0;
    runs = some.1;
    goes = rw some.1 at both;
    may = runs.may;
    differ = λ client number. (let few = differ client number in let split = how_many-append (is_entry_of client number) front later in let times = runs.times client number in omega arith);
  })
]
  where
    both : option_and_then (λ after. steps turn_on after later) (run setup front) ≡ Some s
    both = sym (steps-append turn_on (begun setup) front later) ∙ is
