-- In each turn of a run each pending call is the one that was made in its turn: of the calls under a turn that pass a test none
-- becomes pending but by the try of such a call.
use Rattle.std.proofs.Common.{◌≡◌, ℕ, ◌+◌, Bool, true, false, not, List, [], ◌∷◌, ◌++◌, refl, sym, subst, arith, inl, inr, Some}
use Rattle.std.specs.List.{enumerate_from, list_any}
use Rattle.std.specs.Prelude.{◌==◌, ◌&&◌}
use Rattle.std.proofs.lemmas.Bool.{cases_Bool}
use Rattle.fsa_types.specs.declared.reply.Blocker.{Blocker}
use Rattle.fsa_types.specs.declared.request.Call.{Call}
use Rattle.fsa_types.specs.declared.request.CallId.{CallId}
use Rattle.fsa_model.specs.Edits.{is_call}
use Rattle.fsa_model.specs.Engine.{CallsDiffer, own_tried}
use Rattle.fsa_model.specs.History.{HistoryEntry, Run, run}
use Rattle.fsa_model.specs.Once.{how_many, times}
use Rattle.fsa_model.specs.Outcome.{Outcome, Done, Stay, Hold}
use Rattle.fsa_model.specs.Reports.{settling_after}
use Rattle.fsa_model.specs.Settle.{Settling, taken_up, taken_up_all}
use Rattle.fsa_model.specs.Settling.{MaySettle, MayTurn}
use Rattle.fsa_model.specs.Setup.{Setup}
use Rattle.fsa_model.specs.Try.{try}
use Rattle.fsa_model.specs.Turn.{answered, settlement, turn_number}
use Rattle.fsa_model.specs.Volume.{Pending, Volume}
use Rattle.fsa_model.specs.Waiting.{with_stalled}
use Rattle.fsa_model.proofs.CountLaws.{how_many-append, how_many-filter_le, how_many-some}
use Rattle.fsa_model.proofs.EngineLaws.{new-before, run-before}
use Rattle.fsa_model.proofs.SettleLaws.{IsNext, Steps, Steps-taken_up}
use Rattle.fsa_model.proofs.TurnLaws.{TriedTo, Turns, stalled-kept, try-keeps}
use Rattle.fsa_model.proofs.WaitLaws.{or_none}
use Rattle.history_laws.specs.AsMade.{PendsAsMade}
use Rattle.history_laws.proofs.TurnByTurn.{Differ, differ-before, differ-front, new-call, own-may, run-keeps, settled-keeps, steps-keep}

module _ (turn : ℕ) (test : Call → Bool) where
  -- the call is pending under this turn, or was made in it, and passes
  abbrev is_such : ℕ × Pending → Bool
  is_such entry = entry.0 == turn && test entry.1.call

  abbrev is_made_so : ℕ × HistoryEntry → Bool
  is_made_so made = made.0 == turn && test made.1.call

  -- no such call is pending
  abbrev NoneSuch : Volume → Type 0
  NoneSuch v = how_many is_such v.pending ≡ 0

  -- nor with one call more that is none
  none-added : (w : Volume) (number : ℕ) (call : Call) (blockers : List Blocker) → (number == turn && test call) ≡ false → NoneSuch w
      → how_many is_such (w.pending ++ (number, record { call = call; blockers = blockers }) ∷ []) ≡ 0
  none-added w number call blockers isnt none =
      let all = how_many-append is_such w.pending ((number, record { call = call; blockers = blockers }) ∷ []) in
      let own : how_many is_such ((number, record { call = call; blockers = blockers }) ∷ []) ≡ 0 = rw isnt refl in
      omega arith

  -- once the turn's call has been tried, where it is none
  none-answered : (v : Volume) (call : Call) (outcome : Outcome) → TriedTo v (turn_number v) call.what outcome → (turn_number v == turn && test call) ≡ false → NoneSuch v
      → NoneSuch (answered call (turn_number v) outcome)
  none-answered v call (Done w reply) tried isnt none =
      let fewer = tried.0.keeps.pending is_such in
      let kept = how_many-filter_le is_such (λ entry. not (is_call call.client call.number entry.1)) w.pending in omega arith
  none-answered v call (Stay w interim) tried isnt none = (let fewer = tried.pending is_such in none-added w (turn_number v) call [] isnt (omega arith))
  none-answered v call (Hold w blockers interim) tried isnt none = (let fewer = tried.0.keeps.pending is_such in none-added w (turn_number v) call blockers isnt (omega arith))

  -- after each step of its settlement
  none-taken_up : (s : Settling) (entry : ℕ × Pending) → MaySettle s.volume → IsNext s.volume entry → NoneSuch s.volume → NoneSuch (taken_up s entry).volume
  none-taken_up s entry may next none = (let fewer = Steps.pending (Steps-taken_up s entry may next) (λ number call. number == turn && test call) in omega arith)

  none-stalled : (v : Volume) → NoneSuch v → NoneSuch (with_stalled v)
  none-stalled v none = (let fewer = (stalled-kept v).kept.keeps.pending is_such in omega arith)

  -- and at the turn's end
  none-settled : (v : Volume) (call : Call) (starved : List CallId) → MayTurn v → times call.client call.number v ≡ 0 → (turn_number v == turn && test call) ≡ false → NoneSuch v
      → NoneSuch (settlement v call starved).volume
  none-settled v call starved may new isnt none =
      settled-keeps NoneSuch none-taken_up v call starved (own-may v call may new) (λ left. none-stalled (taken_up_all (own_tried v call) starved).volume left)
      (none-answered v call (try v call (turn_number v)) (try-keeps v call (turn_number v) may.take_up.may.oplocks) isnt none)

  -- and none is made in the turns to come, and these last ones
  abbrev NoneToCome : List HistoryEntry → Volume → List HistoryEntry → Type 0
  NoneToCome last v later = NoneSuch v × (list_any is_made_so (enumerate_from (turn_number v) (later ++ last)) ≡ false)

  none-turns : (last : List HistoryEntry) (v : Volume) (entry : HistoryEntry) (later : List HistoryEntry) → MayTurn v → Differ v (entry ∷ later)
      → Turns v entry.call (settlement v entry.call entry.starved).volume → NoneToCome last v (entry ∷ later) → NoneToCome last (settlement v entry.call entry.starved).volume later
  none-turns last v entry later may differ turns none =
      let parts = or_none (turn_number v == turn && test entry.call) (list_any is_made_so (enumerate_from (turn_number v + 1) (later ++ last))) none.1 in (
        none-settled v entry.call entry.starved may (new-call v entry later differ) parts.0 none.0,
        subst (λ (number : ℕ). list_any is_made_so (enumerate_from number (later ++ last)) ≡ false) (sym turns.number) parts.1,
      )

  -- where none was made none is pending before the last turn, whose call is none
  none-run : (setup : Setup) (front : List HistoryEntry) (entry : HistoryEntry) (r : Run) → CallsDiffer front → list_any is_made_so (enumerate_from 1 (front ++ entry ∷ [])) ≡ false → run setup front ≡ Some r
      → NoneSuch r.volume × ((turn_number r.volume == turn && test entry.call) ≡ false)
  none-run setup front entry r differ none runs =
      let left : NoneToCome (entry ∷ []) r.volume [] = run-keeps (NoneToCome (entry ∷ [])) (none-turns (entry ∷ [])) setup front r differ (refl, none) runs in
      (left.0, (or_none (turn_number r.volume == turn && test entry.call) false left.1).0)

  -- so what is pending was made
  as_made : (history : List HistoryEntry) (w : Volume) → (list_any is_made_so (enumerate_from 1 history) ≡ false → NoneSuch w) → list_any is_such w.pending ≡ true → list_any is_made_so (enumerate_from 1 history) ≡ true
  as_made history w none some = elim (cases_Bool (list_any is_made_so (enumerate_from 1 history))) [
    | inl made ↦ made
    | inr never ↦ (let left = none never in let pends = how_many-some is_such w.pending some in absurd (omega arith))
  ]

-- in each turn of a history
pub pends-as_made : (setup : Setup) (history : List HistoryEntry) → CallsDiffer history → PendsAsMade setup history
pends-as_made setup history differ front later entry r is runs = record {
  after = λ steps turn test. as_made turn test (front ++ entry ∷ []) (settling_after r.volume entry.call entry.starved steps).volume (λ none.
      (let before = none-run turn test setup front entry r differ_front none runs in
      steps-keep (NoneSuch turn test) (none-taken_up turn test) steps (record { volume = own_tried r.volume entry.call; starved = entry.starved; taken = [] }) (own-may r.volume entry.call may new)
      (none-answered turn test r.volume entry.call (try r.volume entry.call (turn_number r.volume)) (try-keeps r.volume entry.call (turn_number r.volume) may.take_up.may.oplocks) before.1 before.0)));
  settled = λ turn test. as_made turn test (front ++ entry ∷ []) (settlement r.volume entry.call entry.starved).volume (λ none.
      (let before = none-run turn test setup front entry r differ_front none runs in none-settled turn test r.volume entry.call entry.starved may new before.1 before.0));
}
  where
    differ_to : CallsDiffer (front ++ entry ∷ [])
    differ_to = differ-before history front later entry is differ

    differ_front : CallsDiffer front
    differ_front = differ-front front (entry ∷ []) differ_to

    may : MayTurn r.volume
    may = (run-before setup front entry r differ_to runs).may

    new : times entry.call.client entry.call.number r.volume ≡ 0
    new = new-before setup front entry r differ_to runs
