-- That just after a try what is pending of its call is what the try left, with just the blockers by which that holds it, or nothing
-- where it has ended.
use Rattle.std.specs.List.{list_any}
use Rattle.std.specs.Prelude.{◌≡◌, ◌==◌, ◌&&◌, ℕ, suc, Bool, true, false, List, [], ◌∷◌, ◌++◌, Some}
use Rattle.fsa_types.specs.declared.request.Call.{Call}
use Rattle.fsa_types.specs.declared.request.CallId.{CallId}
use Rattle.fsa_model.specs.Engine.{own_tried}
use Rattle.fsa_model.specs.History.{HistoryEntry, Run, run}
use Rattle.fsa_model.specs.Outcome.{Outcome, Done, Stay, Hold}
use Rattle.fsa_model.specs.Reports.{settling_after}
use Rattle.fsa_model.specs.Settle.{starves}
use Rattle.fsa_model.specs.Setup.{Setup}
use Rattle.fsa_model.specs.Try.{try}
use Rattle.fsa_model.specs.Turn.{turn_number}
use Rattle.fsa_model.specs.Volume.{Pending, Volume}
use Rattle.fsa_model.specs.Waiting.{is_held, next_ready}

-- a call that passes the test is pending under this turn
abbrev pub pends_under : ℕ → (Pending → Bool) → Volume → Bool
pends_under turn test v = list_any (λ entry. entry.0 == turn && test entry.1) v.pending

-- what a try of the call that came to this leaves pending of it passes the test: the call with the blockers by which it is held,
-- or without any; nothing where it has ended
abbrev pub leaves_pending : (Pending → Bool) → Call → Outcome → Bool
leaves_pending test call (Done v reply) = false
leaves_pending test call (Stay v interim) = test (record { call = call; blockers = [] })
leaves_pending test call (Hold v blockers interim) = test (record { call = call; blockers = blockers })

-- in a turn that begins with this volume its call, once it has been tried, is pending under the turn as that try left it; and
-- each held call that a step of the settlement takes up, and that finds memory, is pending under its own turn as its try left it.
-- It's said by tests: what is pending passes one just where what was left does
pub record PendsAsTried (v : Volume) (call : Call) (starved : List CallId) : Type 0 where
  pub own : (test : Pending → Bool) → pends_under (turn_number v) test (own_tried v call) ≡ leaves_pending test call (try v call (turn_number v))
  pub taken_up : (steps : ℕ) (entry : ℕ × Pending) (test : Pending → Bool)
      → next_ready (settling_after v call starved steps).volume ≡ Some entry → is_held entry.1 ≡ true → starves (settling_after v call starved steps).starved entry.1 ≡ false
      → pends_under entry.0 test (settling_after v call starved (suc steps)).volume ≡ leaves_pending test entry.1.call (try (settling_after v call starved steps).volume entry.1.call entry.0)

-- so it is in each turn of a history
abbrev pub CallsPendAsTried : Setup → List HistoryEntry → Type 0
CallsPendAsTried setup history = (front later : List HistoryEntry) (entry : HistoryEntry) (r : Run) → history ≡ front ++ entry ∷ later → run setup front ≡ Some r
    → PendsAsTried r.volume entry.call entry.starved
