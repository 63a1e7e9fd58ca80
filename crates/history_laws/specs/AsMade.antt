-- That each pending call is the one that the history made in its turn.
use Rattle.std.specs.List.{enumerate_from, list_any}
use Rattle.std.specs.Prelude.{◌≡◌, ◌==◌, ◌&&◌, ℕ, Bool, true, List, [], ◌∷◌, ◌++◌, Some}
use Rattle.fsa_types.specs.declared.request.Call.{Call}
use Rattle.fsa_types.specs.declared.request.CallId.{CallId}
use Rattle.fsa_model.specs.History.{HistoryEntry, Run, run}
use Rattle.fsa_model.specs.Reports.{settling_after}
use Rattle.fsa_model.specs.Setup.{Setup}
use Rattle.fsa_model.specs.Turn.{settlement}
use Rattle.fsa_model.specs.Volume.{Volume}

-- each pending call is, under its turn, the very call that the history made in that turn, where turns count from 1. It's said
-- by tests: where the call that is pending under a turn passes a test, the call that was made in that turn passes it
abbrev pub IsAsMade : List HistoryEntry → Volume → Type 0
IsAsMade history v = (turn : ℕ) (test : Call → Bool) → list_any (λ entry. entry.0 == turn && test entry.1.call) v.pending ≡ true
    → list_any (λ made. made.0 == turn && test made.1.call) (enumerate_from 1 history) ≡ true

-- so it is in the last turn of this history, which begins with this volume: after any number of steps of the settlement (after
-- 0 the turn's call has just been tried), and at the turn's end
pub record StaysAsMade (history : List HistoryEntry) (v : Volume) (call : Call) (starved : List CallId) : Type 0 where
  pub after : (steps : ℕ) → IsAsMade history (settling_after v call starved steps).volume
  pub settled : IsAsMade history (settlement v call starved).volume

-- so it is in each turn of a history
abbrev pub PendsAsMade : Setup → List HistoryEntry → Type 0
PendsAsMade setup history = (front later : List HistoryEntry) (entry : HistoryEntry) (r : Run) → history ≡ front ++ entry ∷ later → run setup front ≡ Some r
    → StaysAsMade (front ++ entry ∷ []) r.volume entry.call entry.starved
