-- What holds from one volume to the next in each part of a turn.
use Rattle.std.specs.Prelude.{◌≡◌, ℕ, suc, List, ◌∷◌, ◌++◌, Some}
use Rattle.fsa_types.specs.declared.request.Call.{Call}
use Rattle.fsa_types.specs.declared.request.CallId.{CallId}
use Rattle.fsa_model.specs.Engine.{own_tried}
use Rattle.fsa_model.specs.History.{HistoryEntry, Run, run}
use Rattle.fsa_model.specs.Reports.{settling_after}
use Rattle.fsa_model.specs.Settle.{taken_up_all}
use Rattle.fsa_model.specs.Setup.{Setup}
use Rattle.fsa_model.specs.Turn.{settlement}
use Rattle.fsa_model.specs.Volume.{Volume}

-- it holds in a turn that begins with this volume: in the try of its call, in each step of its settlement, and at last, where
-- waits stall
pub record InEachPart (Holds : Volume → Volume → Type 0) (v : Volume) (call : Call) (starved : List CallId) : Type 0 where
  pub tried : Holds v (own_tried v call)
  pub stepped : (steps : ℕ) → Holds (settling_after v call starved steps).volume (settling_after v call starved (suc steps)).volume
  pub stalled : Holds (taken_up_all (own_tried v call) starved).volume (settlement v call starved).volume

-- and in each turn of a history
abbrev pub InEachTurn : (Volume → Volume → Type 0) → Setup → List HistoryEntry → Type 0
InEachTurn Holds setup history = (front later : List HistoryEntry) (entry : HistoryEntry) (r : Run) → history ≡ front ++ entry ∷ later → run setup front ≡ Some r
    → InEachPart Holds r.volume entry.call entry.starved
