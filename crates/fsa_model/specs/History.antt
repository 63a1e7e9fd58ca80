-- Histories: lists of turns, run one after another from a fresh volume.
use Rattle.std.specs.Prelude.{◌≡◌, List, [], ◌∷◌, ◌++◌, Option, Some, option_and_then, option_map}
use Rattle.fsa_types.specs.declared.request.Call.{Call}
use Rattle.fsa_types.specs.declared.request.CallId.{CallId}
use Rattle.fsa_model.specs.Setup.{Setup}
use Rattle.fsa_model.specs.Volume.{Volume, fresh}
use Rattle.fsa_model.specs.Outcome.{TurnOut}
use Rattle.fsa_model.specs.Turn.{Turned, turn}

-- a turn of a history: its own call, and the calls that were taken up in it and found no memory
pub record HistoryEntry : Type 0 where
  pub call : Call
  pub starved : List CallId

-- the volume after some turns, and what each of them gave out, in order
pub record Run : Type 0 where
  pub volume : Volume
  pub outs : List TurnOut

-- the run after one more turn
abbrev pub with_turn : Run → Turned → Run
with_turn r turned = record { volume = turned.volume; outs = r.outs ++ turned.out ∷ [] }

-- one more turn, where there is such a turn
abbrev pub turn_on : Run → HistoryEntry → Option Run
turn_on r entry = option_map (with_turn r) (turn r.volume entry.call entry.starved)

-- the state after a step for each item, where each step is defined
abbrev pub steps : {S E : Type 0} → (S → E → Option S) → S → List E → Option S
steps step state [] = Some state
steps step state (item ∷ more) = option_and_then (λ after. steps step after more) (step state item)

abbrev pub begun : Setup → Run
begun setup = record { volume = fresh setup; outs = [] }

-- the run of a history from a fresh volume
abbrev pub run : Setup → List HistoryEntry → Option Run
run setup history = steps turn_on (begun setup) history

-- the last turn of the history gave this out
pub record GaveOut (setup : Setup) (entries : List HistoryEntry) (out : TurnOut) : Type 0 where
  pub state : Run
  pub runs : run setup entries ≡ Some state
  pub before : List TurnOut
  pub last : state.outs ≡ before ++ out ∷ []
