-- Which entries are a history, and what may be asked and answered there.
use Rattle.std.specs.Prelude.{◌≡◌, ◌+◌, ◌≤◌, ◌==◌, Bool, true, false, not, List, length, Option, Some, is_some, IsSome}
use Rattle.std.specs.List.{list_any}
use Rattle.fsa_types.specs.declared.reply.Reply.{Reply}
use Rattle.fsa_types.specs.declared.reply.Why.{Why}
use Rattle.fsa_types.specs.declared.reply.Why.TheVariants.{NoMemory, HistoryFull}
use Rattle.fsa_types.specs.declared.request.Call.{Call}
use Rattle.fsa_types.specs.declared.request.CallId.{CallId}
use Rattle.fsa_model.specs.Bounds.{most_entries}
use Rattle.fsa_model.specs.Engine.{is_entry_of}
use Rattle.fsa_model.specs.History.{HistoryEntry, Run, run}
use Rattle.fsa_model.specs.LineCalls.{IsLineCall}
use Rattle.fsa_model.specs.Setup.{Setup}
use Rattle.fsa_model.specs.Waiting.{is_pending}
use Rattle.fsa_machine.specs.MachineView.{CallsNumbered}
use Rattle.fsa_model.specs.Ended.{ended_with_list, reply_in}

-- the turns of these entries can be made, the calls of each client are numbered from 1, each once, and there are
-- no more than 1,000,000
pub record IsMachineHistory (setup : Setup) (entries : List HistoryEntry) : Type 0 where
  pub runs : IsSome (run setup entries)
  pub numbered : CallsNumbered entries
  pub few : length entries ≤ most_entries

-- the client's next call, one that a line can ask
pub record AllowsCall (setup : Setup) (mine : List Call) (call : Call) : Type 0 where
  pub asked : IsLineCall (length setup.clients) call
  pub next : call.number ≡ length mine + 1

-- the call was made
abbrev pub AllowsAsk : List HistoryEntry → CallId → Type 0
AllowsAsk entries call = list_any (is_entry_of call.client call.number) entries ≡ true

-- a turn is refused for a full history exactly where there are 1,000,000 entries
abbrev pub is_full : Why → Bool
is_full HistoryFull = true
is_full NoMemory = false

abbrev pub MayRefuse : List HistoryEntry → Why → Type 0
MayRefuse entries why = is_full why ≡ (length entries == most_entries)

-- how the call has ended in the history; nothing exactly where it is pending
abbrev pub Shows : Setup → List HistoryEntry → CallId → Option Reply → Type 0
Shows setup entries call reply = (r : Run) → run setup entries ≡ Some r
    → (reply ≡ reply_in r.volume.ended call.client call.number) × (is_some reply ≡ not (is_pending r.volume call.client call.number))

-- the call has ended with a body that holds a list
abbrev pub TakesMemory : Setup → List HistoryEntry → CallId → Type 0
TakesMemory setup entries call = (r : Run) → run setup entries ≡ Some r → ended_with_list r.volume.ended call.client call.number ≡ true
