-- What a machine is seen as: a setup, the history of its turns, the room for turns to come, and where its log begins.
use Rattle.std.specs.Prelude.{◌≡◌, ℕ, ◌≤◌, ◌&&◌, nat_le, nat_lt, cond, Bool, true, false, List, length, map, Result, Ok, Err, Some}
use Rattle.fsa_types.specs.declared.reply.Out.{Out}
use Rattle.fsa_types.specs.declared.reply.Why.{Why}
use Rattle.fsa_types.specs.declared.reply.Why.TheVariants.{NoMemory, HistoryFull}
use Rattle.fsa_types.specs.declared.request.Call.{Call}
use Rattle.fsa_model.specs.Bounds.{most_entries}
use Rattle.fsa_model.specs.Engine.{is_entry_of}
use Rattle.fsa_model.specs.History.{HistoryEntry, Run, run}
use Rattle.fsa_model.specs.Once.{how_many, made}
use Rattle.fsa_model.specs.Outcome.{TurnOut}
use Rattle.fsa_model.specs.Schedule.{calls_of}
use Rattle.fsa_model.specs.Setup.{Setup}
use Rattle.fsa_model.specs.Volume.{Volume}
use Rattle.fsa_machine.specs.Serves.{Serves}

-- what contracts see of a machine
pub record MachineView : Type 0 where
  pub setup : Setup
  pub entries : List HistoryEntry
  -- for how many turns to come there is room
  pub spare_turns : ℕ
  -- the place of the first change that is kept, of all that were noted
  pub log_base : ℕ

-- what no turn changes of the volume is its setup
abbrev pub setup_in : Volume → Setup
setup_in v = record { table = v.table; clients = v.clients }

-- the calls of these entries
abbrev pub calls_of_entries : List HistoryEntry → List Call
calls_of_entries entries = map (λ entry. entry.call) entries

-- the calls of each client are numbered from 1, and each is there once
abbrev pub CallsNumbered : List HistoryEntry → Type 0
CallsNumbered entries = (client number : ℕ) → how_many (is_entry_of client number) entries ≡ cond (nat_lt 0 number && nat_le number (calls_of client (calls_of_entries entries))) 1 0

-- the volume is that of the run of these turns, which gave out this
pub record RunsTo (setup : Setup) (entries : List HistoryEntry) (outs : List TurnOut) (v : Volume) : Type 0 where
  pub state : Run
  pub runs : run setup entries ≡ Some state
  pub is : state.volume ≡ v
  pub gave : state.outs ≡ outs
  pub serves : Serves v
  pub count : made v ≡ length entries
  pub numbered : CallsNumbered entries
  pub few : length entries ≤ most_entries

-- the turn was refused since the history is full
abbrev pub is_full : Result Out (Call × Why) → Bool
is_full (Ok out) = false
is_full (Err (call, HistoryFull)) = true
is_full (Err (call, NoMemory)) = false
