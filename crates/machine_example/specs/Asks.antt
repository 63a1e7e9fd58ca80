-- What a client may ask by its next call, and that call.
use Rattle.std.specs.Prelude.{ℕ, ◌+◌, Bool, true, false, List, IsTrue, Result, Ok, Err}
use Rattle.fsa_types.specs.Request.{what_fits}
use Rattle.fsa_types.specs.declared.reply.Out.{Out}
use Rattle.fsa_types.specs.declared.reply.Why.{Why}
use Rattle.fsa_types.specs.declared.reply.Why.TheVariants.{NoMemory, HistoryFull}
use Rattle.fsa_types.specs.declared.request.Call.{Call}
use Rattle.fsa_types.specs.declared.request.What.{What}
use Rattle.fsa_model.specs.History.{HistoryEntry}
use Rattle.fsa_model.specs.LineCalls.{ticks_fit}
use Rattle.fsa_model.specs.Schedule.{calls_of}
use Rattle.fsa_machine.specs.MachineView.{calls_of_entries}

-- within the bounds of requests
pub record CanBeMade (what : What) : Type 0 where
  pub fits : IsTrue (what_fits what)
  pub ticks : IsTrue (ticks_fit what)

-- the client's next call after these turns
abbrev pub next_call : List HistoryEntry → ℕ → What → Call
next_call entries client what = record { client = client; number = calls_of client (calls_of_entries entries) + 1; what = what }

-- the turn was refused since the history is full
abbrev pub is_full : Result Out Why → Bool
is_full (Ok out) = false
is_full (Err HistoryFull) = true
is_full (Err NoMemory) = false
