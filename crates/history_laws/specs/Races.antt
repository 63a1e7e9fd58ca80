-- Histories of a script whose clients ran side by side.
use Rattle.std.specs.Prelude.{◌≡◌, ◌<◌, ◌==◌, ℕ, false, All, List, [], ◌∷◌, ◌++◌, Some, IsSome, filter, length, map}
use Rattle.fsa_types.specs.declared.request.Call.{Call}
use Rattle.fsa_types.specs.declared.request.What.TheVariants.{WaitFor}
use Rattle.fsa_model.specs.History.{HistoryEntry, Run, run}
use Rattle.fsa_model.specs.Schedule.{leave_after}
use Rattle.fsa_model.specs.Setup.{Script, Setup}
use Rattle.fsa_model.specs.Waiting.{waits}
use Rattle.history_laws.specs.WaitEnds.{IsOver}

-- the calls that a client is to make: its lines, and then its leaving
abbrev pub own_calls : Script → ℕ → List Call
own_calls script client = filter (λ call. call.client == client) script.lines ++ leave_after script.lines client ∷ []

-- the calls that it made in a history, in order
abbrev pub made_by : ℕ → List HistoryEntry → List Call
made_by client history = filter (λ call. call.client == client) (map (λ entry. entry.call) history)

-- each call stands where no wait of its client is pending
abbrev pub NoneMadeWaiting : Script → List HistoryEntry → Type 0
NoneMadeWaiting script history = (front later : List HistoryEntry) (entry : HistoryEntry) → history ≡ front ++ entry ∷ later
    → (r : Run) → run script.setup front ≡ Some r → waits r.volume entry.call.client ≡ false

-- each call stands after the end of every wait that its client had made and, where that end is SUCCESS, after the end of
-- the call that the wait was for
abbrev pub AllComeAfterWaits : Setup → List HistoryEntry → Type 0
AllComeAfterWaits setup history = (before between later : List HistoryEntry) (wait entry : HistoryEntry) (awaited : ℕ) (r : Run)
    → history ≡ (before ++ wait ∷ between) ++ entry ∷ later → run setup (before ++ wait ∷ between) ≡ Some r
    → entry.call.client ≡ wait.call.client → wait.call.what ≡ WaitFor awaited → IsOver r.volume wait.call.client wait.call.number awaited

-- a history of the script as far as it has come: each client made the first of its calls, in order, none of them while
-- it waited, and there are no others
pub record Begun (script : Script) (history : List HistoryEntry) : Type 0 where
  pub runs : IsSome (run script.setup history)
  pub in_order : (client : ℕ) → client < length script.setup.clients → (rest : List Call) × (own_calls script client ≡ made_by client history ++ rest)
  pub free : NoneMadeWaiting script history
  pub no_others : All (λ entry. entry.call.client < length script.setup.clients) history

-- a whole history of the script: each client made all its calls, in order, none of them while it waited, and there are
-- no others
pub record Whole (script : Script) (history : List HistoryEntry) : Type 0 where
  pub runs : IsSome (run script.setup history)
  pub in_order : (client : ℕ) → client < length script.setup.clients → made_by client history ≡ own_calls script client
  pub free : NoneMadeWaiting script history
  pub no_others : All (λ entry. entry.call.client < length script.setup.clients) history
