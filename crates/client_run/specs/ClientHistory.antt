-- What the run of a history shows: which lists are histories, and when a client makes its calls.
use Rattle.std.specs.Prelude.{◌≡◌, ℕ, ◌==◌, ◌&&◌, not, Bool, false, List, ◌∷◌, ◌++◌, Option, Some, None, IsSome}
use Rattle.fsa_model.specs.Engine.{CallsDiffer}
use Rattle.fsa_model.specs.History.{HistoryEntry, Run, run}
use Rattle.fsa_model.specs.Lookups.{has_row}
use Rattle.fsa_model.specs.Setup.{Setup}
use Rattle.fsa_model.specs.Volume.{Volume}
use Rattle.fsa_model.specs.Waiting.{is_wait, waits}

-- the turns of these entries can be made, and no call is there twice
pub record IsRunOfDistinctCalls (setup : Setup) (entries : List HistoryEntry) : Type 0 where
  pub runs : IsSome (run setup entries)
  pub differ : CallsDiffer entries

-- ---- waits

-- the client waits for one of its calls by another call than that of this number
abbrev pub waits_besides : Volume → ℕ → ℕ → Bool
waits_besides v client number =
    has_row (λ pending. (pending.call.client == client && is_wait pending.call.what) && not (pending.call.number == number)) v.pending

-- the client has no wait that is pending, but the one of this number
abbrev pub WaitsOnlyBy : Volume → ℕ → Option ℕ → Type 0
WaitsOnlyBy v client None = waits v client ≡ false
WaitsOnlyBy v client (Some number) = waits_besides v client number ≡ false

-- each call of the client stands where no wait of it is pending
pub record IsOrderly (setup : Setup) (client : ℕ) (history : List HistoryEntry) : Type 0 where
  pub each : (front later : List HistoryEntry) (entry : HistoryEntry) → history ≡ front ++ entry ∷ later → entry.call.client ≡ client
      → (r : Run) → run setup front ≡ Some r → waits r.volume client ≡ false
