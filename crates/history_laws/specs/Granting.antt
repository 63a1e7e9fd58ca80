-- Which calls that ask for an oplock, or answer a break, are pending: exactly those to which an oplock is granted of which no
-- break is in progress.
use Rattle.std.specs.List.{list_any}
use Rattle.std.specs.Prelude.{◌≡◌, ◌&&◌, not, ℕ, Bool, false, List, ◌∷◌, ◌++◌, Some, is_some}
use Rattle.fsa_types.specs.declared.request.Call.{Call}
use Rattle.fsa_types.specs.declared.request.CallId.{CallId}
use Rattle.fsa_model.specs.Engine.{GrantsPend, asks_oplock_of}
use Rattle.fsa_model.specs.History.{HistoryEntry, Run, run}
use Rattle.fsa_model.specs.Reports.{settling_after}
use Rattle.fsa_model.specs.Setup.{Setup}
use Rattle.fsa_model.specs.Turn.{settlement}
use Rattle.fsa_model.specs.Volume.{Oplock, Pending, Volume}
use Rattle.fsa_model.specs.Waiting.{is_granted_under}
use Rattle.history_laws.specs.Holding.{asks_oplock}

-- the oplock was granted to the pending call, under its turn, is of the handle that the call names, and no break of it is in
-- progress
abbrev pub is_granted_by : Volume → ℕ × Pending → Oplock → Bool
is_granted_by v entry oplock = not (is_some oplock.target) && is_granted_under entry.0 oplock && asks_oplock_of v oplock.handle entry.1.call

-- there is such an oplock
abbrev pub has_its_oplock : Volume → ℕ × Pending → Bool
has_its_oplock v entry = list_any (is_granted_by v entry) v.oplocks

-- each pending call that asks for an oplock or answers a break has its oplock
abbrev pub CallsHaveGrants : Volume → Type 0
CallsHaveGrants v = list_any (λ entry. asks_oplock entry.1 && not (has_its_oplock v entry)) v.pending ≡ false

-- and an oplock with no break in progress has its call pending
abbrev pub GrantsMatch : Volume → Type 0
GrantsMatch v = GrantsPend v × CallsHaveGrants v

-- so it is in a turn that begins with this volume: after any number of steps of the settlement (after 0 the turn's call has just
-- been tried), and at the turn's end
pub record StaysMatched (v : Volume) (call : Call) (starved : List CallId) : Type 0 where
  pub after : (steps : ℕ) → GrantsMatch (settling_after v call starved steps).volume
  pub settled : GrantsMatch (settlement v call starved).volume

-- so it is in each turn of a history
abbrev pub GrantedCallsPend : Setup → List HistoryEntry → Type 0
GrantedCallsPend setup history = (front later : List HistoryEntry) (entry : HistoryEntry) (r : Run) → history ≡ front ++ entry ∷ later → run setup front ≡ Some r
    → StaysMatched r.volume entry.call entry.starved
