-- Why a pending call that asks for an oplock, or answers a break, ends: it is told of a break, it is called off, or its oplock is
-- switched.
use Rattle.std.specs.List.{list_any}
use Rattle.std.specs.Prelude.{◌≡◌, ◌<◌, ◌&&◌, ◌⊎◌, not, ℕ, suc, Bool, true, false, List, ◌∷◌, ◌++◌, Some}
use Rattle.fsa_types.specs.declared.request.Call.{Call}
use Rattle.fsa_types.specs.declared.request.CallId.{CallId}
use Rattle.fsa_types.specs.declared.request.Request.TheVariants.{Oplock as OplockRequest}
use Rattle.fsa_types.specs.declared.request.What.{What}
use Rattle.fsa_types.specs.declared.request.What.TheVariants.{Ask}
use Rattle.fsa_types.specs.declared.status.Status.{Status}
use Rattle.fsa_types.specs.declared.status.Status.TheVariants.{OplockSwitchedToNewHandle}
use Rattle.fsa_model.specs.Edits.{is_call}
use Rattle.fsa_model.specs.Engine.{own_tried}
use Rattle.fsa_model.specs.History.{HistoryEntry, Run, run}
use Rattle.fsa_model.specs.Once.{how_many, is_end}
use Rattle.fsa_model.specs.Reports.{settling_after}
use Rattle.fsa_model.specs.Settle.{taken_up_all}
use Rattle.fsa_model.specs.Setup.{Setup}
use Rattle.fsa_model.specs.Turn.{settlement}
use Rattle.fsa_model.specs.Volume.{Pending, Volume}
use Rattle.history_laws.specs.Holding.{asks_oplock, calls_off}
use Rattle.history_laws.specs.Telling.{times_told}

-- ---- what is pending

-- the pending call is the client's of this number, and asks for an oplock or answers a break
abbrev pub is_asking_call : ℕ → ℕ → ℕ × Pending → Bool
is_asking_call client number entry = asks_oplock entry.1 && is_call client number entry.1

-- such a call is pending
abbrev pub Pends : ℕ → ℕ → Volume → Type 0
Pends client number v = list_any (is_asking_call client number) v.pending ≡ true

-- such a call is pending, and this one doesn't call it off
abbrev pub PendsOn : Call → ℕ → ℕ → Volume → Type 0
PendsOn call client number v = list_any (λ entry. is_asking_call client number entry && not (calls_off v call entry.1)) v.pending ≡ true

-- ---- why it ends

-- from the first volume to the second the client's call of this number has ended in a reply that tells of a break
abbrev pub IsTold : ℕ → ℕ → Volume → Volume → Type 0
IsTold client number v w = times_told (λ reply. true) client number v < times_told (λ reply. true) client number w

-- the status of a call whose oplock was switched: its own handle, or another one of its key, is granted one
abbrev pub is_switch : Status → Bool
is_switch OplockSwitchedToNewHandle = true
is_switch _ = false

-- how often the client's call of this number has ended so
abbrev pub times_switched : ℕ → ℕ → Volume → ℕ
times_switched client number v = how_many (λ end. is_end client number end && is_switch end.reply.status) v.ended

-- from the first volume to the second it has ended so
abbrev pub IsSwitched : ℕ → ℕ → Volume → Volume → Type 0
IsSwitched client number v w = times_switched client number v < times_switched client number w

-- a request for an oplock, which may switch others
abbrev pub requests_oplock : What → Bool
requests_oplock (Ask (OplockRequest handle level)) = true
requests_oplock _ = false

-- ---- in each turn

-- in a turn that begins with this volume
pub record EndsForCause (v : Volume) (call : Call) (starved : List CallId) : Type 0 where
  -- in the try of the turn's call each pending call that asks for an oplock or answers a break, and isn't called off, stays
  -- pending, or it is told of a break, or, where the turn's call is a request for an oplock, switched
  pub tried : (client number : ℕ) → PendsOn call client number v
      → Pends client number (own_tried v call) ⊎ (IsTold client number v (own_tried v call) ⊎ ((requests_oplock call.what ≡ true) × IsSwitched client number v (own_tried v call)))
  -- in each step of the settlement each such call stays pending, or it is told of a break
  pub stepped : (steps client number : ℕ) → Pends client number (settling_after v call starved steps).volume
      → Pends client number (settling_after v call starved (suc steps)).volume ⊎ IsTold client number (settling_after v call starved steps).volume (settling_after v call starved (suc steps)).volume
  -- and at last, where waits stall, each stays
  pub stalled : (client number : ℕ) → Pends client number (taken_up_all (own_tried v call) starved).volume → Pends client number (settlement v call starved).volume

-- so it is in each turn of a history
abbrev pub GrantedCallsEndForCause : Setup → List HistoryEntry → Type 0
GrantedCallsEndForCause setup history = (front later : List HistoryEntry) (entry : HistoryEntry) (r : Run) → history ≡ front ++ entry ∷ later → run setup front ≡ Some r
    → EndsForCause r.volume entry.call entry.starved
