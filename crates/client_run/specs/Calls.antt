-- The calls of one client: in a history, and those that it is to make.
use Rattle.std.specs.Prelude.{◌≡◌, ◌↔◌, ℕ, ◌+◌, ◌≤◌, List, length, slice_get, Some}
use Rattle.fsa_types.specs.declared.request.Call.{Call}
use Rattle.fsa_types.specs.declared.request.What.TheVariants.{Leave}
use Rattle.fsa_model.specs.History.{HistoryEntry}
use Rattle.history_laws.specs.CallAnswers.{CanAsk}
use Rattle.history_lock.specs.History.{calls_by}

-- the client's calls in a history, in order
abbrev pub calls_in : ℕ → List HistoryEntry → List Call
calls_in client history = calls_by (λ entry. entry.call) (λ call. call.client) client history

-- these are calls that the client can make, numbered from 1, of which just the last one leaves
pub record IsLined (client : ℕ) (calls : List Call) : Type 0 where
  pub some : 1 ≤ length calls
  pub each : (place : ℕ) (call : Call) → slice_get calls place ≡ Some call → (call.client ≡ client) × ((call.number ≡ place + 1) × CanAsk call.what)
  pub leaves : (place : ℕ) (call : Call) → slice_get calls place ≡ Some call → (call.what ≡ Leave) ↔ (place + 1 ≡ length calls)

-- the client's leaving is among these calls
pub record HasLeft (calls : List Call) : Type 0 where
  pub place : ℕ
  pub call : Call
  pub there : slice_get calls place ≡ Some call
  pub leaves : call.what ≡ Leave
