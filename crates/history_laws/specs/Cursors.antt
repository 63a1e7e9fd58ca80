-- How far each client has come in the calls of a script: the place of its next call among them.
use Rattle.std.specs.Prelude.{◌≡◌, ◌<◌, ℕ, suc, ◌+◌, ◌==◌, nat_lt, List, [], ◌∷◌, Some, drop, length, map, take, slice_get, slice_index_or, if◌then◌else◌}
use Rattle.fsa_types.specs.declared.request.Call.{Call}
use Rattle.fsa_model.specs.History.{HistoryEntry}
use Rattle.fsa_model.specs.Schedule.{calls_of, is_made}

-- the place of the client's first call; where it has none, how many calls there are
abbrev pub first_of : ℕ → List Call → ℕ
first_of client [] = 0
first_of client (call ∷ more) = if call.client == client then 0 else suc (first_of client more)

-- the place of its first call from this place on; where it has none, how many calls there are
abbrev pub first_from : ℕ → ℕ → List Call → ℕ
first_from client place calls = place + first_of client (drop place calls)

-- a cursor for each client: the calls of the client that stand before it were made, and no others
pub record StandAt (calls : List Call) (history : List HistoryEntry) (cursors : List ℕ) : Type 0 where
  -- it is the place of one of the client's calls, or behind all calls
  pub own : (client : ℕ) → client < length cursors → first_from client (slice_index_or cursors client 0) calls ≡ slice_index_or cursors client 0
  pub made : (place : ℕ) (call : Call) → slice_get calls place ≡ Some call → is_made history call ≡ nat_lt place (slice_index_or cursors call.client 0)
  -- as many of its calls were made as stand before it
  pub counts : (client : ℕ) → client < length cursors → calls_of client (map (λ entry. entry.call) history) ≡ calls_of client (take (slice_index_or cursors client 0) calls)
