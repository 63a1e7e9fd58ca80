-- In which order the calls of a script are made: where each client's next call stands.
use Rattle.std.specs.Prelude.{◌≡◌, ◌<◌, ◌≤◌, ◌+◌, ◌⊎◌, ℕ, Bool, false, List, Some, length, slice_get, slice_index_or}
use Rattle.fsa_types.specs.declared.request.Call.{Call}
use Rattle.fsa_model.specs.Bounds.{most_client_lines, most_line_feeds}
use Rattle.fsa_model.specs.Schedule.{all_calls}
use Rattle.fsa_model.specs.Setup.{Script}
use Rattle.history_laws.specs.Cursors.{first_from}

-- a script within the limits
pub record IsWithinLimits (script : Script) : Type 0 where
  pub lines : length script.lines ≤ most_line_feeds
  pub clients : length script.setup.clients ≤ most_client_lines

-- behind each line the place of its client's next call
pub record AreNextPlaces (script : Script) (following : List ℕ) : Type 0 where
  pub long : length following ≡ length script.lines
  pub each : (place : ℕ) (call : Call) → slice_get script.lines place ≡ Some call → slice_index_or following place 0 ≡ first_from call.client (place + 1) (all_calls script)

-- the least of these cursors, among the first so many clients that don't wait; behind all calls where there is none
pub record IsLeastCursor (waiting : ℕ → Bool) (cursors : List ℕ) (clients all place : ℕ) : Type 0 where
  pub most : place ≤ all
  pub least : (client : ℕ) → client < clients → waiting client ≡ false → place ≤ slice_index_or cursors client 0
  pub is : (place ≡ all) ⊎ ((client : ℕ) × (client < clients) × (waiting client ≡ false) × (slice_index_or cursors client 0 ≡ place))
