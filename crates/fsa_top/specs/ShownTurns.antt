-- The lines of a history that is there already, gathered turn by turn and put in blocks.
use Rattle.std.specs.Prelude.{◌≡◌, ℕ, List, [], Some, map, slice_get, take}
use Rattle.fsa_types.specs.declared.request.Call.{Call}
use Rattle.fsa_model.specs.History.{HistoryEntry, Run, run}
use Rattle.fsa_model.specs.Outcome.{TurnOut}
use Rattle.fsa_model.specs.Setup.{Script}
use Rattle.fsa_model.specs.Text.{turn_text, turns_text}
use Rattle.wire_io.specs.Sink.{Written}
use Rattle.text_out.specs.Writes.{Gathers}

-- the lines of the first so many turns were written, but for those that are gathered
abbrev pub ShowsFirst : Script → List HistoryEntry → ℕ → Written → Written → List ℕ → Type 0
ShowsFirst script history turns written written_now gathered =
    (r : Run) → run script.setup history ≡ Some r → Gathers written written_now [] gathered (turns_text script.setup.clients (take turns history) (take turns r.outs))

-- this was done with the lines of the turn at this place
abbrev pub ShowsTurn : Script → List HistoryEntry → ℕ → (List ℕ → Type 0) → Type 0
ShowsTurn script history turn does =
    (call : Call) × (out : TurnOut) × (slice_get (map (λ entry. entry.call) history) turn ≡ Some call)
    × ((r : Run) → run script.setup history ≡ Some r → slice_get r.outs turn ≡ Some out)
    × does (turn_text script.setup.clients call out)
