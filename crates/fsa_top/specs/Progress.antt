-- How far a run has come: the history of the machine, its text, and where each client's next call stands.
use Rattle.std.specs.Prelude.{◌≡◌, ◌≤◌, ◌+◌, ◌⊎◌, Result, Ok, Err, ℕ, List, [], ◌∷◌, ◌++◌, Some, length, slice_get}
use Rattle.fsa_types.specs.declared.request.Call.{Call}
use Rattle.fsa_model.specs.History.{GaveOut, HistoryEntry}
use Rattle.fsa_model.specs.Outcome.{TurnOut}
use Rattle.fsa_model.specs.Schedule.{Scheduled, all_calls, next}
use Rattle.fsa_model.specs.Setup.{Script}
use Rattle.fsa_model.specs.Text.{shown_turns, turn_text}
use Rattle.history_laws.specs.Cursors.{StandAt}
use Rattle.history_laws.specs.Named.{IsReadScript}
use Rattle.history_laws.specs.GoesOn.{how_many_left}
use Rattle.fsa_machine.specs.MachineView.{MachineView}
use Rattle.wire_io.specs.Sink.{Written, Appends, AppendsPart}
use Rattle.text_out.specs.Writes.{Gathers}
use Rattle.text_out.specs.declared.write.TextFault.{TextFault}
use Rattle.text_out.specs.declared.write.TextFault.TheVariants.{Failed, NoMemory}
use Rattle.fsa_top.specs.Order.{AreNextPlaces, IsWithinLimits}
use Rattle.fsa_top.specs.declared.order.Order.{Order}

-- the machine's history is a schedule of the script, and the order knows which of its calls were made
pub record Progress (script : Script) (seen : MachineView) (order : Order) : Type 0 where
  pub is_read : IsReadScript script
  pub within : IsWithinLimits script
  pub setup : seen.setup ≡ script.setup
  pub scheduled : Scheduled script seen.entries
  -- no more calls were made and are left than the script has
  pub few : length seen.entries + how_many_left script seen.entries ≤ length (all_calls script)
  pub follows : AreNextPlaces script order.following.items
  pub long : length order.places.items ≡ length script.setup.clients
  pub cursors : StandAt (all_calls script) seen.entries order.places.items

-- the call at this place is next
pub record IsNextAt (script : Script) (history : List HistoryEntry) (place : ℕ) : Type 0 where
  pub call : Call
  pub at : slice_get (all_calls script) place ≡ Some call
  pub is : next script history ≡ Some call

-- the lines of a schedule's turns were written, but for those that are gathered
pub record WroteTurns (script : Script) (history : List HistoryEntry) (written written_now : Written) (gathered : List ℕ) : Type 0 where
  pub scheduled : Scheduled script history
  pub wrote : Gathers written written_now [] gathered (shown_turns script history)

-- the machine made a turn of this call, which gave this out
pub record TurnWasMade (old new : MachineView) (call : Call) (out : TurnOut) : Type 0 where
  pub setup : new.setup ≡ old.setup
  pub entries : new.entries ≡ old.entries ++ record { call = call; starved = out.starved } ∷ []
  pub gave : GaveOut new.setup new.entries out

-- where it went well, the turn was made and its lines came behind what was gathered; where the sink failed, the turn was
-- made and a part of both was written, or a part of what was gathered; where there was no memory, what was gathered was
-- written
abbrev pub MakesTurn : MachineView → MachineView → Call → Written → Written → List ℕ → List ℕ → Result (Unit {0}) TextFault → Type 0
MakesTurn old new call written written_now gathered gathered_now (Ok done) =
    (out : TurnOut) × TurnWasMade old new call out × Gathers written written_now gathered gathered_now (turn_text old.setup.clients call out)
MakesTurn old new call written written_now gathered gathered_now (Err Failed) =
    ((out : TurnOut) × TurnWasMade old new call out × AppendsPart written written_now (gathered ++ turn_text old.setup.clients call out)) ⊎ AppendsPart written written_now gathered
MakesTurn old new call written written_now gathered gathered_now (Err NoMemory) = Appends written written_now gathered
