-- What a client's run knows of its desk, and what one step does.
use Rattle.std.specs.Prelude.{◌≡◌, ◌⊎◌, ℕ, ◌+◌, ◌≤◌, List, [], ◌∷◌, ◌++◌, length, None, Some, option_to_list}
use Rattle.fsa_types.specs.declared.reply.Reply.{Reply}
use Rattle.fsa_types.specs.declared.reply.Why.TheVariants.{HistoryFull}
use Rattle.fsa_types.specs.declared.request.Call.{Call}
use Rattle.fsa_model.specs.Bounds.{most_entries}
use Rattle.fsa_model.specs.History.{Run, run}
use Rattle.history_laws.specs.CallAnswers.{HasEnded, Pends}
use Rattle.client_run.specs.declared.run.ClientRun.{ClientRun}
use Rattle.client_run.specs.declared.run.Step.{Step}
use Rattle.client_run.specs.declared.run.Step.TheVariants.{Moved, Waiting, Busy, Ended, Refused}
use Rattle.client_run.specs.Calls.{IsLined}
use Rattle.client_run.specs.Desks.{DeskView, SeesHistory}
use Rattle.client_run.specs.ClientHistory.{IsOrderly, WaitsOnlyBy}

-- ---- a run

-- the calls that are still to be made
abbrev pub todo_in : ClientRun → List Call
todo_in run = option_to_list run.held ++ run.rest.items

-- all calls of the run, those made first
abbrev pub planned : List Call → ClientRun → List Call
planned made run = made ++ todo_in run

abbrev pub holding : Call → ClientRun → ClientRun
holding call run = record run { held = Some call }

-- The run is of the desk's client, and the calls made are the first of its calls. Each of them stands where no wait
-- of the client was pending, and none is pending now but the one for which the run waits
pub record FitsDesk (desk : DeskView) (client_run : ClientRun) : Type 0 where
  pub served : client_run.client ≡ desk.client
  pub lined : IsLined desk.client (planned desk.made client_run)
  pub sees : SeesHistory desk
  pub orderly : IsOrderly desk.setup desk.client desk.seen
  pub waits : (number : ℕ) → client_run.waits ≡ Some number → (1 ≤ number) × (number ≤ length desk.made)
  pub more : (number : ℕ) → client_run.waits ≡ Some number → todo_in client_run ≡ [] → ⊥
  pub waited : (r : Run) → run desk.setup desk.seen ≡ Some r → WaitsOnlyBy r.volume desk.client client_run.waits

-- the next call was made
pub record MakesNextCall (v w : DeskView) (before after : ClientRun) : Type 0 where
  pub call : Call
  pub more : w.made ≡ v.made ++ call ∷ []
  pub next : todo_in before ≡ call ∷ todo_in after

-- the call for which the run waited has ended, and it waits no more
pub record WaitEnds (v w : DeskView) (before after : ClientRun) : Type 0 where
  pub number : ℕ
  pub waited : before.waits ≡ Some number
  pub reply : Reply
  pub ended : HasEnded w.setup w.seen w.client number reply
  pub goes_on : after.waits ≡ None
  pub made : w.made ≡ v.made
  pub same : todo_in after ≡ todo_in before

-- the call for which it waits is pending in what is seen, which was looked at anew
pub record WaitPends (v w : DeskView) (before after : ClientRun) : Type 0 where
  pub number : ℕ
  pub waits : before.waits ≡ Some number
  pub pends : Pends w.setup w.seen w.client number
  pub loads : v.loads + 1 ≤ w.loads
  pub made : w.made ≡ v.made
  pub same : after ≡ before

-- no call was made, and the next one is the same
pub record StaysNext (v w : DeskView) (before after : ClientRun) : Type 0 where
  pub made : w.made ≡ v.made
  pub same : todo_in after ≡ todo_in before
  pub waits : after.waits ≡ before.waits

-- what the step answers
abbrev pub Steps : DeskView → DeskView → ClientRun → ClientRun → Step → Type 0
Steps v w before after Moved = MakesNextCall v w before after ⊎ WaitEnds v w before after
Steps v w before after Waiting = WaitPends v w before after
Steps v w before after Busy = (v.lost + 1 ≤ w.lost) × StaysNext v w before after
Steps v w before after Ended = todo_in after ≡ []
Steps v w before after (Refused why) = (why ≡ HistoryFull → length w.seen ≡ most_entries) × StaysNext v w before after
