-- What is said of the answers to one client's calls, case by case; what a line can ask; and how a call stands in a
-- history.
use Rattle.std.specs.Prelude.{◌≡◌, ℕ, true, List, Some, IsTrue, find, option_map}
use Rattle.fsa_types.specs.Request.{what_fits}
use Rattle.fsa_types.specs.declared.reply.Answer.{Answer}
use Rattle.fsa_types.specs.declared.reply.Poll.{Poll}
use Rattle.fsa_types.specs.declared.reply.Poll.TheVariants.{Done, Pending, Busy as Unknown, NoMemory}
use Rattle.fsa_types.specs.declared.reply.Reply.{Reply}
use Rattle.fsa_types.specs.declared.reply.Submitted.{Submitted}
use Rattle.fsa_types.specs.declared.reply.Submitted.TheVariants.{Did, Busy, Refused}
use Rattle.fsa_types.specs.declared.reply.Why.{Why}
use Rattle.fsa_types.specs.declared.request.What.{What}
use Rattle.fsa_model.specs.Ended.{ended_with_list}
use Rattle.fsa_model.specs.History.{GaveOut, HistoryEntry, Run, run}
use Rattle.fsa_model.specs.LineCalls.{ticks_fit}
use Rattle.fsa_model.specs.Once.{is_end}
use Rattle.fsa_model.specs.Outcome.{TurnOut}
use Rattle.fsa_model.specs.Setup.{Setup}
use Rattle.fsa_model.specs.Waiting.{is_pending}

-- a line can ask this
pub record CanAsk (what : What) : Type 0 where
  pub fits : IsTrue (what_fits what)
  pub ticks : IsTrue (ticks_fit what)

-- ---- how a call stands

-- the client's call of this number has ended so in this history
abbrev pub HasEnded : Setup → List HistoryEntry → ℕ → ℕ → Reply → Type 0
HasEnded setup seen client number reply =
    (r : Run) → run setup seen ≡ Some r → option_map (λ end. end.reply) (find (is_end client number) r.volume.ended) ≡ Some reply

-- it has ended there with a body whose copy takes memory
abbrev pub EndedWithList : Setup → List HistoryEntry → ℕ → ℕ → Type 0
EndedWithList setup seen client number = (r : Run) → run setup seen ≡ Some r → ended_with_list r.volume.ended client number ≡ true

-- it is pending there
abbrev pub Pends : Setup → List HistoryEntry → ℕ → ℕ → Type 0
Pends setup seen client number = (r : Run) → run setup seen ≡ Some r → is_pending r.volume client number ≡ true

-- the turn that the last entry stands for answered its own call so
pub record LastTurnAnswered (setup : Setup) (seen : List HistoryEntry) (answer : Answer) : Type 0 where
  pub out : TurnOut
  pub gave : GaveOut setup seen out
  pub is : out.answer ≡ answer

-- ---- answers

abbrev pub IfDid : Submitted → (ℕ → Answer → Type 0) → Type 0
IfDid (Did number answer) P = P number answer
IfDid (Busy back) P = Unit {0}
IfDid (Refused back why) P = Unit {0}

abbrev pub IfBusy : Submitted → (What → Type 0) → Type 0
IfBusy (Did number answer) P = Unit {0}
IfBusy (Busy back) P = P back
IfBusy (Refused back why) P = Unit {0}

abbrev pub IfRefused : Submitted → (What → Why → Type 0) → Type 0
IfRefused (Did number answer) P = Unit {0}
IfRefused (Busy back) P = Unit {0}
IfRefused (Refused back why) P = P back why

abbrev pub IfDone : Poll → (Reply → Type 0) → Type 0
IfDone (Done reply) P = P reply
IfDone Pending P = Unit {0}
IfDone Unknown P = Unit {0}
IfDone NoMemory P = Unit {0}

abbrev pub OnPending : Poll → Type 0 → Type 0
OnPending (Done reply) P = Unit {0}
OnPending Pending P = P
OnPending Unknown P = Unit {0}
OnPending NoMemory P = Unit {0}

abbrev pub OnBusy : Poll → Type 0 → Type 0
OnBusy (Done reply) P = Unit {0}
OnBusy Pending P = Unit {0}
OnBusy Unknown P = P
OnBusy NoMemory P = Unit {0}

abbrev pub OnNoMemory : Poll → Type 0 → Type 0
OnNoMemory (Done reply) P = Unit {0}
OnNoMemory Pending P = Unit {0}
OnNoMemory Unknown P = Unit {0}
OnNoMemory NoMemory P = P
