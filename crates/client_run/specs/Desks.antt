-- What a desk shows of itself, and what its calls make of that.
use Rattle.std.specs.Prelude.{◌≡◌, ℕ, ◌+◌, ◌≤◌, List, [], ◌∷◌, ◌++◌, length}
use Rattle.fsa_types.specs.declared.reply.Answer.{Answer}
use Rattle.fsa_types.specs.declared.request.Call.{Call}
use Rattle.fsa_types.specs.declared.request.What.{What}
use Rattle.fsa_model.specs.History.{HistoryEntry}
use Rattle.fsa_model.specs.Setup.{Setup}
use Rattle.history_laws.specs.CallAnswers.{LastTurnAnswered}
use Rattle.history_lock.specs.History.{Begins}
use Rattle.client_run.specs.Calls.{calls_in}
use Rattle.client_run.specs.ClientHistory.{IsRunOfDistinctCalls}

-- what a desk shows of itself
pub record DeskView : Type 0 where
  pub setup : Setup
  pub client : ℕ
  pub made : List Call
  pub seen : List HistoryEntry
  pub loads : ℕ
  pub lost : ℕ

-- no call was made, and nothing is seen less; the two counts don't fall
pub record DeskOnlySees (v w : DeskView) : Type 0 where
  pub setup : w.setup ≡ v.setup
  pub client : w.client ≡ v.client
  pub made : w.made ≡ v.made
  pub seen : Begins v.seen w.seen
  pub loads : v.loads ≤ w.loads
  pub lost : v.lost ≤ w.lost

-- the desk's client made one call more, this one, which has this number and was answered so: its entry ends what is
-- seen now, and stands behind all that had been seen
pub record Asks (what : What) (number : ℕ) (answer : Answer) (v w : DeskView) : Type 0 where
  pub setup : w.setup ≡ v.setup
  pub client : w.client ≡ v.client
  pub count : number ≡ length v.made + 1
  pub made : w.made ≡ v.made ++ record { client = v.client; number = number; what = what } ∷ []
  pub front : List HistoryEntry
  pub entry : HistoryEntry
  pub seen : w.seen ≡ front ++ entry ∷ []
  pub after : Begins v.seen front
  pub called : entry.call ≡ record { client = v.client; number = number; what = what }
  pub answers : LastTurnAnswered w.setup w.seen answer
  pub loads : v.loads ≤ w.loads
  pub lost : v.lost ≤ w.lost

-- what is seen is a history, and the calls made are the client's calls in it
pub record SeesHistory (v : DeskView) : Type 0 where
  pub history : IsRunOfDistinctCalls v.setup v.seen
  pub own : v.made ≡ calls_in v.client v.seen
