-- Schedules that go on to their end.
use Rattle.std.specs.Prelude.{◌≡◌, ℕ, List, ◌++◌, not}
use Rattle.fsa_model.specs.History.{HistoryEntry}
use Rattle.fsa_model.specs.Once.{how_many}
use Rattle.fsa_model.specs.Schedule.{HasAllCalls, Scheduled, all_calls, is_made}
use Rattle.fsa_model.specs.Setup.{Script}
use Rattle.fsa_model.specs.Text.{shown_turns}

-- a schedule that has all calls and begins with this history, as its lines begin with those of this
pub record GoesOnTo (script : Script) (history whole : List HistoryEntry) : Type 0 where
  pub scheduled : Scheduled script whole
  pub all : HasAllCalls script whole
  pub begins : (more : List HistoryEntry) × (whole ≡ history ++ more)
  pub shows : (rest : List ℕ) × (shown_turns script whole ≡ shown_turns script history ++ rest)

-- how many calls of the script aren't in the history
abbrev pub how_many_left : Script → List HistoryEntry → ℕ
how_many_left script history = how_many (λ call. not (is_made history call)) (all_calls script)
