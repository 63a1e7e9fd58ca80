-- What the run of a generated script writes: the summary of a history that is scheduled for it.
use Rattle.std.specs.Prelude.{◌≡◌, ℕ, List}
use Rattle.std.specs.List.{flat_map}
use Rattle.fsa_types.specs.declared.status.Status.{Status}
use Rattle.fsa_model.specs.History.{HistoryEntry}
use Rattle.fsa_model.specs.Setup.{Script}
use Rattle.fsa_model.specs.Summary.{count_line, statuses, summary}
use Rattle.wire_io.specs.Sink.{Written, Appends, AppendsPart}
use Rattle.fsa_top.specs.Runs.{IsHistory}

-- the lines of all statuses with which calls ended
unfoldable pub counts_text : List Status → List ℕ
counts_text ends = flat_map (count_line ends) statuses

-- a history of the script that has all its calls, as a run makes it, and whose summary this is
pub record IsSummary (script : Script) (text : List ℕ) : Type 0 where
  pub history : List HistoryEntry
  pub is_history : IsHistory script history
  pub is : text ≡ summary script history

-- the summary of such a history was written
abbrev pub WritesSummary : Script → Written → Written → Type 0
WritesSummary script written written_now = (text : List ℕ) × IsSummary script text × Appends written written_now text

-- a part of the summary of such a history was written, and not all of it
abbrev pub WritesSummaryPart : Script → Written → Written → Type 0
WritesSummaryPart script written written_now = (text : List ℕ) × IsSummary script text × AppendsPart written written_now text
