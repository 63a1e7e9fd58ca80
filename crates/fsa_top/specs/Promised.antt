-- What the program promises for its words, over every source and every sink: `PromisedSummary` where they are
-- `gen N`, and `Promised` for all others.
use Rattle.std.specs.Prelude.{◌≡◌, ◌≢◌, ◌≤◌, ◌+◌, ◌⊎◌, ◌↔◌, ℕ, Bool, false, true, List, Option, Some, None}
use Rattle.fsa_model.specs.Generator.{generated}
use Rattle.wire_io.specs.Faults.{FailsLast, Rose, StopsAtFault}
use Rattle.wire_io.specs.Sink.{Written}
use Rattle.wire_io.specs.Source.{HasReadAtMost, Taken, TakesLittle}
use Rattle.fsa_top.specs.declared.limits.Limit.{Limit}
use Rattle.fsa_top.specs.Limits.{limit_of, most_script_bytes}
use Rattle.fsa_model.specs.Setup.{Script}
use Rattle.fsa_top.specs.Runs.{FoundBad, FoundLimit, IsNoScript, IsScript, Ran}
use Rattle.fsa_top.specs.Summaries.{WritesSummary, WritesSummaryPart}
use Rattle.fsa_top.specs.Words.{Says, limit_line, usage_line}

-- what a source tells of itself
pub record SourceView (S : Type 0) : Type 0 where
  pub left : S → Option (List ℕ)
  pub faults : S → ℕ
  pub takes : S → ℕ
  pub taken : S → Taken

-- what a sink tells of itself
pub record SinkView (K : Type 0) : Type 0 where
  pub written : K → Written
  pub faults : K → ℕ

-- what holds of the status with which a script that was read is run, and of the sink, where the run writes this whole
-- text, or this part of one
pub record EndsRun {K : Type 0} (on : SinkView K) (whole piece : Script → Written → Written → Type 0) (script : Script) (sink sink_now : K) (status : ℕ) : Type 0 where
  pub done : status ≡ 0 → whole script (on.written sink) (on.written sink_now)
  pub part : status ≡ 4 → piece script (on.written sink) (on.written sink_now)
  pub write : status ≡ 4 → FailsLast (on.faults sink) (on.faults sink_now) (on.written sink_now).since_fault
  pub memory : status ≡ 5 → (sink_now ≡ sink) ⊎ piece script (on.written sink) (on.written sink_now)
  pub unfailed : status ≢ 4 → on.faults sink_now ≡ on.faults sink
  pub known : (status ≡ 0) ⊎ ((status ≡ 4) ⊎ (status ≡ 5))
  pub later : on.faults sink ≤ on.faults sink_now

-- what holds of the status that the program answers, of the source and of the sink: where the words are a list that
-- it takes, and a run of a script writes this whole text, or this part of one
pub record Promised {S K : Type 0} (of : SourceView S) (on : SinkView K) (is_list : Bool) (whole part : Script → Written → Written → Type 0) (source source_now : S) (sink sink_now : K) (status : ℕ) : Type 0 where
  -- 0: the source was read to its end, and the text of a history of its script was written
  pub success_is_the_text_of_a_history : status ≡ 0 → Ran whole (of.left source) (of.left source_now) (on.written sink) (on.written sink_now)
  -- 1: exactly where the words are no list that the program takes; then the source isn't touched
  pub usage_exactly : (status ≡ 1) ↔ (is_list ≡ false)
  pub usage_reads_nothing : status ≡ 1 → (source_now ≡ source) × Says usage_line (on.written sink) (on.written sink_now) (on.faults sink) (on.faults sink_now)
  -- 2: the bytes are no script, and the line that names the first faulty line was written
  pub bad_script : status ≡ 2 → FoundBad (of.left source) (of.left source_now) (on.written sink) (on.written sink_now) (on.faults sink) (on.faults sink_now)
  -- 3: the source failed at its last take; the sink isn't touched
  pub source_failed : status ≡ 3 → FailsLast (of.faults source) (of.faults source_now) (of.taken source_now).since × (sink_now ≡ sink)
  -- 4: the sink failed at its last put, and a part of the text of a history that has all calls was written
  pub sink_failed : status ≡ 4
      → FailsLast (on.faults sink) (on.faults sink_now) (on.written sink_now).since_fault × Ran part (of.left source) (of.left source_now) (on.written sink) (on.written sink_now)
  -- 5: neither failed, and such a part was written, or nothing
  pub no_memory : status ≡ 5
      → (of.faults source_now ≡ of.faults source) × (on.faults sink_now ≡ on.faults sink)
      × ((sink_now ≡ sink) ⊎ Ran part (of.left source) (of.left source_now) (on.written sink) (on.written sink_now))
  -- 6: the bytes pass a limit, and the line that names it was written
  pub limit_passed : status ≡ 6 → FoundLimit (of.left source) (on.written sink) (on.written sink_now) (on.faults sink) (on.faults sink_now)
  pub known : status ≤ 6
  -- how the source and the sink are asked
  pub reads_in_few_turns : of.takes source_now ≤ of.takes source + (most_script_bytes + 1)
  pub reads_at_most_one_byte_above_the_limit : status ≢ 1 → HasReadAtMost (most_script_bytes + 1) (of.left source) (of.left source_now)
  pub takes_nothing_after_the_end_or_a_fault : status ≢ 1 → TakesLittle (most_script_bytes + 1) (of.taken source) (of.taken source_now)
  pub the_last_take_met_the_end : (status ≡ 0) ⊎ (status ≡ 2) → (of.taken source_now).since ≡ 0
  pub puts_nothing_after_a_fault : StopsAtFault (on.faults sink) (on.faults sink_now) (on.written sink_now).since_fault
  pub faults_never_fall : (of.faults source ≤ of.faults source_now) × (on.faults sink ≤ on.faults sink_now)
  -- the converses: what the words and the bytes are decides the status, but for want of memory
  pub complete : (bytes : List ℕ) → is_list ≡ true → of.left source ≡ Some bytes → limit_of bytes ≡ None → IsScript bytes
      → (Rose (of.faults source) (of.faults source_now) → ⊥) → (Rose (on.faults sink) (on.faults sink_now) → ⊥) → (status ≡ 0) ⊎ (status ≡ 5)
  pub bad_exactly : (bytes : List ℕ) → is_list ≡ true → of.left source ≡ Some bytes → limit_of bytes ≡ None → IsNoScript bytes
      → (Rose (of.faults source) (of.faults source_now) → ⊥) → (status ≡ 2) ⊎ (status ≡ 5)
  pub limit_exactly : (bytes : List ℕ) (limit : Limit) → is_list ≡ true → of.left source ≡ Some bytes → limit_of bytes ≡ Some limit
      → (Rose (of.faults source) (of.faults source_now) → ⊥)
      → ((status ≡ 6) × Says (limit_line limit) (on.written sink) (on.written sink_now) (on.faults sink) (on.faults sink_now)) ⊎ (status ≡ 5)

-- what holds of them where the words are `gen N`, for the generated script of this seed
pub record PromisedSummary {S K : Type 0} (on : SinkView K) (seed : ℕ) (source source_now : S) (sink sink_now : K) (status : ℕ) : Type 0 where
  -- 0: the summary of a history that is scheduled for the script and has all its calls was written
  pub success_is_the_summary_of_a_history : status ≡ 0 → WritesSummary (generated seed) (on.written sink) (on.written sink_now)
  -- 4: the sink failed at its last put, and a part of such a summary was written
  pub sink_failed : status ≡ 4
      → FailsLast (on.faults sink) (on.faults sink_now) (on.written sink_now).since_fault × WritesSummaryPart (generated seed) (on.written sink) (on.written sink_now)
  -- 5: the sink isn't touched
  pub no_memory : status ≡ 5 → sink_now ≡ sink
  pub known : (status ≡ 0) ⊎ ((status ≡ 4) ⊎ (status ≡ 5))
  -- the source isn't touched, so its faults are as they were
  pub reads_nothing : source_now ≡ source
  pub puts_nothing_after_a_fault : StopsAtFault (on.faults sink) (on.faults sink_now) (on.written sink_now).since_fault
  pub faults_never_fall : on.faults sink ≤ on.faults sink_now
  -- the converse: want of memory and a fault of the sink alone keep the summary from being written
  pub complete : (Rose (on.faults sink) (on.faults sink_now) → ⊥) → (status ≡ 0) ⊎ (status ≡ 5)
