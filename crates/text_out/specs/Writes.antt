-- What was put of a text that is gathered first, what is gathered now, and what the sink's faults came to, by how the
-- call ended. No public standard speaks of this.
use Rattle.std.specs.Prelude.{◌≡◌, ℕ, ◌≤◌, List, [], ◌++◌, Result, Ok, Err, OnOk, IsErrOf}
use Rattle.wire_io.specs.Faults.{FailsLast}
use Rattle.wire_io.specs.Sink.{Written, Appends, AppendsPart}
use Rattle.text_out.specs.declared.write.TextFault.{TextFault}
use Rattle.text_out.specs.declared.write.TextFault.TheVariants.{Failed, NoMemory}

-- this text came behind what was gathered; a front of both was put, and the rest is gathered now
pub record Gathers (written written_now : Written) (gathered gathered_now text : List ℕ) : Type 0 where
  pub front : List ℕ
  pub splits : gathered ++ text ≡ front ++ gathered_now
  pub put : Appends written written_now front

-- the text came so; where the sink failed, a part of what was gathered and of the text was put, and not all; where there
-- was no memory, what was gathered was put, and no more. Nothing is gathered after either
abbrev pub AddsText : Written → Written → List ℕ → List ℕ → List ℕ → Result (Unit {0}) TextFault → Type 0
AddsText written written_now gathered gathered_now text (Ok done) = Gathers written written_now gathered gathered_now text
AddsText written written_now gathered gathered_now text (Err Failed) = AppendsPart written written_now (gathered ++ text) × (gathered_now ≡ [])
AddsText written written_now gathered gathered_now text (Err NoMemory) = Appends written written_now gathered × (gathered_now ≡ [])

-- all of what was gathered was put, and the text behind it, so that nothing is gathered now; where it failed, as above
abbrev pub Finishes : Written → Written → List ℕ → List ℕ → List ℕ → Result (Unit {0}) TextFault → Type 0
Finishes written written_now gathered gathered_now text (Ok done) = Appends written written_now (gathered ++ text) × (gathered_now ≡ [])
Finishes written written_now gathered gathered_now text (Err Failed) = AppendsPart written written_now (gathered ++ text) × (gathered_now ≡ [])
Finishes written written_now gathered gathered_now text (Err NoMemory) = Appends written written_now gathered × (gathered_now ≡ [])

-- what was gathered was put where there was no memory for more; where the sink failed, a part of it, and not all
abbrev pub GivesUp : Written → Written → List ℕ → List ℕ → TextFault → Type 0
GivesUp written written_now gathered gathered_now Failed = AppendsPart written written_now gathered × (gathered_now ≡ [])
GivesUp written written_now gathered gathered_now NoMemory = Appends written written_now gathered × (gathered_now ≡ [])

-- the count of faults never falls. Where the sink failed, its last put alone did; where it didn't, none did
pub record TellsFaults (before now since : ℕ) (result : Result (Unit {0}) TextFault) : Type 0 where
  pub later : before ≤ now
  pub failed : IsErrOf result Failed → FailsLast before now since
  pub unfailed : OnOk result (now ≡ before)
  pub no_memory : IsErrOf result NoMemory → now ≡ before
