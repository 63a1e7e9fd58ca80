-- What is said of each volume of a history before and after its tries, and after its last turn. Where the history can be run nothing
-- changes between two tries of handles, files, links and streams (`CachingIsCoherent`, `TreeChangesAsAsked`).
use Rattle.std.specs.Prelude.{◌≡◌, List, All, Some}
use Rattle.fsa_model.specs.History.{HistoryEntry, Run, run}
use Rattle.fsa_model.specs.Setup.{Setup}
use Rattle.fsa_model.specs.Tries.{Tried, left_by, tries_of}
use Rattle.fsa_model.specs.Volume.{Volume}

-- it holds before a try and after it
pub record HoldsAround (holds : Volume → Type 0) (t : Tried) : Type 0 where
  pub before : holds t.before
  pub after : holds (left_by t)

-- in each try of a history, and after its last turn where the history can be run
pub record HoldsOfEachVolume (holds : Volume → Type 0) (setup : Setup) (history : List HistoryEntry) : Type 0 where
  pub tries : All (HoldsAround holds) (tries_of setup history)
  pub last : (r : Run) → run setup history ≡ Some r → holds r.volume
