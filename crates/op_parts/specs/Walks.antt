-- What a walk answers, in the words of its definition, and what is true of a directory that it reaches.
use Rattle.std.specs.Prelude.{◌≤◌, ℕ, List, length}
use Rattle.fsa_model.specs.Volume.{Volume}
use Rattle.fsa_model.specs.Walk as model
use Rattle.op_parts.specs.declared.paths.Walked.{Walked}
use Rattle.op_parts.specs.declared.paths.Walked.TheVariants.{Reached, Barred, Diverted}
use Rattle.volume_state.specs.Living.{CanHold}

abbrev pub walked_of : Walked → model.Walked
walked_of (Reached dir) = model.Reached dir
walked_of (Barred status) = model.Barred status
walked_of (Diverted file next) = model.Diverted file next

-- the directory that is reached can hold links
abbrev pub ReachesHolder : Volume → Walked → Type 0
ReachesHolder v (Reached dir) = CanHold v dir
ReachesHolder v _ = Unit {0}

-- the component that would follow is one of these, or there is no more
abbrev pub IsIn : Walked → List (List ℕ) → Type 0
IsIn (Diverted file next) names = next ≤ length names
IsIn _ names = Unit {0}
