-- The walk along a path, from the root to the directory of its last name, after [MS-FSA] 'Server
-- Requests an Open of a File'.
use Rattle.std.specs.Prelude.{ℕ, ◌+◌, ◌-◌, ◌==◌, List, [], ◌∷◌, length, Option, is_some, option_and_then, slice_get, unwrap_or, if◌then◌else◌}
use Rattle.std.specs.Option.{option_map_or}
use Rattle.fsa_types.specs.Rows.{row_of}
use Rattle.fsa_types.specs.declared.status.Status.{Status}
use Rattle.fsa_types.specs.declared.status.Status.TheVariants.{DeletePending, ObjectPathNotFound}
use Rattle.fsa_model.specs.Volume.{Volume}
use Rattle.fsa_model.specs.Lookups.{child_of, is_directory}

-- a walk reaches a directory, by its file number; or it is barred with this status; or it meets a
-- file with a reparse point, and the component that would follow has this place
pub data Walked : Type 0 where
  Reached : ℕ → Walked
  Barred : Status → Walked
  Diverted : ℕ → ℕ → Walked

-- the reparse point of a file, its tag and its bytes
abbrev pub point_of : Volume → ℕ → Option (ℕ × List ℕ)
point_of v file = option_and_then (λ row. row.point) (row_of v.files file)

-- a component names this file, and the next one has this place; a reparse point stops the walk also
-- where the file isn't a directory
abbrev pub through : Volume → ℕ → ℕ → Walked
through v file next =
    if is_some (point_of v file) then Diverted file next
    else if is_directory v.files file then Reached file
    else Barred ObjectPathNotFound

-- a component is found as this link; a mark for deletion bars before all else
abbrev pub by_link : Volume → ℕ → ℕ → Walked
by_link v link next =
    option_map_or (λ row. if row.deleted then Barred DeletePending else through v row.file next) (row_of v.links link)
    (Barred ObjectPathNotFound)

-- a component is looked up in this directory
abbrev pub into : Volume → ℕ → List ℕ → ℕ → Walked
into v dir name next = option_map_or (λ link. by_link v link next) (child_of v dir name) (Barred ObjectPathNotFound)

-- the walk goes on from a directory that it reached
abbrev pub then_walk : (ℕ → Walked) → Walked → Walked
then_walk go_on (Reached dir) = go_on dir
then_walk go_on (Barred status) = Barred status
then_walk go_on (Diverted file next) = Diverted file next

-- each of these components but the last is looked up, from this directory on; the first has this place
-- in the path, counted from 0
abbrev pub walk_from : Volume → ℕ → ℕ → List (List ℕ) → Walked
walk_from v dir place [] = Reached dir
walk_from v dir place (name ∷ more) =
    if length more == 0 then Reached dir
    else then_walk (λ next. walk_from v next (place + 1) more) (into v dir name (place + 1))

-- the walk of a path with these components, to the directory of the last one
abbrev pub walk : Volume → List (List ℕ) → Walked
walk v components = walk_from v 1 0 components

-- the last of these components
abbrev pub last_name : List (List ℕ) → List ℕ
last_name components = unwrap_or (slice_get components (length components - 1)) []
