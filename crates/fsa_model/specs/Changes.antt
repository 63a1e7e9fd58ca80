-- Changes, and from where they are seen, after [MS-FSA] 'Server Requests Change Notifications for a Directory' and 'Algorithm
-- for Reporting a Change Notification for a Directory'.
use Rattle.std.specs.Prelude.{ℕ, ◌+◌, List, [], ◌∷◌, ◌++◌, Option, zero, suc, max, length}
use Rattle.std.specs.Option.{option_map_or}
use Rattle.fsa_types.specs.Rows.{row_of}
use Rattle.fsa_model.specs.Volume.{Link, Stream, Volume}
use Rattle.fsa_model.specs.Lookups.{link_of_file}

-- the ancestor directories of what is called `name` in directory `dir`, the parent first, each with
-- the name relative to it, components joined by `\`; at most so many
abbrev pub ancestors : ℕ → List (ℕ × Link) → ℕ → List ℕ → List (ℕ × List ℕ)
ancestors zero links dir name = []
ancestors (suc most) links dir name =
    (dir, name) ∷ option_map_or (λ entry. ancestors most links entry.1.parent (entry.1.name ++ 92 ∷ name)) (link_of_file links dir) []

-- from where this link is seen at this moment; a path has at most one directory more than there are links
abbrev pub seen_from : List (ℕ × Link) → Link → List ℕ → List (ℕ × List ℕ)
seen_from links link suffix = ancestors (length links + 1) links link.parent (link.name ++ suffix)

-- `:` and the stream's name, where the change is of a stream
abbrev pub stream_suffix : List (ℕ × Stream) → Option ℕ → List ℕ
stream_suffix streams stream =
    option_map_or (λ id. option_map_or (λ row. 58 ∷ row.name) (row_of streams id) []) stream []

-- a change of the link noted, of a stream of its file or else of the file, with this action and these
-- filter bits; of link 0 nothing is noted
abbrev pub with_change_noted : Volume → ℕ → ℕ → ℕ → Option ℕ → Volume
with_change_noted v link action bits stream =
    option_map_or
    (λ row. record v {
      changes = v.changes ++
          record { action = action; bits = bits; seen_from = seen_from v.links row (stream_suffix v.streams stream) } ∷ [];
    })
    (row_of v.links link) v

-- the units of the path: those of the longest name by which it is seen
abbrev pub path_units : List (ℕ × List ℕ) → ℕ
path_units [] = 0
path_units (first ∷ more) = max (length first.1) (path_units more)

-- how many units and how many ancestors a change of the link would note
abbrev pub units_noted : Volume → ℕ → Option ℕ → ℕ
units_noted v link stream =
    option_map_or (λ row. path_units (seen_from v.links row (stream_suffix v.streams stream))) (row_of v.links link) 0

abbrev pub dirs_noted : Volume → ℕ → Option ℕ → ℕ
dirs_noted v link stream =
    option_map_or (λ row. length (seen_from v.links row (stream_suffix v.streams stream))) (row_of v.links link) 0
