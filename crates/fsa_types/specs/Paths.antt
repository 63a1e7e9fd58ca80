-- Paths: their faults in order, their components, what is left of them from a component on, and
-- their stream part, after [MS-FSCC] 'Pathname', 'Filename' and 'Streamname'.
use Rattle.std.specs.Prelude.{ℕ, ◌+◌, Bool, not, ◌||◌, ◌==◌, nat_eq, nat_lt, if◌then◌else◌, List, [], ◌∷◌, length, map, drop, position, slice_get, slice_index, Option, Some, None, codes}
use Rattle.std.specs.List.{before_first, slice_split, join_with_byte, list_any}
use Rattle.std.specs.Option.{option_map, option_or}
use Rattle.std.specs.Cmp.Lexicographic.{pointwise}
use Rattle.fsa_types.specs.CaseTable.{same_name, ascii_pairs}

-- why a path is refused; the place of a unit is counted in the path, from 0
pub data PathFault : Type 0 where
  Empty : PathFault
  TooLong : PathFault
  BadUnit : ℕ → PathFault
  BadStream : PathFault

-- `\` and `:`
abbrev pub is_separator : ℕ → Bool
is_separator unit = unit == 92

abbrev pub is_colon : ℕ → Bool
is_colon unit = unit == 58

-- what stands between the `\` of a path; the last piece has the stream part with it
abbrev pub path_pieces : List ℕ → List (List ℕ)
path_pieces path = slice_split is_separator (drop 1 path)

-- ---- faults

-- a unit that no name has: below 0x20, or one of `" / : | < > * ?`
abbrev pub is_bad_unit : ℕ → Bool
is_bad_unit unit = nat_lt unit 32 || list_any (λ bad. bad == unit) (codes "\"/:|<>*?")

-- `.` and `..`
abbrev pub is_dots : List ℕ → Bool
is_dots name = pointwise nat_eq name (codes ".") || pointwise nat_eq name (codes "..")

-- the most units of a component, of a stream's name and of an expression
abbrev pub most_name_units : ℕ
most_name_units = 255

-- the fault of a component whose first unit has this place
abbrev pub component_fault : ℕ → List ℕ → Option PathFault
component_fault place name =
    if length name == 0 then Some Empty
    else if nat_lt most_name_units (length name) then Some TooLong
    else if is_dots name then Some (BadUnit place)
    else option_map (λ i. BadUnit (place + i)) (position is_bad_unit name)

-- a stream's name that is refused: too many units, or one that is 0 or `/`
abbrev pub is_bad_stream : List ℕ → Bool
is_bad_stream stream = nat_lt most_name_units (length stream) || list_any (λ unit. unit == 0 || unit == 47) stream

-- `$DATA` in any case of its letters
abbrev pub is_data : List ℕ → Bool
is_data kind = same_name ascii_pairs kind (codes "$DATA")

-- the fault of the parts of the last piece, cut at each `:`
abbrev pub stream_fault : List (List ℕ) → Option PathFault
stream_fault [] = None
stream_fault (name ∷ []) = None
stream_fault (name ∷ stream ∷ []) = if length stream == 0 || is_bad_stream stream then Some BadStream else None
stream_fault (name ∷ stream ∷ kind ∷ []) = if is_bad_stream stream || not (is_data kind) then Some BadStream else None
stream_fault (name ∷ stream ∷ kind ∷ part ∷ parts) = Some BadStream

-- the fault of the last piece: that of its name, then that of its stream part
abbrev pub last_fault : ℕ → List ℕ → Option PathFault
last_fault place piece =
    option_or (component_fault place (before_first is_colon piece)) (stream_fault (slice_split is_colon piece))

-- the first fault of the pieces from the left; the first of them has its first unit at this place
abbrev pub pieces_fault : ℕ → List (List ℕ) → Option PathFault
pieces_fault place [] = None
pieces_fault place (piece ∷ more) =
    if length more == 0 then last_fault place piece
    else option_or (component_fault place piece) (pieces_fault (place + length piece + 1) more)

-- the most units of a path
abbrev pub most_path_units : ℕ
most_path_units = 32760

-- the fault of a path: too many units, no `\` first, or that of its pieces; the root has none
abbrev pub path_fault : List ℕ → Option PathFault
path_fault path =
    if nat_lt most_path_units (length path) then Some TooLong
    else if not (slice_index path 0 == 92) then Some Empty
    else if length path == 1 then None
    else pieces_fault 1 (path_pieces path)

-- ---- what a path without a fault says

-- its components: the pieces up to the `:`, which the last alone may have; the root has none
abbrev pub components : List ℕ → List (List ℕ)
components path = if length path == 1 then [] else map (before_first is_colon) (path_pieces path)

-- its units from this component on, the stream part with them; none where there are no more
abbrev pub rest_of : List ℕ → ℕ → List ℕ
rest_of path i = join_with_byte 92 (drop i (path_pieces path))

-- its stream part, what stands between its first `:` and the next; the default stream is empty
abbrev pub stream_part : List ℕ → Option (List ℕ)
stream_part path = slice_get (slice_split is_colon path) 1
