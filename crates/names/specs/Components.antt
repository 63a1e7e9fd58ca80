-- What an iterator over the components of a path has left.
use Rattle.std.specs.Prelude.{ℕ, List, [], map, Option, Some, None}
use Rattle.std.specs.Borrow.{Bor}
use Rattle.std.specs.List.{before_first, slice_split}
use Rattle.fsa_types.specs.Paths.{is_separator, is_colon}

-- the components of the pieces that are left
abbrev pub components_left : Option (Bor (List ℕ)) → List (List ℕ)
components_left None = []
components_left (Some rest) = map (before_first is_colon) (slice_split is_separator rest.now)
