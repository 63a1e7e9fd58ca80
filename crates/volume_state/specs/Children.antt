-- The links of a directory in the order of their names, by their numbers.
use Rattle.std.specs.Prelude.{ℕ, Bool, not, List, [], ◌∷◌, Option}
use Rattle.std.specs.Option.{option_map_or}
use Rattle.fsa_types.specs.Rows.{row_of}
use Rattle.fsa_model.specs.Volume.{Link, Volume}
use Rattle.volume_rows.specs.Children.{links_after}

-- the links of a directory, marked or not, whose names are greater than that one, in order; all of them where
-- there is no name
abbrev pub children_after : Volume → ℕ → Option (List ℕ) → List (ℕ × Link)
children_after v dir after = links_after v.table dir after v.links

-- the links of these numbers, where they live
abbrev pub links_under : Volume → List ℕ → List (ℕ × Link)
links_under v [] = []
links_under v (id ∷ ids) = option_map_or (λ row. (id, row) ∷ links_under v ids) (row_of v.links id) (links_under v ids)

-- it isn't marked for deletion
abbrev pub is_unmarked : ℕ × Link → Bool
is_unmarked entry = not entry.1.deleted
