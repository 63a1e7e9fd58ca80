-- Entries of a directory by where they stand: `.`, `..` and links by their numbers.
use Rattle.std.specs.Prelude.{ℕ, Bool, ◌&&◌, not, List}
use Rattle.std.specs.Option.{option_map_or}
use Rattle.fsa_types.specs.Match.{matches}
use Rattle.fsa_types.specs.Rows.{row_of}
use Rattle.fsa_model.specs.QueryDir.{DirectoryEntry, dot_dot_entry, dot_entry, is_still_to_come, link_entry}
use Rattle.fsa_model.specs.Volume.{Cursor, Link, Volume}
use Rattle.op_dir.specs.declared.places.Place.{Place}
use Rattle.op_dir.specs.declared.places.Place.TheVariants as place

-- the entry at a place; for a number that no link has, `.`
abbrev pub place_entry : Volume → ℕ → Place → DirectoryEntry
place_entry v dir place.Dot = dot_entry dir
place_entry v dir place.DotDot = dot_dot_entry v dir
place_entry v dir (place.Link id) = option_map_or (λ row. link_entry (id, row)) (row_of v.links id) (dot_entry dir)

-- an entry is still to come behind the cursor, and matches
abbrev pub is_wanted : Volume → List ℕ → Cursor → DirectoryEntry → Bool
is_wanted v expression cursor entry = is_still_to_come v.table cursor entry.place && matches v.table expression entry.name

-- a link isn't marked for deletion, and matches
abbrev pub is_listed : Volume → List ℕ → ℕ × Link → Bool
is_listed v expression entry = not entry.1.deleted && matches v.table expression entry.1.name
