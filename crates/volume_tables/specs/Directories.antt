-- The links of each directory in the order of their names.
use Rattle.std.specs.Prelude.{◌≡◌, ℕ, false, ◌==◌, List, [], AllPairs, filter, map}
use Rattle.std.specs.Option.{option_map_or}
use Rattle.slab.specs.Slab.{Slab, get}
use Rattle.fsa_types.specs.Rows.{row_of}
use Rattle.fsa_types.specs.Sorting.{in_order}
use Rattle.fsa_model.specs.Lookups.{is_named}
use Rattle.fsa_model.specs.Volume.{Link}
use Rattle.link_index.specs.Keyed.{is_key_before}
use Rattle.link_index.specs.Beginnings.{name_key}
use Rattle.link_index.specs.Heads.{link_head}
use Rattle.link_index.specs.Directory.{DirectoryView}

-- the links of a directory
abbrev pub links_in : ℕ → List (ℕ × Link) → List (ℕ × Link)
links_in dir rows = filter (λ entry. entry.1.parent == dir) rows

-- .. in the order of their names
abbrev pub links_by_name : List (ℕ × ℕ) → ℕ → List (ℕ × Link) → List (ℕ × Link)
links_by_name table dir rows = in_order (is_key_before (name_key table)) (links_in dir rows)

-- names of one directory differ
abbrev pub NamesDiffer : List (ℕ × ℕ) → List (ℕ × Link) → Type 0
NamesDiffer table rows = AllPairs (λ a b. is_named table b.1.parent b.1.name a.1 ≡ false) rows

-- the index of a directory; an empty one where it has none
abbrev pub index_of : List (ℕ × DirectoryView) → ℕ → DirectoryView
index_of dirs dir = option_map_or (λ (index : DirectoryView). index) (row_of dirs dir) (record { numbers = []; heads = []; room = 0 })

-- the index in a slot of a slab; an empty one where it is free
abbrev pub index_at : Slab DirectoryView → ℕ → DirectoryView
index_at slab slot = option_map_or (λ (index : DirectoryView). index) (get slab slot) (record { numbers = []; heads = []; room = 0 })

-- an index has exactly the links of a directory, in the order of their names, and the heads of these
pub record HasLinksOf (table : List (ℕ × ℕ)) (rows : List (ℕ × Link)) (dir : ℕ) (index : DirectoryView) : Type 0 where
  pub numbers : index.numbers ≡ map (λ entry. entry.0) (links_by_name table dir rows)
  pub heads : index.heads ≡ map (link_head table) (links_by_name table dir rows)

-- each directory's index has its links, and the names of one directory differ
pub record AreByDirectory (table : List (ℕ × ℕ)) (rows : List (ℕ × Link)) (dirs : List (ℕ × DirectoryView)) : Type 0 where
  pub each : (dir : ℕ) → HasLinksOf table rows dir (index_of dirs dir)
  pub differ : NamesDiffer table rows
