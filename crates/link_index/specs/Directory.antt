-- A directory's links in the order of their names.
use Rattle.std.specs.Prelude.{◌≡◌, ℕ, ◌≤◌, ◌+◌, not, true, false, Bool, List, [], Option, filter, length, map}
use Rattle.std.specs.List.{AllWithin}
use Rattle.std.specs.Option.{option_map_or}
use Rattle.fsa_types.specs.CaseTable.{same_name}
use Rattle.fsa_types.specs.Rows.{row_of}
use Rattle.fsa_types.specs.Sorting.{put_in_order}
use Rattle.fsa_model.specs.Volume.{Link}
use Rattle.link_index.specs.Keyed.{AreInKeyOrder, is_key_before}
use Rattle.volume_rows.specs.Children.{is_name_after}
use Rattle.link_index.specs.Beginnings.{name_key}
use Rattle.link_index.specs.Heads.{link_head}

-- the numbers of the links, the heads of their names, and how many more can be put in without taking memory
pub record DirectoryView : Type 0 where
  pub numbers : List ℕ
  pub heads : List ℕ
  pub room : ℕ

-- the link of a number; where there is none, a nameless one in no directory
abbrev pub link_numbered : List (ℕ × Link) → ℕ → ℕ × Link
link_numbered rows id = (id, option_map_or (λ row. row) (row_of rows id) (record { parent = 0; name = []; file = 0; deleted = false }))

-- the links of numbers, in their order
abbrev pub links_at : List (ℕ × Link) → List ℕ → List (ℕ × Link)
links_at rows numbers = map (link_numbered rows) numbers

-- the links are in the order of their names, which differ, and the heads are those of these names; a number that the
-- table doesn't have counts as a nameless link
pub record AreInNameOrder (table : List (ℕ × ℕ)) (rows : List (ℕ × Link)) (dir : DirectoryView) : Type 0 where
  pub ordered : AreInKeyOrder (name_key table) (links_at rows dir.numbers)
  pub heads : dir.heads ≡ map (link_head table) (links_at rows dir.numbers)

-- a directory has what it had, and no less room
pub record KeepsNames (old new : DirectoryView) : Type 0 where
  pub numbers : new.numbers ≡ old.numbers
  pub heads : new.heads ≡ old.heads
  pub room : old.room ≤ new.room

-- the links behind a name begin at this place; without a name all are behind
pub record IsBegin (table : List (ℕ × ℕ)) (links : List (ℕ × Link)) (after : Option (List ℕ)) (place : ℕ) : Type 0 where
  pub before : AllWithin (λ entry. is_name_after table after entry.1.name ≡ false) links 0 place
  pub behind : AllWithin (λ entry. is_name_after table after entry.1.name ≡ true) links place (length links)

-- the number of a link was put in the place of this name, whatever the table has under it so far and whatever else the
-- link is, and took at most one room
pub record IsNamePut (table : List (ℕ × ℕ)) (rows : List (ℕ × Link)) (id : ℕ) (name : List ℕ) (old new : DirectoryView) : Type 0 where
  pub numbers : (parent file : ℕ) (deleted : Bool) → new.numbers ≡ map (λ entry. entry.0) (put_in_order (is_key_before (name_key table)) (id, record { parent = parent; name = name; file = file; deleted = deleted }) (links_at rows old.numbers))
  pub heads : (parent file : ℕ) (deleted : Bool) → new.heads ≡ map (link_head table) (put_in_order (is_key_before (name_key table)) (id, record { parent = parent; name = name; file = file; deleted = deleted }) (links_at rows old.numbers))
  pub left : old.room ≤ new.room + 1

-- the link of this name, if there is one, was taken out, and the room is no less
pub record IsNameTaken (table : List (ℕ × ℕ)) (rows : List (ℕ × Link)) (name : List ℕ) (old new : DirectoryView) : Type 0 where
  pub numbers : new.numbers ≡ map (λ entry. entry.0) (filter (λ entry. not (same_name table entry.1.name name)) (links_at rows old.numbers))
  pub heads : new.heads ≡ map (link_head table) (filter (λ entry. not (same_name table entry.1.name name)) (links_at rows old.numbers))
  pub kept : old.room ≤ new.room
