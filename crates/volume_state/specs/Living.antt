-- What a link, a stream or a handle is of, and which directories can hold links.
use Rattle.std.specs.Prelude.{◌≡◌, ℕ, Bool, false, ◌≤◌, ◌==◌, ◌&&◌, List, Some, None, IsTrue}
use Rattle.std.specs.List.{list_any}
use Rattle.fsa_types.specs.Rows.{lives, row_of}
use Rattle.fsa_model.specs.Lookups.{child_of, has_row, is_directory, linked_file}
use Rattle.fsa_model.specs.Sound.{LeadsUp}
use Rattle.fsa_model.specs.Volume.{Link, Volume}
use Rattle.volume_state.specs.Paths.{units_noted_in, dirs_in}

-- there is a link of this number, and it is one of this file
abbrev pub is_link_to : List (ℕ × Link) → ℕ → ℕ → Bool
is_link_to links link file = list_any (λ l. l.0 == link && l.1.file == file) links

-- a link can be put into this directory: links lead from it up to the root, and it isn't marked
pub record CanHold (v : Volume) (dir : ℕ) : Type 0 where
  pub directory : IsTrue (is_directory v.files dir)
  pub leads : LeadsUp v.links dir
  pub unmarked : has_row (λ link. link.file == dir && link.deleted) v.links ≡ false

-- a further link of this file can be made: it lives, and is no directory, nor the root
pub record CanBeLinked (v : Volume) (file : ℕ) : Type 0 where
  pub living : IsTrue (lives v.files file)
  pub no_directory : is_directory v.files file ≡ false
  pub not_root : (file == 1) ≡ false

-- what stays where a link is taken out
pub record StaysWithout (old new : Volume) (link : ℕ) : Type 0 where
  -- the other links, the other files, and what isn't a directory
  pub others : (other : ℕ) → (other == link) ≡ false → row_of new.links other ≡ row_of old.links other
  pub files : (file : ℕ) → IsTrue (lives old.files file) → (linked_file old link == file) ≡ false → IsTrue (lives new.files file)
  pub no_directory : (file : ℕ) → is_directory old.files file ≡ false → is_directory new.files file ≡ false
  -- the directory that the link was in can hold links as it could, and the name is free there
  pub holds : (dir : ℕ) (name : List ℕ) → child_of old dir name ≡ Some link → CanHold old dir → CanHold new dir
  pub free : (dir : ℕ) (name : List ℕ) → child_of old dir name ≡ Some link → child_of new dir name ≡ None
  -- a note of a link that is to be made in a directory takes no more than it took
  pub units : (dir units : ℕ) → IsTrue (is_directory old.files dir) → units_noted_in new dir units ≤ units_noted_in old dir units
  pub dirs : (dir : ℕ) → IsTrue (is_directory old.files dir) → dirs_in new dir ≤ dirs_in old dir
