-- What a new name asks of the volume, and the room that it takes first.
use Rattle.std.specs.Prelude.{◌≡◌, ℕ, false, ◌+◌, ◌*◌, ◌-◌, ◌^◌, ◌<◌, ◌≤◌, ◌==◌, ◌&&◌, List, [], Option, Some, None, length, IsTrue, IfSome}
use Rattle.std.specs.Option.{option_map_or}
use Rattle.fsa_types.specs.BoundedList.{Bounded}
use Rattle.fsa_types.specs.Rows.{row_of}
use Rattle.fsa_types.specs.declared.oplock.HandleSet.TheVariants as set
use Rattle.fsa_types.specs.declared.reply.Blocker.{Blocker}
use Rattle.fsa_types.specs.declared.reply.Interim.TheVariants.{Held}
use Rattle.fsa_types.specs.declared.status.Status.{Status}
use Rattle.fsa_model.specs.Changes.{units_noted, dirs_noted}
use Rattle.fsa_model.specs.Lookups.{child_of, has_row, is_at_or_below, is_directory, is_named, is_one_of, linked_file, number_of}
use Rattle.fsa_model.specs.Outcome.{Outcome, Hold, ends_with}
use Rattle.fsa_model.specs.Rename.{replaced_link}
use Rattle.fsa_model.specs.Replacement.{Naming, new_name}
use Rattle.fsa_model.specs.Volume.{File, Link, Handle, Volume}
use Rattle.volume_state.specs.Living.{CanHold}
use Rattle.volume_state.specs.Paths.{units_noted_in, dirs_in}
use Rattle.volume_state.specs.VolumeView.{Spare, room_for}

-- numbers are left for a link and for breaks
pub record MayName (v : Volume) : Type 0 where
  pub links : v.last_link < 2 ^ 32 - 4
  pub breaks : v.last_break < 2 ^ 62

-- a link can be made or moved to in this directory, whose name has so many units, and noted
pub record HasNameRoom (v : Volume) (spare : Spare) (dir count : ℕ) : Type 0 where
  pub links : 1 ≤ room_for spare.links dir
  pub changes : 1 ≤ spare.changes
  pub units : units_noted_in v dir count ≤ spare.units
  pub dirs : dirs_in v dir ≤ spare.dirs

-- so it can, and another link can be noted before
pub record HasReplaceRoom (v : Volume) (spare : Spare) (replaced dir count : ℕ) : Type 0 where
  pub links : 1 ≤ room_for spare.links dir
  pub changes : 2 ≤ spare.changes
  pub units : units_noted v replaced None + units_noted_in v dir count ≤ spare.units
  pub dirs : dirs_noted v replaced None + dirs_in v dir ≤ spare.dirs

-- the link has this name in this directory, and isn't a directory's
pub record IsReplaceable (v : Volume) (replaced dir : ℕ) (name : List ℕ) : Type 0 where
  pub named : child_of v dir name ≡ Some replaced
  pub no_directory : is_directory v.files (linked_file v replaced) ≡ false

-- the same for a link that moves and is noted before and after, and for the one that is replaced, where there is one
pub record HasRenameRoom (v : Volume) (spare : Spare) (replaced : Option ℕ) (link dir count : ℕ) : Type 0 where
  pub links : 1 ≤ room_for spare.links dir
  pub changes : 3 ≤ spare.changes
  pub units : option_map_or (λ r. units_noted v r None) replaced 0 + (units_noted v link None + units_noted_in v dir count) ≤ spare.units
  pub dirs : option_map_or (λ r. dirs_noted v r None) replaced 0 + (dirs_noted v link None + dirs_in v dir) ≤ spare.dirs

-- there is room for so many breaks, one after another, and for the call to be held by one of them; each tells at
-- most one call for each oplock, and begins at most one break for each
pub record HasBreaksRoom (v : Volume) (spare : Spare) (list : Bounded Blocker) (breaks : ℕ) : Type 0 where
  pub ends : breaks * length v.oplocks ≤ spare.ends
  pub empty : list.items ≡ []
  pub pending : 1 ≤ spare.pending
  pub blockers : length v.oplocks ≤ spare.blockers
  pub listed : length v.oplocks ≤ list.room
  pub few : length v.oplocks < 2 ^ 32
  pub numbers : v.last_break + breaks * 2 ^ 32 < 2 ^ 63

-- the link that is replaced: the one of the new name, of a file, another than the one that moves, which is of a
-- file too; it has no handle
pub record Replaces (table : List (ℕ × ℕ)) (files : List (ℕ × File)) (links : List (ℕ × Link)) (handles : List (ℕ × Handle)) (link dir : ℕ) (name : List ℕ) (replaced : ℕ) : Type 0 where
  pub named : number_of (is_named table dir name) links ≡ Some replaced
  pub other : (replaced == link) ≡ false
  pub no_directory : is_directory files (option_map_or (λ row. row.file) (row_of links replaced) 0) ≡ false
  pub moves_file : is_directory files (option_map_or (λ row. row.file) (row_of links link) 0) ≡ false
  pub closed : has_row (is_one_of links (set.Link replaced)) handles ≡ false

-- the name is free in the directory, but for the link itself and the one that is replaced
abbrev pub Frees : List (ℕ × ℕ) → List (ℕ × File) → List (ℕ × Link) → List (ℕ × Handle) → ℕ → ℕ → List ℕ → Option ℕ → Type 0
Frees table files links handles link dir name None = IfSome (number_of (is_named table dir name) links) (λ other. IsTrue (other == link))
Frees table files links handles link dir name (Some replaced) = Replaces table files links handles link dir name replaced

-- a file doesn't go into itself, nor below itself
abbrev pub StaysOut : List (ℕ × File) → List (ℕ × Link) → ℕ → ℕ → Type 0
StaysOut files links file dir = (is_directory files file && is_at_or_below links file dir) ≡ false

-- the link can go to this name in this directory, where its client may: there is room for so many breaks, for the change
-- and for the link
pub record CanRename (v : Volume) (spare : Spare) (list : Bounded Blocker) (count : ℕ) (named : Naming) (dir : ℕ) (units : List ℕ) : Type 0 where
  pub breaks : HasBreaksRoom v spare list count
  pub room : HasRenameRoom v spare (replaced_link v named dir) named.link dir (length (new_name named))
  pub holds : CanHold v dir
  pub file : named.file ≡ linked_file v named.link
  pub name : units ≡ new_name named
  pub client : named.client < length v.clients

-- the link of a file can go to this name in this directory, where it replaces another link of a file
pub record CanReplace (v : Volume) (spare : Spare) (list : Bounded Blocker) (count : ℕ) (named : Naming) (dir replaced : ℕ) (units : List ℕ) : Type 0 where
  pub breaks : HasBreaksRoom v spare list count
  pub room : HasRenameRoom v spare (Some replaced) named.link dir (length (new_name named))
  pub holds : CanHold v dir
  pub out : StaysOut v.files v.links named.file dir
  pub file : named.file ≡ linked_file v named.link
  pub name : units ≡ new_name named
  pub link : IsReplaceable v replaced dir (new_name named)
  pub other : (replaced == named.link) ≡ false
  pub moves_file : is_directory v.files named.file ≡ false

-- a try ends with this status, or is held by these, and leaves the volume so
abbrev pub EndsOrHolds : Outcome → Volume → List Blocker → Option Status → Type 0
EndsOrHolds outcome new blockers (Some status) = outcome ≡ ends_with new status
EndsOrHolds outcome new blockers None = outcome ≡ Hold new blockers Held

-- where it is held there is room to make it pending with what it waits for
abbrev pub HasRoomIfHeld : Option Status → Spare → List Blocker → Type 0
HasRoomIfHeld (Some status) spare blockers = Unit {0}
HasRoomIfHeld None spare blockers = (1 ≤ spare.pending) × (length blockers ≤ spare.blockers)
