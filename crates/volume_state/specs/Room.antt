-- Room that was asked for, and room that stays.
use Rattle.std.specs.Prelude.{◌≡◌, ℕ, ◌+◌, ◌≤◌, Option, Some, length}
use Rattle.fsa_model.specs.Volume.{Volume}
use Rattle.volume_rows.specs.declared.rows.Need.{Need}
use Rattle.volume_state.specs.VolumeView.{VolumeView, Spare, room_for, CanWrite}
use Rattle.volume_tables.specs.HandleTable as table

-- the stream of a handle, where it has one
abbrev pub stream_of_handle : Volume → ℕ → Option ℕ
stream_of_handle v handle = table.stream_of_handle v.handles handle

-- there is all the room that is needed
pub record HasRoom (v : Volume) (spare : Spare) (need : Need) : Type 0 where
  pub files : need.files ≤ spare.files
  pub links : need.links ≤ room_for spare.links need.parent
  pub streams : need.streams ≤ spare.streams
  pub handles : need.handles ≤ spare.handles
  pub owners : need.owners ≤ spare.owners
  pub locks : (stream : ℕ) → stream_of_handle v need.handle ≡ Some stream → need.locks ≤ room_for spare.locks stream
  pub oplocks : (stream : ℕ) → stream_of_handle v need.handle ≡ Some stream → need.oplocks ≤ room_for spare.oplocks stream
  pub watches : need.watches ≤ spare.watches
  pub limits : need.limits ≤ spare.limits
  pub pending : need.pending ≤ spare.pending
  pub blockers : need.blockers ≤ spare.blockers
  pub changes : need.changes ≤ spare.changes
  pub ends : need.ends ≤ spare.ends
  pub units : need.units ≤ spare.units
  pub dirs : need.dirs ≤ spare.dirs

-- no room is less than it was
pub record IsNoLess (old new : Spare) : Type 0 where
  pub files : old.files ≤ new.files
  pub links : (dir : ℕ) → room_for old.links dir ≤ room_for new.links dir
  pub streams : old.streams ≤ new.streams
  pub handles : old.handles ≤ new.handles
  pub owners : old.owners ≤ new.owners
  pub locks : (stream : ℕ) → room_for old.locks stream ≤ room_for new.locks stream
  pub oplocks : (stream : ℕ) → room_for old.oplocks stream ≤ room_for new.oplocks stream
  pub watches : old.watches ≤ new.watches
  pub limits : old.limits ≤ new.limits
  pub pending : old.pending ≤ new.pending
  pub blockers : old.blockers ≤ new.blockers
  pub changes : old.changes ≤ new.changes
  pub ends : old.ends ≤ new.ends
  pub units : old.units ≤ new.units
  pub dirs : old.dirs ≤ new.dirs
  pub bytes : (stream at count : ℕ) → CanWrite old stream at count → CanWrite new stream at count

-- no room for ends or pending calls is used but what calls that ended took
abbrev pub KeepsEnds : VolumeView → VolumeView → Type 0
KeepsEnds old new = (old.spare.ends + length old.content.ended ≤ new.spare.ends + length new.content.ended) × (old.spare.pending ≤ new.spare.pending)
