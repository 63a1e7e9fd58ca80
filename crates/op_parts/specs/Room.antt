-- The room that a verb takes before its first change: for the breaks that it may wait for, and for a note.
use Rattle.std.specs.Prelude.{◌≡◌, ℕ, ◌<◌, ◌≤◌, ◌^◌, Bool, [], Option, Some, None, length, if◌then◌else◌}
use Rattle.fsa_types.specs.BoundedList.{Bounded}
use Rattle.fsa_types.specs.declared.oplock.Class.{Class}
use Rattle.fsa_types.specs.declared.oplock.HandleSet.{HandleSet}
use Rattle.fsa_types.specs.declared.reply.Blocker.{Blocker}
use Rattle.fsa_model.specs.Breaks.{awaited, told}
use Rattle.fsa_model.specs.Changes.{units_noted, dirs_noted}
use Rattle.fsa_model.specs.Volume.{Volume}
use Rattle.volume_state.specs.VolumeView.{Spare}

-- there is room for the ends of the calls that a break may tell, and for the call to be pending with the
-- breaks that it may wait for, in the list of blockers too; each oplock tells one call at most
pub record HasWaitRoom (v : Volume) (spare : Spare) (list : Bounded Blocker) : Type 0 where
  pub few_told : (on : HandleSet) (class : Class) (handle : Option ℕ) (key : ℕ) → length (told v on class handle key) ≤ length v.oplocks
  pub told : (on : HandleSet) (class : Class) (handle : Option ℕ) (key : ℕ) → length (told v on class handle key) ≤ spare.ends
  pub empty : list.items ≡ []
  pub pending : 1 ≤ spare.pending
  pub blockers : (on : HandleSet) (class : Class) (handle : Option ℕ) (key : ℕ) → length (awaited v on class handle key) ≤ spare.blockers
  pub awaited : (on : HandleSet) (class : Class) (handle : Option ℕ) (key : ℕ) → length (awaited v on class handle key) ≤ list.room
  pub few : length v.oplocks < 2 ^ 32

-- the stream of which a change of bytes is noted: of the default stream the file is noted
abbrev pub noted_stream : ℕ → Bool → Option ℕ
noted_stream stream named = if named then Some stream else None

-- there is room for a note of the link, of this stream of its file or else of the file
pub record HasNoteRoom (v : Volume) (spare : Spare) (link : ℕ) (stream : Option ℕ) : Type 0 where
  pub changes : 1 ≤ spare.changes
  pub units : units_noted v link stream ≤ spare.units
  pub dirs : dirs_noted v link stream ≤ spare.dirs
