-- The room that closes take.
use Rattle.std.specs.Prelude.{◌≡◌, ℕ, ◌≤◌, ◌+◌, ◌*◌, ◌==◌, ◌&&◌, false, List, [], ◌∷◌, Option, None, Some, filter, length, nat_lt, IsTrue}
use Rattle.std.specs.Option.{option_map_or}
use Rattle.fsa_types.specs.Sorting.{in_order}
use Rattle.fsa_model.specs.Changes.{units_noted, dirs_noted}
use Rattle.fsa_model.specs.Lookups.{has_row, is_after}
use Rattle.fsa_model.specs.Volume.{Handle, Volume}
use Rattle.op_delete.specs.declared.leave.Sum.{Sum}
use Rattle.volume_state.specs.VolumeView.{Spare}

-- the units and the directories of a note that the handle's stream is removed, where it has one
abbrev pub stream_units : Volume → Handle → ℕ
stream_units v handle = option_map_or (λ stream. units_noted v handle.link (Some stream)) handle.stream 0

abbrev pub stream_dirs : Volume → Handle → ℕ
stream_dirs v handle = option_map_or (λ stream. dirs_noted v handle.link (Some stream)) handle.stream 0

-- and with them those of a note that its link is removed
abbrev pub close_units : Volume → Handle → ℕ
close_units v handle = stream_units v handle + units_noted v handle.link None

abbrev pub close_dirs : Volume → Handle → ℕ
close_dirs v handle = stream_dirs v handle + dirs_noted v handle.link None

-- there is room for the two notes
pub record HasSweepRoom (v : Volume) (spare : Spare) (handle : Handle) : Type 0 where
  pub changes : 2 ≤ spare.changes
  pub units : close_units v handle ≤ spare.units
  pub dirs : close_dirs v handle ≤ spare.dirs

-- no more room has gone than that
pub record KeepsRoom (v : Volume) (handle : Handle) (old new : Spare) : Type 0 where
  pub changes : old.changes ≤ new.changes + 2
  pub units : old.units ≤ new.units + close_units v handle
  pub dirs : old.dirs ≤ new.dirs + close_dirs v handle

-- a note takes no more room than it took
pub record NotesTakeNoMore (old new : Volume) : Type 0 where
  pub units : (link : ℕ) (stream : Option ℕ) → units_noted new link stream ≤ units_noted old link stream
  pub dirs : (link : ℕ) (stream : Option ℕ) → dirs_noted new link stream ≤ dirs_noted old link stream

-- the same for closes of these handles, as things stand
abbrev pub all_units : Volume → List (ℕ × Handle) → ℕ
all_units v [] = 0
all_units v (entry ∷ entries) = close_units v entry.1 + all_units v entries

abbrev pub all_dirs : Volume → List (ℕ × Handle) → ℕ
all_dirs v [] = 0
all_dirs v (entry ∷ entries) = close_dirs v entry.1 + all_dirs v entries

-- there is room for the notes of these closes
pub record HasRoomForAll (v : Volume) (spare : Spare) (entries : List (ℕ × Handle)) : Type 0 where
  pub changes : 2 * length entries ≤ spare.changes
  pub units : all_units v entries ≤ spare.units
  pub dirs : all_dirs v entries ≤ spare.dirs

-- the client's handles whose numbers are above this one, by rising number
abbrev pub later_handles : Volume → ℕ → ℕ → List (ℕ × Handle)
later_handles v client after = in_order (λ a b. nat_lt a.1.number b.1.number) (filter (λ entry. is_after client after entry.1) v.handles)

-- the handle is the client's, and none of the client's has a lesser number
pub record IsFirst (v : Volume) (client : ℕ) (row : Handle) : Type 0 where
  pub of_client : IsTrue (row.client == client)
  pub least : has_row (λ other. other.client == client && nat_lt other.number row.number) v.handles ≡ false

-- this sum counts one close more, of the handle of this number
pub record CountsOne (v : Volume) (old new : Sum) (row : Handle) : Type 0 where
  pub after : new.after ≡ row.number
  pub changes : new.changes ≡ old.changes + 2
  pub units : new.units ≡ old.units + close_units v row
  pub dirs : new.dirs ≡ old.dirs + close_dirs v row
