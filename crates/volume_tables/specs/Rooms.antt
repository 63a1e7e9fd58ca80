-- Room for more items that was promised apart: to each directory or stream its own.
use Rattle.std.specs.Prelude.{All, AllPairs, ◌≡◌, ◌<◌, ◌≤◌, ℕ, List, [], ◌∷◌, ◌+◌, ◌==◌, false}
use Rattle.std.specs.Option.{option_map_or}
use Rattle.fsa_types.specs.Rows.{row_of}

-- the room that was promised to this one, none where it isn't told
abbrev pub room_in : List (ℕ × ℕ) → ℕ → ℕ
room_in rooms id = option_map_or (λ room. room) (row_of rooms id) 0

-- all rooms together
abbrev pub all_rooms : List (ℕ × ℕ) → ℕ
all_rooms [] = 0
all_rooms (entry ∷ rooms) = entry.1 + all_rooms rooms

-- the numbers rise, and each has room
pub record AreRooms (rooms : List (ℕ × ℕ)) : Type 0 where
  pub rising : AllPairs (λ a b. a.0 < b.0) rooms
  pub some : All (λ entry. 1 ≤ entry.1) rooms

-- one has this room, and the others theirs
pub record IsRoomSet (old new : List (ℕ × ℕ)) (id room : ℕ) : Type 0 where
  pub here : room_in new id ≡ room
  pub others : (other : ℕ) → (other == id) ≡ false → room_in new other ≡ room_in old other
  pub all : all_rooms new + room_in old id ≡ all_rooms old + room

-- one has room for one item less, and the others theirs
pub record IsOneTaken (old new : List (ℕ × ℕ)) (id : ℕ) : Type 0 where
  pub here : room_in new id + 1 ≡ room_in old id
  pub others : (other : ℕ) → (other == id) ≡ false → room_in new other ≡ room_in old other
  pub all : all_rooms new + 1 ≡ all_rooms old
