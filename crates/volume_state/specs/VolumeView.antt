-- What contracts see of a volume: its content, what stands beside the content, and the spare room.
use Rattle.std.specs.Prelude.{ℕ, List, ◌≤◌}
use Rattle.std.specs.Option.{option_map_or, ForSome}
use Rattle.fsa_types.specs.Rows.{row_of}
use Rattle.fsa_model.specs.Volume.{Volume}
use Rattle.stream_pages.specs.Streams.{IsReserved, StreamRoom}

-- the number of all changes that stand before the first one that is kept, and the breaks that the
-- last `begin` waits for
pub record Beside : Type 0 where
  pub base : ℕ
  pub waited : List ℕ

-- room of its own for some, and for all others the same
pub record Rooms : Type 0 where
  pub own : List (ℕ × ℕ)
  pub others : ℕ

-- the room for this one
abbrev pub room_for : Rooms → ℕ → ℕ
room_for rooms id = option_map_or (λ room. room) (row_of rooms.own id) rooms.others

-- the spare room: how many more of each kind can be put in without taking memory, the links for each
-- parent, the locks and oplocks for each stream; and which places of each stream can be written so
pub record Spare : Type 0 where
  pub files : ℕ
  pub links : Rooms
  pub streams : ℕ
  pub handles : ℕ
  pub owners : ℕ
  pub locks : Rooms
  pub oplocks : Rooms
  pub watches : ℕ
  pub limits : ℕ
  pub pending : ℕ
  pub blockers : ℕ
  pub changes : ℕ
  pub ends : ℕ
  pub units : ℕ
  pub dirs : ℕ
  pub bytes : List (ℕ × StreamRoom)

-- bytes can be written from `at` on, so many, without taking memory
abbrev pub CanWrite : Spare → ℕ → ℕ → ℕ → Type 0
CanWrite spare stream at count =
    ForSome (row_of spare.bytes stream) (λ room. IsReserved room at count)

-- the stream can be made so long without taking memory
abbrev pub CanReach : Spare → ℕ → ℕ → Type 0
CanReach spare stream length = ForSome (row_of spare.bytes stream) (λ room. length ≤ room.to)

pub record VolumeView : Type 0 where
  pub content : Volume
  pub beside : Beside
  pub spare : Spare
