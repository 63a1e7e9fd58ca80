-- The keys of the tables of oplocks, their homes: those of streams are even. The odd ones, 2 times a directory's file
-- number and 1, are kept for directories.
use Rattle.std.specs.Prelude.{ℕ, ◌*◌, ◌/◌, ◌%◌, ◌^◌, ◌<◌, ◌==◌, Bool, false, List, Option, filter, map, option_map}
use Rattle.std.specs.Option.{option_map_or, ForSome}
use Rattle.fsa_types.specs.Oplocks.{Oplock}
use Rattle.fsa_model.specs.Volume.{Handle}
use Rattle.volume_tables.specs.HandleTable.{stream_of_handle}

-- the home of the oplocks on a stream
abbrev pub home_of_stream : ℕ → ℕ
home_of_stream stream = 2 * stream

-- the home of a handle's oplock, where the handle is open on a stream
abbrev pub home_of_handle : List (ℕ × Handle) → ℕ → Option ℕ
home_of_handle handles handle = option_map home_of_stream (stream_of_handle handles handle)

-- the homes of all handles are numbers of 64 bits
abbrev pub HomesFit : List (ℕ × Handle) → Type 0
HomesFit handles = (handle : ℕ) → ForSome (home_of_handle handles handle) (λ home. home < 2 ^ 64)

-- the oplock is of a handle with this home
abbrev pub is_home_to : List (ℕ × Handle) → ℕ → Oplock → Bool
is_home_to handles home oplock = option_map_or (λ own. own == home) (home_of_handle handles oplock.handle) false

-- room that was promised to streams, under their numbers, of what was promised to homes
abbrev pub rooms_of_streams : List (ℕ × ℕ) → List (ℕ × ℕ)
rooms_of_streams rooms = map (λ room. (room.0 / 2, room.1)) (filter (λ room. room.0 % 2 == 0) rooms)
