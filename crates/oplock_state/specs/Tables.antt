-- The oplocks of a volume: one list of all, and for each stream or directory a table of its own, under a key, its
-- home.
use Rattle.std.specs.Prelude.{◌≡◌, ℕ, Bool, true, false, List, [], ◌∷◌, ◌+◌, ◌≤◌, ◌<◌, ◌==◌, filter, All, AllPairs, IsSome, if◌then◌else◌}
use Rattle.std.specs.Option.{option_map_or}
use Rattle.fsa_types.specs.OplockGrants.{after_grant, is_refused_among, switched_among}
use Rattle.fsa_types.specs.OplockLists.{without_oplock_of}
use Rattle.fsa_types.specs.Oplocks.{Oplock}
use Rattle.fsa_types.specs.Rows.{row_of}
use Rattle.fsa_model.specs.Lookups.{is_open_on}
use Rattle.fsa_model.specs.Volume.{Handle}
use Rattle.fsa_model.specs.Waiting.{is_granted_under}
use Rattle.oplock_state.specs.Homes.{home_of_handle, is_home_to}
use Rattle.oplock_state.specs.State.{State}
use Rattle.oplock_state.specs.declared.stream_oplocks.Grant.{Grant}
use Rattle.oplock_state.specs.declared.stream_oplocks.Grant.TheVariants as grant
use Rattle.oplock_state.specs.declared.stream_tables.AskedOplock.{AskedOplock}
use Rattle.volume_breaks.specs.declared.telling.Told.{Told}
use Rattle.volume_tables.specs.Rooms.{room_in}

-- ---- the tables

-- the oplocks in the table of this key, in order; none where it has no table
abbrev pub rows_at : List (ℕ × State) → ℕ → List Oplock
rows_at tables key = option_map_or (λ table. table.rows) (row_of tables key) []

-- how many more it takes without taking memory
abbrev pub room_at : List (ℕ × State) → ℕ → ℕ
room_at tables key = option_map_or (λ table. table.room) (row_of tables key) 0

-- the number of the last break that began in it
abbrev pub last_at : List (ℕ × State) → ℕ → ℕ
last_at tables key = option_map_or (λ table. table.last) (row_of tables key) 0

-- the table of this key has these oplocks, this last number and at most so much room less; all others are as they
-- were
pub record IsStep (old new : List (ℕ × State)) (key : ℕ) (rows : List Oplock) (last taken : ℕ) : Type 0 where
  pub here : rows_at new key ≡ rows
  pub number : last_at new key ≡ last
  pub room : room_at old key ≤ room_at new key + taken
  pub other_rows : (other : ℕ) → (other == key) ≡ false → rows_at new other ≡ rows_at old other
  pub other_lasts : (other : ℕ) → (other == key) ≡ false → last_at new other ≡ last_at old other
  pub other_rooms : (other : ℕ) → (other == key) ≡ false → room_at new other ≡ room_at old other

-- the keys rise, and no handle is marked in any of them
pub record AreTables (tables : List (ℕ × State)) : Type 0 where
  pub rising : AllPairs (λ a b. a.0 < b.0) tables
  pub quiet : All (λ entry. entry.1.marked ≡ []) tables

-- of the oplocks that are on a stream by this test, one was granted exactly where it isn't refused, and else nothing
-- has changed
abbrev pub GrantsAmong : (Oplock → Bool) → AskedOplock → List Oplock → List Oplock → Grant → Type 0
GrantsAmong on asked old new grant.Granted =
    (is_refused_among on asked.handle asked.key asked.level asked.others asked.locked old ≡ false)
    × (new ≡ after_grant on asked.handle asked.key asked.level asked.turn old)
GrantsAmong on asked old new grant.Refused =
    (is_refused_among on asked.handle asked.key asked.level asked.others asked.locked old ≡ true) × (new ≡ old)

-- how much room that took
abbrev pub taken_by : Grant → ℕ
taken_by grant.Granted = 1
taken_by grant.Refused = 0

-- ---- the list beside them

-- all oplocks, in the order in which they were granted; those that the last break or grant chose, whom the last
-- break told and for which breaks it waits; the number of the last break that began; how many more oplocks can be
-- granted on each stream without taking memory, none where it isn't told; and the tables
pub record Tabled : Type 0 where
  pub rows : List Oplock
  pub chosen : List Oplock
  pub told : List Told
  pub waited : List ℕ
  pub last : ℕ
  pub rooms : List (ℕ × ℕ)
  pub tables : List (ℕ × State)

-- each table has the room that was promised to its home, and no number of a break that wasn't given
pub record FitTables (rooms : List (ℕ × ℕ)) (last : ℕ) (tables : List (ℕ × State)) : Type 0 where
  pub room : (key : ℕ) → room_in rooms key ≤ room_at tables key
  pub numbers : (key : ℕ) → last_at tables key ≤ last

-- whatever was promised: where the tables had it, they have it
abbrev pub KeepFit : List (ℕ × State) → List (ℕ × State) → Type 0
KeepFit old new = (rooms : List (ℕ × ℕ)) (last : ℕ) → FitTables rooms last old → FitTables rooms last new

-- what is left once this oplock is given up, where it is granted to the call that is pending under this turn
abbrev pub given_up : ℕ → List Oplock → Oplock → List Oplock
given_up turn rows oplock = if is_granted_under turn oplock then without_oplock_of oplock.handle rows else rows

-- the oplock is of a handle on this stream
abbrev pub is_oplock_of_stream : List (ℕ × Handle) → ℕ → Oplock → Bool
is_oplock_of_stream handles stream oplock = option_map_or (is_open_on stream) (row_of handles oplock.handle) false

-- the table of each home has the oplocks of the handles with this home, in the order of the list, and each oplock is
-- of a handle with a home
pub record AreSorted (handles : List (ℕ × Handle)) (rows : List Oplock) (tables : List (ℕ × State)) : Type 0 where
  pub each : (home : ℕ) → rows_at tables home ≡ filter (is_home_to handles home) rows
  pub homes : All (λ oplock. IsSome (home_of_handle handles oplock.handle)) rows

-- those that are to be broken are there, each once and as it is, and are of different handles
pub record AreThere (rows chosen : List Oplock) : Type 0 where
  pub each : All (λ oplock. filter (λ other. other.handle == oplock.handle) rows ≡ oplock ∷ []) chosen
  pub differ : AllPairs (λ a b. (a.handle == b.handle) ≡ false) chosen

-- whatever the handles are: where the tables were sorted, they are so
abbrev pub KeepSorted : Tabled → Tabled → Type 0
KeepSorted old new = (handles : List (ℕ × Handle)) → AreSorted handles old.rows old.tables → AreSorted handles new.rows new.tables

-- of the oplocks that are on a stream by this test, one was granted exactly where it isn't refused, and those of its
-- key were chosen; and else none has changed
abbrev pub GrantsTabled : (Oplock → Bool) → AskedOplock → Tabled → Tabled → Grant → Type 0
GrantsTabled on asked old new grant.Granted =
    (is_refused_among on asked.handle asked.key asked.level asked.others asked.locked old.rows ≡ false)
    × (new.rows ≡ after_grant on asked.handle asked.key asked.level asked.turn old.rows)
    × (new.chosen ≡ switched_among on asked.handle asked.key old.rows)
GrantsTabled on asked old new grant.Refused =
    (is_refused_among on asked.handle asked.key asked.level asked.others asked.locked old.rows ≡ true)
    × (new ≡ record old { tables = new.tables })
