-- Byte-range locks and what conflicts with them, after [MS-FSA] 'Algorithm for Determining if a Range
-- Access Conflicts with Byte-Range Locks'. A range is its place and its count of bytes; numbers are
-- whole, so that a range may end past the largest place.
use Rattle.std.specs.Prelude.{ℕ, ◌+◌, ◌==◌, nat_lt, Bool, not, ◌&&◌, ◌||◌, List, [], ◌∷◌, if◌then◌else◌}

-- a lock ('Per ByteRangeLock'): the handle that holds it, its range, and exclusive or else shared
pub record Lock : Type 0 where
  pub handle : ℕ
  pub at : ℕ
  pub count : ℕ
  pub exclusive : Bool

-- each of two ranges begins before the other ends; so an empty range overlaps with one that has
-- bytes on both sides of it
abbrev pub overlap : ℕ → ℕ → ℕ → ℕ → Bool
overlap at count other_at other_count = nat_lt at (other_at + other_count) && nat_lt other_at (at + count)

-- a lock overlaps with this range
abbrev pub meets : ℕ → ℕ → Lock → Bool
meets at count lock = overlap at count lock.at lock.count

-- a lock is exclusive and another handle's
abbrev pub shuts_out : ℕ → Lock → Bool
shuts_out handle lock = lock.exclusive && not (lock.handle == handle)

-- an exclusive lock conflicts with every overlapping lock
abbrev pub exclusive_conflicts : ℕ → ℕ → ℕ → Lock → Bool
exclusive_conflicts handle at count lock = meets at count lock

-- a shared lock conflicts with an overlapping exclusive lock of another handle
abbrev pub shared_conflicts : ℕ → ℕ → ℕ → Lock → Bool
shared_conflicts handle at count lock = meets at count lock && shuts_out handle lock

-- so does a read
abbrev pub read_conflicts : ℕ → ℕ → ℕ → Lock → Bool
read_conflicts handle at count lock = meets at count lock && shuts_out handle lock

-- a write conflicts with an overlapping exclusive lock of another handle, and with every overlapping
-- shared lock, also one of its own handle
abbrev pub write_conflicts : ℕ → ℕ → ℕ → Lock → Bool
write_conflicts handle at count lock = meets at count lock && (shuts_out handle lock || not lock.exclusive)

-- a lock is this handle's and has exactly this range
abbrev pub is_exactly : ℕ → ℕ → ℕ → Lock → Bool
is_exactly handle at count lock = lock.handle == handle && lock.at == at && lock.count == count

-- a list without the first item that passes the test
abbrev pub without_first : {A : Type 0} → (A → Bool) → List A → List A
without_first passes [] = []
without_first passes (item ∷ items) = if passes item then items else item ∷ without_first passes items
