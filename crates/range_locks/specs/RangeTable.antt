-- The byte-range locks of one stream in order, beside the room for more of them.
use Rattle.std.specs.Prelude.{ℕ, Bool, true, List, [], ◌∷◌, Option, None, Some, ◌≡◌, ◌<◌, ◌==◌, if◌then◌else◌, nat_lt, map, find, filter, option_map}
use Rattle.std.specs.List.{AllPairs}
use Rattle.fsa_types.specs.Ranges.{Lock, is_exactly, read_conflicts, write_conflicts, shared_conflicts, exclusive_conflicts}
use Rattle.fsa_types.specs.declared.reply.Blocker.{Blocker}
use Rattle.fsa_types.specs.declared.reply.Blocker.TheVariants.{Lock as LockOf}
use Rattle.range_locks.specs.declared.range.Range.{Range}
use Rattle.range_locks.specs.declared.range.Want.{Want}
use Rattle.range_locks.specs.declared.range.Want.TheVariants.{Read, Write, Shared, Exclusive}

-- the ranges in order of insertion, and how many more can be put in without taking memory
pub record Ranges : Type 0 where
  pub ranges : List Range
  pub room : ℕ

-- a range that is held, without its number
abbrev pub lock_of : Range → Lock
lock_of range = record { handle = range.handle; at = range.at; count = range.count; exclusive = range.exclusive }

-- a range that is held conflicts with what is wanted
abbrev pub conflicts : Want → ℕ → ℕ → ℕ → Range → Bool
conflicts Read handle at count range = read_conflicts handle at count (lock_of range)
conflicts Write handle at count range = write_conflicts handle at count (lock_of range)
conflicts Shared handle at count range = shared_conflicts handle at count (lock_of range)
conflicts Exclusive handle at count range = exclusive_conflicts handle at count (lock_of range)

-- what a call waits for that this range blocks
abbrev pub lock_blocker : Range → Blocker
lock_blocker range = LockOf range.id

-- a range is this handle's and exactly this one
abbrev pub is_range : ℕ → ℕ → ℕ → Range → Bool
is_range handle at count range = is_exactly handle at count (lock_of range)

-- a range is this handle's
abbrev pub is_range_of : ℕ → Range → Bool
is_range_of handle range = range.handle == handle

-- the number of the first range that passes the test
abbrev pub first_id : (Range → Bool) → List Range → Option ℕ
first_id passes ranges = option_map (λ range. range.id) (find passes ranges)

-- all ranges that pass the test, as what a call waits for
abbrev pub range_blockers : (Range → Bool) → List Range → List Blocker
range_blockers passes ranges = map lock_blocker (filter passes ranges)

-- a range begins at this place
abbrev pub begins_at : ℕ → Range → Bool
begins_at at range = range.at == at

-- both have the same ranges at each place, in the same order
abbrev pub AreSameByPlace : List Range → List Range → Type 0
AreSameByPlace one other = (at : ℕ) → filter (begins_at at) one ≡ filter (begins_at at) other

-- each number is less than those behind it
abbrev pub AreRisingRanges : List Range → Type 0
AreRisingRanges ranges = AllPairs (λ one other. one.id < other.id) ranges

-- a number is greater than the last one, where there is one
abbrev pub is_behind : Option ℕ → ℕ → Bool
is_behind None id = true
is_behind (Some last) id = nat_lt last id

-- the lesser of a number, where there is one, and another
abbrev pub lesser_number : Option ℕ → ℕ → ℕ
lesser_number None id = id
lesser_number (Some least) id = if nat_lt id least then id else least

-- the lesser of a number, where there is one, and that of a range that passes the test
abbrev pub with_lesser : (Range → Bool) → Option ℕ → Range → Option ℕ
with_lesser passes least range = if passes range then Some (lesser_number least range.id) else least

-- the least of a number, where there is one, and those of the ranges that pass the test
abbrev pub least_from : (Range → Bool) → Option ℕ → List Range → Option ℕ
least_from passes least [] = least
least_from passes least (range ∷ ranges) = least_from passes (with_lesser passes least range) ranges
