-- Locking and unlocking ranges of bytes, after [MS-FSA] 'Server Requests a Byte-Range Lock' and 'Server
-- Requests an Unlock of a Byte-Range': the checks in order, each by its name.
use Rattle.std.specs.Prelude.{ℕ, Bool, ◌+◌, ◌==◌, ◌&&◌, ◌||◌, ◌^◌, not, nat_lt, List, map, filter, length, Some, if◌then◌else◌}
use Rattle.std.specs.Option.{option_map_or}
use Rattle.fsa_types.specs.Access.{has_any}
use Rattle.fsa_types.specs.Masks.{READ_DATA, WRITE_DATA}
use Rattle.fsa_types.specs.Ranges.{exclusive_conflicts, shared_conflicts}
use Rattle.fsa_types.specs.Rows.{row_of}
use Rattle.fsa_types.specs.declared.oplock.Class.TheVariants.{Change}
use Rattle.fsa_types.specs.declared.oplock.HandleSet.TheVariants.{Stream}
use Rattle.fsa_types.specs.declared.reply.Blocker.{Blocker}
use Rattle.fsa_types.specs.declared.reply.Blocker.TheVariants.{Lock as LockOf}
use Rattle.fsa_types.specs.declared.reply.Interim.TheVariants.{LockWait}
use Rattle.fsa_types.specs.declared.status.Status.TheVariants.{Success, InvalidHandle, InvalidParameter, AccessDenied, InvalidLockRange, LockNotGranted, RangeNotLocked}
use Rattle.fsa_model.specs.Breaks.{with_breaks}
use Rattle.fsa_model.specs.Edits.{is_lock_on, with_lock, without_lock}
use Rattle.fsa_model.specs.Locked.{locks_on}
use Rattle.fsa_model.specs.Lookups.{handle_of, number_of}
use Rattle.fsa_model.specs.Outcome.{Outcome, Hold, ends_with, refused}
use Rattle.fsa_model.specs.Volume.{Handle, Lock, Volume}
use Rattle.fsa_model.specs.Waits.{waits_for, held_by}

-- a lock of this kind that this handle wants on this range conflicts with one that is held
abbrev pub conflicts_with : ℕ → ℕ → ℕ → Bool → Lock → Bool
conflicts_with handle at count exclusive lock =
    if exclusive then exclusive_conflicts handle at count lock else shared_conflicts handle at count lock

-- the locks on the stream that do, in the order in which they were granted, as what a call waits for
abbrev pub lock_blockers : Volume → ℕ → ℕ → ℕ → ℕ → Bool → List Blocker
lock_blockers v handle stream at count exclusive =
    map (λ entry. LockOf entry.0) (filter (λ entry. conflicts_with handle at count exclusive entry.1) (locks_on v stream))

-- ---- locking

-- the lock gets the next number, unless another is in the way: then the call waits for all that are, or it
-- is refused
unfoldable pub lock_free : Volume → ℕ → ℕ → ℕ → ℕ → Bool → Bool → Outcome
lock_free v handle stream at count exclusive wait =
    if length (lock_blockers v handle stream at count exclusive) == 0 then ends_with (with_lock v handle at count exclusive) Success
    else if wait then Hold v (lock_blockers v handle stream at count exclusive) LockWait
    else refused v LockNotGranted

-- once the breaks that the lock waits for have ended
unfoldable pub lock_range : Volume → ℕ → ℕ → ℕ → ℕ → ℕ → Bool → Bool → Outcome
lock_range v handle key stream at count exclusive wait =
    if waits_for v (Stream stream) Change (Some handle) key then held_by v (Stream stream) Change (Some handle) key
    else lock_free (with_breaks v (Stream stream) Change (Some handle) key) handle stream at count exclusive wait

-- a range with bytes ends past the largest place
abbrev pub passes_top : ℕ → ℕ → Bool
passes_top at count = nat_lt 0 count && nat_lt (2 ^ 64) (at + count)

-- READ_DATA or WRITE_DATA is granted, and then the range
unfoldable pub lock_stream : Volume → ℕ → Handle → ℕ → ℕ → ℕ → Bool → Bool → Outcome
lock_stream v id handle stream at count exclusive wait =
    if not (has_any handle.access READ_DATA || has_any handle.access WRITE_DATA) then refused v AccessDenied
    else if passes_top at count then refused v InvalidLockRange
    else lock_range v id handle.key stream at count exclusive wait

-- a directory has no bytes to lock
unfoldable pub lock_by : Volume → ℕ → Handle → ℕ → ℕ → Bool → Bool → Outcome
lock_by v id handle at count exclusive wait =
    option_map_or (λ stream. lock_stream v id handle stream at count exclusive wait) handle.stream (refused v InvalidParameter)

-- the handle of this number
unfoldable pub lock_at : Volume → ℕ → ℕ → ℕ → Bool → Bool → Outcome
lock_at v id at count exclusive wait = option_map_or (λ handle. lock_by v id handle at count exclusive wait) (row_of v.handles id) (refused v InvalidHandle)

-- one try of a lock
unfoldable pub try_lock : Volume → ℕ → ℕ → ℕ → ℕ → Bool → Bool → Outcome
try_lock v client handle at count exclusive wait =
    option_map_or (λ id. lock_at v id at count exclusive wait) (handle_of v client handle) (refused v InvalidHandle)

-- ---- unlocking

-- the first lock of the handle on exactly this range goes, where there is one; no right is asked, and no
-- oplock is broken
unfoldable pub unlock_range : Volume → ℕ → ℕ → ℕ → Outcome
unlock_range v id at count =
    option_map_or (λ _. ends_with (without_lock v id at count) Success) (number_of (is_lock_on id at count) v.locks) (refused v RangeNotLocked)

-- a directory has no bytes to unlock
unfoldable pub unlock_by : Volume → ℕ → Handle → ℕ → ℕ → Outcome
unlock_by v id handle at count = option_map_or (λ _. unlock_range v id at count) handle.stream (refused v InvalidParameter)

-- the handle of this number
unfoldable pub unlock_at : Volume → ℕ → ℕ → ℕ → Outcome
unlock_at v id at count = option_map_or (λ handle. unlock_by v id handle at count) (row_of v.handles id) (refused v InvalidHandle)

-- one try of an unlock
unfoldable pub try_unlock : Volume → ℕ → ℕ → ℕ → ℕ → Outcome
try_unlock v client handle at count =
    option_map_or (λ id. unlock_at v id at count) (handle_of v client handle) (refused v InvalidHandle)
