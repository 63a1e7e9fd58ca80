-- Reads, writes, flushes, new lengths and locks keep what every try keeps.
use Rattle.std.proofs.Common.{◌≡◌, ℕ, ◌+◌, ◌≤◌, Bool, true, false, not, List, length, get_or, drop, refl, sym, ◌∙◌, arith, inl, inr, ◌⊎◌, Option, Some, None}
use Rattle.std.specs.List.{filter, list_any, All}
use Rattle.std.specs.Prelude.{◌==◌, ◌||◌, IsTrue, nat_le, nat_lt, unwrap_or, if◌then◌else◌}
use Rattle.std.proofs.Math.Nat.{min-le_left}
use Rattle.std.proofs.lemmas.Bool.{cases_Bool, eq-eqb, eqb-true, leb-true, le-leb, lt-leb}
use Rattle.std.proofs.lemmas.List.{length-take}
use Rattle.std.proofs.lemmas.List.Elements.{All-map, All-filter, All-push}
use Rattle.std.proofs.lemmas.List.Folds.{list_any_at, list_any-append}
use Rattle.fsa_types.specs.Access.{has_any}
use Rattle.fsa_types.specs.Rows.{row_of}
use Rattle.fsa_types.specs.StreamBytes.{slice}
use Rattle.fsa_types.specs.declared.oplock.Class.TheVariants.{Change, ReadOpen}
use Rattle.fsa_types.specs.declared.oplock.HandleSet.TheVariants as set
use Rattle.fsa_types.specs.declared.reply.Blocker.{Blocker}
use Rattle.fsa_types.specs.declared.reply.Blocker.TheVariants as blocker
use Rattle.fsa_types.specs.declared.reply.Interim.TheVariants.{LockWait}
use Rattle.fsa_types.specs.declared.request.Call.{Call}
use Rattle.fsa_types.specs.declared.request.Request.TheVariants as request
use Rattle.fsa_types.specs.declared.request.What.TheVariants.{Ask}
use Rattle.fsa_types.specs.declared.status.Status.{Status}
use Rattle.fsa_types.specs.declared.status.Status.TheVariants.{Success, InvalidHandle, InvalidDeviceRequest, AccessDenied, InvalidParameter, EndOfFile, FileLockConflict, LockNotGranted, InvalidLockRange, QuotaExceeded, DiskFull}
use Rattle.fsa_model.specs.Breaks.{with_breaks}
use Rattle.fsa_model.specs.Edits.{with_bytes, with_length, with_lock}
use Rattle.fsa_model.specs.Flush.{flush_by, flush_at, try_flush}
use Rattle.fsa_model.specs.Frame.{is_lock, most_reply_bytes, KeepsFrame}
use Rattle.fsa_model.specs.Growth.{growth_fault}
use Rattle.fsa_model.specs.Locked.{is_lock_on_stream, locks_on, read_is_locked, write_is_locked}
use Rattle.fsa_model.specs.Locking.{conflicts_with, lock_blockers, lock_free, lock_range, passes_top, lock_stream, lock_by, lock_at, try_lock}
use Rattle.fsa_model.specs.Lookups.{handle_of, bytes_of, largest_end, file_of_stream, is_named_stream}
use Rattle.fsa_model.specs.Outcome.{refused}
use Rattle.fsa_model.specs.Read.{read_bytes, read_unlocked, read_range, read_stream, read_by, read_at, try_read}
use Rattle.fsa_model.specs.SetEnd.{with_end_set, with_resized, set_end_grown, set_end_to, set_end_stream, set_end_by, set_end_at, try_set_end}
use Rattle.fsa_model.specs.Starving.{only_settlements_give}
use Rattle.fsa_model.specs.Volume.{Handle, Lock, Volume}
use Rattle.fsa_model.specs.Waiting.{blocker_lives}
use Rattle.fsa_model.specs.Write.{with_file_write_noted, with_stream_write_noted, with_write_noted, lengthens, with_written, write_bytes, write_grown, write_unlocked, write_range, write_at_place, can_write, write_stream, write_by, write_at, try_write}
use Rattle.fsa_model.proofs.FrameLaws.{AddsNothing-same, EndsPending-equal, KeepsFrame-adds_nothing}
use Rattle.fsa_model.proofs.ObeyLaws.{Calm, Calm-basic, Calm-if, Calm-next, Calm-noted, Calm-same, Calm-tree, CanBeHeld, Gains, Obeys, Obeys-breaks, Obeys-calm, Obeys-ends, Obeys-held, Obeys-if, Obeys-gains, Obeys-option, Obeys-refused, Obeys-replies}
use Rattle.fsa_model.proofs.OnceLaws.{AddsEnds-same}
use Rattle.fsa_model.proofs.PendLaws.{HandlesStay-same}
use Rattle.fsa_model.proofs.RowLaws.{any-push}
use Rattle.fsa_model.proofs.TryLaws.{Leaves, Watches-equal, is_given}

-- ---- growth

fault-plain : (test passes full : Bool) (why : Status) → (if test then None else if passes then Some QuotaExceeded else if full then Some DiskFull else None) ≡ Some why → only_settlements_give why ≡ false
fault-plain true passes full why is = cc
fault-plain false true full why is = (let same : QuotaExceeded ≡ why = cc in rw (sym same) refl)
fault-plain false false true why is = (let same : DiskFull ≡ why = cc in rw (sym same) refl)
fault-plain false false false why is = cc

growth_fault-plain : (v : Volume) (stream bytes : ℕ) (why : Status) → growth_fault v stream bytes ≡ Some why → only_settlements_give why ≡ false
growth_fault-plain v stream bytes why is = fault-plain _ _ _ why is

-- ---- reads

-- a read of so many bytes
abbrev reads : ℕ → ℕ → ℕ → ℕ → ℕ → Call
reads client number handle at count = record { client = client; number = number; what = Ask (request.Read handle at count) }

few-slice : (bytes : List ℕ) (at count : ℕ) → length (slice bytes at count) ≤ count
few-slice bytes at count = rw (length-take count (drop at bytes)) (min-le_left count (length (drop at bytes)))

read_bytes-obeys : (call : Call) (v : Volume) (stream at count : ℕ) → count ≤ most_reply_bytes call.what → Obeys call v (read_bytes v stream at count)
unfolding read_bytes
read_bytes-obeys call v stream at count most =
    Obeys-if (nat_le (length (bytes_of v stream)) at) _ _ (λ is. Obeys-refused call v EndOfFile refl)
    (λ no. Obeys-replies call v _ (record { bytes = let few = few-slice (bytes_of v stream) at count in omega arith; units = omega arith }) refl)

read_unlocked-obeys : (call : Call) (v : Volume) (handle stream at count : ℕ) → count ≤ most_reply_bytes call.what → Obeys call v (read_unlocked v handle stream at count)
unfolding read_unlocked
read_unlocked-obeys call v handle stream at count most =
    Obeys-if (read_is_locked v handle stream at count) _ _ (λ is. Obeys-refused call v FileLockConflict refl) (λ no. read_bytes-obeys call v stream at count most)

read_range-obeys : (call : Call) (v : Volume) (handle key stream at count : ℕ) → CanBeHeld call → count ≤ most_reply_bytes call.what → Obeys call v (read_range v handle key stream at count)
unfolding read_range
read_range-obeys call v handle key stream at count can most =
    Obeys-breaks call v (set.Stream stream) ReadOpen (Some handle) key _ can (read_unlocked-obeys call (with_breaks v (set.Stream stream) ReadOpen (Some handle) key) handle stream at count most)

read_stream-obeys : (call : Call) (v : Volume) (id : ℕ) (handle : Handle) (stream at count : ℕ) → CanBeHeld call → count ≤ most_reply_bytes call.what → Obeys call v (read_stream v id handle stream at count)
unfolding read_stream
read_stream-obeys call v id handle stream at count can most =
    Obeys-if (not (has_any handle.access 0x1)) _ _ (λ is. Obeys-refused call v AccessDenied refl)
    (λ no. Obeys-if (nat_lt largest_end (at + count)) _ _ (λ is. Obeys-refused call v InvalidParameter refl)
    (λ no. Obeys-if (count == 0) _ _ (λ is. Obeys-replies call v _ (record { bytes = omega arith; units = omega arith }) refl)
    (λ no. read_range-obeys call v id handle.key stream at count can most)))

read_by-obeys : (call : Call) (v : Volume) (id : ℕ) (handle : Handle) (at count : ℕ) → CanBeHeld call → count ≤ most_reply_bytes call.what → Obeys call v (read_by v id handle at count)
unfolding read_by
read_by-obeys call v id handle at count can most =
    Obeys-option handle.stream (λ stream. read_stream v id handle stream at count) _ (λ stream is. read_stream-obeys call v id handle stream at count can most) (Obeys-refused call v InvalidDeviceRequest refl)

read_at-obeys : (call : Call) (v : Volume) (id at count : ℕ) → CanBeHeld call → count ≤ most_reply_bytes call.what → Obeys call v (read_at v id at count)
unfolding read_at
read_at-obeys call v id at count can most =
    Obeys-option (row_of v.handles id) (λ handle. read_by v id handle at count) _ (λ handle found. read_by-obeys call v id handle at count can most) (Obeys-refused call v InvalidHandle refl)

pub try_read-obeys : (v : Volume) (client number handle at count : ℕ) → Obeys (reads client number handle at count) v (try_read v client handle at count)
unfolding try_read
try_read-obeys v client number handle at count =
    Obeys-option (handle_of v client handle) (λ id. read_at v id at count) _
    (λ id found. read_at-obeys (reads client number handle at count) v id at count (record { never = λ u w so. so; held = refl }) (omega arith)) (Obeys-refused (reads client number handle at count) v InvalidHandle refl)

-- ---- writes

Calm-write_noted : (v : Volume) (link stream : ℕ) (longer : Bool) → Calm v (with_write_noted v link stream longer)
Calm-write_noted v link stream longer =
    Calm-if (is_named_stream v stream) (with_stream_write_noted v link stream longer) (with_file_write_noted v link longer)
    (Calm-noted v link 8 (if longer then 0xC00 else 0x800) (Some stream)) (Calm-noted v link 3 (if longer then 0x18 else 0x10) None)

Calm-written : (v : Volume) (link stream at : ℕ) (bytes : List ℕ) → Calm v (with_written v link stream at bytes)
Calm-written v link stream at bytes =
    let noted : Volume = with_write_noted v link stream (lengthens v stream at bytes) in
    let put : Volume = with_bytes noted stream at bytes in
    Calm-next (Calm-write_noted v link stream (lengthens v stream at bytes)) (Calm-next (Calm-tree noted put refl) (Calm-basic put (file_of_stream v stream) _ _ _ _ _))

write_bytes-obeys : (call : Call) (v : Volume) (link stream at : ℕ) (bytes : List ℕ) → Obeys call v (write_bytes v link stream at bytes)
unfolding write_bytes
write_bytes-obeys call v link stream at bytes =
    Obeys-calm call v (with_written v link stream at bytes) _ (Calm-written v link stream at bytes) (record { bytes = omega arith; units = omega arith }) refl

write_grown-obeys : (call : Call) (v : Volume) (link stream at : ℕ) (bytes : List ℕ) → Obeys call v (write_grown v link stream at bytes)
unfolding write_grown
write_grown-obeys call v link stream at bytes =
    Obeys-option (growth_fault v stream (at + length bytes)) (λ why. refused v why) _ (λ why is. Obeys-refused call v why (growth_fault-plain v stream _ why is)) (write_bytes-obeys call v link stream at bytes)

write_unlocked-obeys : (call : Call) (v : Volume) (handle link stream at : ℕ) (bytes : List ℕ) → Obeys call v (write_unlocked v handle link stream at bytes)
unfolding write_unlocked
write_unlocked-obeys call v handle link stream at bytes =
    Obeys-if (write_is_locked v handle stream at (length bytes)) _ _ (λ is. Obeys-refused call v FileLockConflict refl) (λ no. write_grown-obeys call v link stream at bytes)

write_range-obeys : (call : Call) (v : Volume) (handle key link stream at : ℕ) (bytes : List ℕ) → CanBeHeld call → Obeys call v (write_range v handle key link stream at bytes)
unfolding write_range
write_range-obeys call v handle key link stream at bytes can =
    Obeys-breaks call v (set.Stream stream) Change (Some handle) key _ can
    (write_unlocked-obeys call (with_breaks v (set.Stream stream) Change (Some handle) key) handle link stream at bytes)

write_at_place-obeys : (call : Call) (v : Volume) (id : ℕ) (handle : Handle) (stream at : ℕ) (bytes : List ℕ) → CanBeHeld call → Obeys call v (write_at_place v id handle stream at bytes)
unfolding write_at_place
write_at_place-obeys call v id handle stream at bytes can =
    Obeys-if (nat_lt largest_end (at + length bytes)) _ _ (λ is. Obeys-refused call v InvalidParameter refl) (λ no. write_range-obeys call v id handle.key handle.link stream at bytes can)

write_stream-obeys : (call : Call) (v : Volume) (id : ℕ) (handle : Handle) (stream : ℕ) (at : Option ℕ) (bytes : List ℕ) → CanBeHeld call → Obeys call v (write_stream v id handle stream at bytes)
unfolding write_stream
write_stream-obeys call v id handle stream at bytes can =
    Obeys-if (not (can_write handle.access at)) _ _ (λ is. Obeys-refused call v AccessDenied refl)
    (λ no. Obeys-if (length bytes == 0) _ _ (λ is. Obeys-replies call v _ (record { bytes = omega arith; units = omega arith }) refl)
    (λ no. write_at_place-obeys call v id handle stream (unwrap_or at (length (bytes_of v stream))) bytes can))

write_by-obeys : (call : Call) (v : Volume) (id : ℕ) (handle : Handle) (at : Option ℕ) (bytes : List ℕ) → CanBeHeld call → Obeys call v (write_by v id handle at bytes)
unfolding write_by
write_by-obeys call v id handle at bytes can =
    Obeys-option handle.stream (λ stream. write_stream v id handle stream at bytes) _ (λ stream is. write_stream-obeys call v id handle stream at bytes can) (Obeys-refused call v InvalidDeviceRequest refl)

write_at-obeys : (call : Call) (v : Volume) (id : ℕ) (at : Option ℕ) (bytes : List ℕ) → CanBeHeld call → Obeys call v (write_at v id at bytes)
unfolding write_at
write_at-obeys call v id at bytes can =
    Obeys-option (row_of v.handles id) (λ handle. write_by v id handle at bytes) _ (λ handle found. write_by-obeys call v id handle at bytes can) (Obeys-refused call v InvalidHandle refl)

pub try_write-obeys : (call : Call) (v : Volume) (client handle : ℕ) (at : Option ℕ) (bytes : List ℕ) → CanBeHeld call → Obeys call v (try_write v client handle at bytes)
unfolding try_write
try_write-obeys call v client handle at bytes can =
    Obeys-option (handle_of v client handle) (λ id. write_at v id at bytes) _ (λ id found. write_at-obeys call v id at bytes can) (Obeys-refused call v InvalidHandle refl)

-- ---- flushes

flush_at-obeys : (call : Call) (v : Volume) (id : ℕ) → Obeys call v (flush_at v id)
unfolding flush_at
flush_at-obeys call v id =
    Obeys-option (row_of v.handles id) (λ handle. flush_by v handle) _
    (λ handle found. Obeys-if (has_any handle.access 0x2 || has_any handle.access 0x4) _ _ (λ is. Obeys-refused call v Success refl) (λ no. Obeys-refused call v AccessDenied refl)) (Obeys-refused call v InvalidHandle refl)

pub try_flush-obeys : (call : Call) (v : Volume) (client handle : ℕ) → Obeys call v (try_flush v client handle)
unfolding try_flush
try_flush-obeys call v client handle = Obeys-option (handle_of v client handle) (λ id. flush_at v id) _ (λ id found. flush_at-obeys call v id) (Obeys-refused call v InvalidHandle refl)

-- ---- new lengths

Calm-resized : (v : Volume) (link stream end : ℕ) → Calm v (with_resized v link stream end)
Calm-resized v link stream end =
    let noted : Volume = with_write_noted v link stream true in
    let cut : Volume = with_length noted stream end in
    Calm-next (Calm-write_noted v link stream true) (Calm-next (Calm-tree noted cut refl) (Calm-basic cut (file_of_stream v stream) _ _ _ _ _))

set_end_grown-obeys : (call : Call) (v : Volume) (link stream end : ℕ) → Obeys call v (set_end_grown v link stream end)
unfolding set_end_grown
set_end_grown-obeys call v link stream end =
    Obeys-option (growth_fault v stream end) (λ why. refused v why) _ (λ why is. Obeys-refused call v why (growth_fault-plain v stream _ why is))
    (Obeys-ends call v (with_end_set v link stream end) Success
    (Calm-if (length (bytes_of v stream) == end) v (with_resized v link stream end) (Calm-same v) (Calm-resized v link stream end)) refl)

set_end_to-obeys : (call : Call) (v : Volume) (handle key link stream end : ℕ) → CanBeHeld call → Obeys call v (set_end_to v handle key link stream end)
unfolding set_end_to
set_end_to-obeys call v handle key link stream end can =
    Obeys-breaks call v (set.Stream stream) Change (Some handle) key _ can (set_end_grown-obeys call (with_breaks v (set.Stream stream) Change (Some handle) key) link stream end)

set_end_stream-obeys : (call : Call) (v : Volume) (id : ℕ) (handle : Handle) (stream end : ℕ) → CanBeHeld call → Obeys call v (set_end_stream v id handle stream end)
unfolding set_end_stream
set_end_stream-obeys call v id handle stream end can =
    Obeys-if (not (has_any handle.access 0x2)) _ _ (λ is. Obeys-refused call v AccessDenied refl)
    (λ no. Obeys-if (nat_lt largest_end end) _ _ (λ is. Obeys-refused call v InvalidParameter refl) (λ no. set_end_to-obeys call v id handle.key handle.link stream end can))

set_end_by-obeys : (call : Call) (v : Volume) (id : ℕ) (handle : Handle) (end : ℕ) → CanBeHeld call → Obeys call v (set_end_by v id handle end)
unfolding set_end_by
set_end_by-obeys call v id handle end can =
    Obeys-option handle.stream (λ stream. set_end_stream v id handle stream end) _ (λ stream is. set_end_stream-obeys call v id handle stream end can) (Obeys-refused call v InvalidParameter refl)

set_end_at-obeys : (call : Call) (v : Volume) (id end : ℕ) → CanBeHeld call → Obeys call v (set_end_at v id end)
unfolding set_end_at
set_end_at-obeys call v id end can =
    Obeys-option (row_of v.handles id) (λ handle. set_end_by v id handle end) _ (λ handle found. set_end_by-obeys call v id handle end can) (Obeys-refused call v InvalidHandle refl)

pub try_set_end-obeys : (call : Call) (v : Volume) (client handle end : ℕ) → CanBeHeld call → Obeys call v (try_set_end v client handle end)
unfolding try_set_end
try_set_end-obeys call v client handle end can =
    Obeys-option (handle_of v client handle) (λ id. set_end_at v id end) _ (λ id found. set_end_at-obeys call v id end can) (Obeys-refused call v InvalidHandle refl)

-- ---- locks

-- a lock more ends no blocker
lives-lock : (v : Volume) (handle at count : ℕ) (exclusive : Bool) (b : Blocker) → blocker_lives v b ≡ true → blocker_lives (with_lock v handle at count exclusive) b ≡ true
lives-lock v handle at count exclusive (blocker.Break number) lives = lives
lives-lock v handle at count exclusive (blocker.Lock number) lives = any-push (λ (entry : ℕ × Lock). entry.0 == number) v.locks _ lives

-- and a lock that is new has the next number
new-lock : (v : Volume) (handle at count : ℕ) (exclusive : Bool) (b : Blocker) → blocker_lives (with_lock v handle at count exclusive) b ≡ true
    → (blocker_lives v b ≡ true) ⊎ ((is_given v b ≡ false) × (is_given (with_lock v handle at count exclusive) b ≡ true))
new-lock v handle at count exclusive (blocker.Break number) lives = inl lives
new-lock v handle at count exclusive (blocker.Lock number) lives =
    elim (cases_Bool (v.last_lock + 1 == number)) [
      | inl new ↦ (let is : v.last_lock + 1 ≡ number = eqb-true (v.last_lock + 1) number new in inr (lt-leb number v.last_lock (omega arith), le-leb number (v.last_lock + 1) (omega arith)))
      | inr older ↦ inl (old (list_any (λ (entry : ℕ × Lock). entry.0 == number) v.locks) (sym (list_any-append (λ (entry : ℕ × Lock). entry.0 == number) v.locks _) ∙ lives) older)
    ]
  where
    old : (b : Bool) → (b || ((v.last_lock + 1 == number) || false)) ≡ true → (v.last_lock + 1 == number) ≡ false → b ≡ true
    old true is older = refl
    old false is older = (let impossible : false ≡ true = rw older at is in cc)

given-lock : (v : Volume) (handle at count : ℕ) (exclusive : Bool) (b : Blocker) → is_given v b ≡ true → is_given (with_lock v handle at count exclusive) b ≡ true
given-lock v handle at count exclusive (blocker.Break number) is = is
given-lock v handle at count exclusive (blocker.Lock number) is = (let le : number ≤ v.last_lock = leb-true number v.last_lock is in le-leb number (v.last_lock + 1) (omega arith))

Leaves-lock : (v : Volume) (handle at count : ℕ) (exclusive : Bool) → Leaves v (with_lock v handle at count exclusive)
Leaves-lock v handle at count exclusive = record {
  keeps = record { oplocks = λ handle. omega arith; granted = λ turn. omega arith; pending = λ test. omega arith; times = λ once client number. refl; made = λ once. refl; ended = AddsEnds-same v.ended; seen = Watches-equal refl refl };
  lives = λ b lives. lives-lock v handle at count exclusive b lives;
  held = λ once none test. refl;
  new = λ b lives. new-lock v handle at count exclusive b lives;
  given = λ b is. given-lock v handle at count exclusive b is;
  breaks = omega arith;
  ones = λ one all_given each. each;
  stay = HandlesStay-same refl refl;
  pends = λ once one none. none;
}

-- the locks that are in the way are there
blockers-live : (v : Volume) (handle stream at count : ℕ) (exclusive : Bool) → All (λ b. blocker_lives v b ≡ true) (lock_blockers v handle stream at count exclusive)
blockers-live v handle stream at count exclusive =
    All-map (λ b. blocker_lives v b ≡ true) (λ (entry : ℕ × Lock). blocker.Lock entry.0) (filter (λ entry. conflicts_with handle at count exclusive entry.1) (locks_on v stream))
    (All-filter (λ (entry : ℕ × Lock). conflicts_with handle at count exclusive entry.1) (λ entry. blocker_lives v (blocker.Lock entry.0) ≡ true) (locks_on v stream)
    (All-filter (λ (entry : ℕ × Lock). is_lock_on_stream v stream entry.1) (λ entry. blocker_lives v (blocker.Lock entry.0) ≡ true) v.locks
    (λ k d within. list_any_at (λ (other : ℕ × Lock). other.0 == (get_or v.locks k d).0) v.locks k d within (eq-eqb (get_or v.locks k d).0 (get_or v.locks k d).0 refl))))

KeepsFrame-lock : (call : Call) (v : Volume) (handle at count : ℕ) (exclusive : Bool) → is_lock call.what ≡ true → KeepsFrame call v (with_lock v handle at count exclusive)
KeepsFrame-lock call v handle at count exclusive locks =
    let nothing : KeepsFrame call v v = KeepsFrame-adds_nothing (AddsNothing-same v) in
    let lock : Lock = record { handle = handle; at = at; count = count; exclusive = exclusive } in
    record {
      table = refl;
      clients = refl;
      left = nothing.left;
      clock = nothing.clock;
      handles = λ test all own. all;
      locks = λ test all own. All-push (λ (entry : ℕ × Lock). IsTrue (test entry)) v.locks (v.last_lock + 1, lock) all (own lock locks);
      numbers = record {
        files = omega arith;
        links = omega arith;
        streams = omega arith;
        handles = omega arith;
        locks = omega arith;
        handles_of_creates = λ other. refl;
        locks_of_locks = λ other. cc;
      };
      pending = λ client number is. is;
      ended = EndsPending-equal refl;
      points = λ fits fit. fit;
    }

Gains-lock : (call : Call) (v : Volume) (handle at count : ℕ) (exclusive : Bool) → is_lock call.what ≡ true → Gains call v (with_lock v handle at count exclusive)
Gains-lock call v handle at count exclusive locks = record {
  leaves = Leaves-lock v handle at count exclusive;
  few = record { files = omega arith; links = omega arith; streams = omega arith; handles = omega arith; locks = omega arith };
  keeps = KeepsFrame-lock call v handle at count exclusive locks;
  ended = refl;
  watches = refl;
}

lock_free-obeys : (call : Call) (v : Volume) (handle stream at count : ℕ) (exclusive wait : Bool) → CanBeHeld call → is_lock call.what ≡ true → Obeys call v (lock_free v handle stream at count exclusive wait)
unfolding lock_free
lock_free-obeys call v handle stream at count exclusive wait can locks =
    Obeys-if (length (lock_blockers v handle stream at count exclusive) == 0) _ _ (λ is. Obeys-gains call v (with_lock v handle at count exclusive) _ can (Gains-lock call v handle at count exclusive locks) (record { bytes = omega arith; units = omega arith }) refl)
    (λ no. Obeys-if wait _ _ (λ is. Obeys-held call v (lock_blockers v handle stream at count exclusive) LockWait can (record { some = no; live = blockers-live v handle stream at count exclusive })) (λ is. Obeys-refused call v LockNotGranted refl))

lock_range-obeys : (call : Call) (v : Volume) (handle key stream at count : ℕ) (exclusive wait : Bool) → CanBeHeld call → is_lock call.what ≡ true → Obeys call v (lock_range v handle key stream at count exclusive wait)
unfolding lock_range
lock_range-obeys call v handle key stream at count exclusive wait can locks =
    Obeys-breaks call v (set.Stream stream) Change (Some handle) key _ can (lock_free-obeys call (with_breaks v (set.Stream stream) Change (Some handle) key) handle stream at count exclusive wait can locks)

lock_stream-obeys : (call : Call) (v : Volume) (id : ℕ) (handle : Handle) (stream at count : ℕ) (exclusive wait : Bool) → CanBeHeld call → is_lock call.what ≡ true
    → Obeys call v (lock_stream v id handle stream at count exclusive wait)
unfolding lock_stream
lock_stream-obeys call v id handle stream at count exclusive wait can locks =
    Obeys-if (not (has_any handle.access 0x1 || has_any handle.access 0x2)) _ _ (λ is. Obeys-refused call v AccessDenied refl)
    (λ no. Obeys-if (passes_top at count) _ _ (λ is. Obeys-refused call v InvalidLockRange refl) (λ no. lock_range-obeys call v id handle.key stream at count exclusive wait can locks))

lock_by-obeys : (call : Call) (v : Volume) (id : ℕ) (handle : Handle) (at count : ℕ) (exclusive wait : Bool) → CanBeHeld call → is_lock call.what ≡ true
    → Obeys call v (lock_by v id handle at count exclusive wait)
unfolding lock_by
lock_by-obeys call v id handle at count exclusive wait can locks =
    Obeys-option handle.stream (λ stream. lock_stream v id handle stream at count exclusive wait) _ (λ stream is. lock_stream-obeys call v id handle stream at count exclusive wait can locks)
    (Obeys-refused call v InvalidParameter refl)

lock_at-obeys : (call : Call) (v : Volume) (id at count : ℕ) (exclusive wait : Bool) → CanBeHeld call → is_lock call.what ≡ true → Obeys call v (lock_at v id at count exclusive wait)
unfolding lock_at
lock_at-obeys call v id at count exclusive wait can locks =
    Obeys-option (row_of v.handles id) (λ handle. lock_by v id handle at count exclusive wait) _ (λ handle found. lock_by-obeys call v id handle at count exclusive wait can locks)
    (Obeys-refused call v InvalidHandle refl)

pub try_lock-obeys : (call : Call) (v : Volume) (client handle at count : ℕ) (exclusive wait : Bool) → CanBeHeld call → is_lock call.what ≡ true
    → Obeys call v (try_lock v client handle at count exclusive wait)
unfolding try_lock
try_lock-obeys call v client handle at count exclusive wait can locks =
    Obeys-option (handle_of v client handle) (λ id. lock_at v id at count exclusive wait) _ (λ id found. lock_at-obeys call v id at count exclusive wait can locks) (Obeys-refused call v InvalidHandle refl)
