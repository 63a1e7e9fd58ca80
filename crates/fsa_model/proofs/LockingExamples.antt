-- Flushes, lengths, locks and unlocks, worked by hand from the rules and shown by computation: what they
-- answer, the whole volume that they leave, the changes that they note, and what they wait for.
use Rattle.std.specs.Prelude.{◌≡◌, ℕ, Bool, true, false, List, [], ◌∷◌, ◌++◌, map, replicate, Option, Some, None, codes, refl}
use Rattle.fsa_types.specs.CaseTable.{ascii_pairs}
use Rattle.fsa_types.specs.declared.request.Call.{Call}
use Rattle.fsa_types.specs.declared.request.Level.{Level}
use Rattle.fsa_types.specs.declared.request.Level.TheVariants.{Nil, R, RH, RW, RWH}
use Rattle.fsa_types.specs.declared.request.Request.TheVariants as request
use Rattle.fsa_types.specs.declared.request.What.TheVariants.{Ask}
use Rattle.fsa_types.specs.declared.reply.Answer.{Answer}
use Rattle.fsa_types.specs.declared.reply.Answer.TheVariants.{Ended}
use Rattle.fsa_types.specs.declared.reply.Blocker.TheVariants.{Break, Lock as LockOf}
use Rattle.fsa_types.specs.declared.reply.Body.TheVariants.{Nothing, Got, Count, Broken}
use Rattle.fsa_types.specs.declared.reply.EndOf.{EndOf}
use Rattle.fsa_types.specs.declared.reply.Interim.TheVariants.{Held, LockWait}
use Rattle.fsa_types.specs.declared.status.Status.{Status}
use Rattle.fsa_types.specs.declared.status.Status.TheVariants.{Success, AccessDenied, InvalidHandle, InvalidParameter, InvalidLockRange, LockNotGranted, RangeNotLocked, EndOfFile, QuotaExceeded, DiskFull}
use Rattle.fsa_model.specs.Edits.{without_handle}
use Rattle.fsa_model.specs.Outcome.{Outcome, Done, Hold}
use Rattle.fsa_model.specs.Read.{try_read, read_at, read_by, read_stream, read_range, read_unlocked, read_bytes}
use Rattle.fsa_model.specs.Turn.{volume_after, answer_of}
use Rattle.fsa_model.specs.Volume.{File, Link, Stream, Handle, Lock, Oplock, Change, Volume, fresh, root}
use Rattle.fsa_model.specs.Write.{try_write, write_at, write_by, write_stream, write_at_place, write_range, write_unlocked, write_grown, write_bytes}
use Rattle.fsa_model.specs.Flush.{try_flush, flush_at}
use Rattle.fsa_model.specs.Locking.{try_lock, lock_at, lock_by, lock_stream, lock_range, lock_free, try_unlock, unlock_at, unlock_by, unlock_range}
use Rattle.fsa_model.specs.SetEnd.{try_set_end, set_end_at, set_end_by, set_end_stream, set_end_to, set_end_grown}

-- ---- what is there

-- the file 3, HIDDEN, of owner 7; and with these write and change times
abbrev pub file_with : ℕ → ℕ → File
file_with write change = record {
  directory = false;
  attributes = 0x2;
  creation = 1;
  access = 2;
  write = write;
  change = change;
  owner = 7;
  dacl = None;
  point = None;
}

abbrev pub link_at : ℕ → List ℕ → ℕ → Link
link_at parent name file = record { parent = parent; name = name; file = file; deleted = false }

abbrev pub stream_at : ℕ → List ℕ → List ℕ → Stream
stream_at file name bytes = record { file = file; name = name; bytes = bytes; deleted = false }

abbrev pub handle_at : ℕ → ℕ → ℕ → Option ℕ → ℕ → ℕ → Handle
handle_at client number link stream access key = record {
  client = client;
  number = number;
  link = link;
  stream = stream;
  access = access;
  share = 0x7;
  key = key;
  delete_on_close = false;
  enumeration = None;
}

-- the default stream of the file with these bytes, and `s` with these; and one byte of the file 4 of owner 9
abbrev pub streams_with : List ℕ → List ℕ → List (ℕ × Stream)
streams_with bytes named = (1, stream_at 3 [] bytes) ∷ (2, stream_at 3 (codes "s") named) ∷ (3, stream_at 4 [] (9 ∷ [])) ∷ []

abbrev pub files_with : ℕ → ℕ → List (ℕ × File)
files_with write change = (1, root) ∷ (2, root) ∷ (3, file_with write change) ∷ (4, record (file_with 3 4) { owner = 9 }) ∷ []

-- in the root are the directory 2 `d` with the file 3 `f` in it, and the file 4 `g`. Client 0 has the
-- default stream of `f` open with this access (handle 11 by call 1), its stream `s` (12 by 2), the
-- directory (13 by 4), and the default stream with the key 5 (14 by 5); client 1 has the default stream
-- (15 by 1), and with the key 5 (16 by 7). The clock stands at 8
abbrev pub opened : ℕ → Volume
opened access = record (fresh (record {
  table = ascii_pairs;
  clients = record { name = codes "a"; sids = 7 ∷ [] } ∷ record { name = codes "b"; sids = 9 ∷ [] } ∷ [];
})) {
  files = files_with 3 4;
  links = (1, link_at 1 (codes "d") 2) ∷ (2, link_at 2 (codes "f") 3) ∷ (3, link_at 1 (codes "g") 4) ∷ [];
  streams = streams_with (10 ∷ 11 ∷ 12 ∷ 13 ∷ 14 ∷ []) (20 ∷ 21 ∷ []);
  handles = (11, handle_at 0 1 2 (Some 1) access 0)
      ∷ (12, handle_at 0 2 2 (Some 2) 0x3 0)
      ∷ (13, handle_at 0 4 1 None 0x7 0)
      ∷ (14, handle_at 0 5 2 (Some 1) 0x3 5)
      ∷ (15, handle_at 1 1 2 (Some 1) 0x3 0)
      ∷ (16, handle_at 1 7 2 (Some 1) 0x3 5)
      ∷ [];
  clock = 8;
  last_file = 4;
  last_link = 3;
  last_stream = 3;
  last_handle = 16;
}

abbrev pub lock_of : ℕ → ℕ → ℕ → Bool → Lock
lock_of handle at count exclusive = record { handle = handle; at = at; count = count; exclusive = exclusive }

-- with these locks, and the last number given
abbrev pub with_locks : Volume → List (ℕ × Lock) → ℕ → Volume
with_locks v locks last = record v { locks = locks; last_lock = last }

-- with one
abbrev pub locked : Volume → ℕ → ℕ → ℕ → Bool → Volume
locked v handle at count exclusive = with_locks v ((1, lock_of handle at count exclusive) ∷ []) 1

-- with that one and a second
abbrev pub locked_too : Volume → ℕ → ℕ → ℕ → Bool → ℕ → ℕ → ℕ → Bool → Volume
locked_too v handle at count exclusive other other_at other_count other_exclusive =
    with_locks v ((1, lock_of handle at count exclusive) ∷ (2, lock_of other other_at other_count other_exclusive) ∷ []) 2

-- with an oplock of this handle, key and level; its call is client 1's call 2, pending since turn 1
abbrev pub oplock_call : Call
oplock_call = record { client = 1; number = 2; what = Ask (request.Oplock 1 RW) }

abbrev pub cached : Volume → ℕ → ℕ → Level → Volume
cached v handle key level = record v {
  oplocks = record { handle = handle; key = key; level = level; target = None; number = 0; call = Some 1 } ∷ [];
  pending = (1, record { call = oplock_call; blockers = [] }) ∷ [];
}

-- that call told that this level may stay, and a break to it begun
abbrev pub told : Level → Bool → EndOf
told level ack = record { client = 1; number = 2; reply = record { status = Success; body = Broken level ack } }

abbrev pub with_break : Volume → ℕ → ℕ → Level → Level → Volume
with_break v handle key level target = record v {
  oplocks = record { handle = handle; key = key; level = level; target = Some target; number = 1; call = None } ∷ [];
  ended = told target true ∷ [];
  last_break = 1;
}

-- a break that was begun before, told then
abbrev pub breaking : Volume → Level → Level → Volume
breaking v level target = record v {
  oplocks = record { handle = 15; key = 0; level = level; target = Some target; number = 1; call = None } ∷ [];
  last_break = 1;
}

-- ---- what is answered

abbrev pub fails : Volume → Status → Outcome
fails v status = Done v (record { status = status; body = Nothing })

abbrev pub passes : Volume → Outcome
passes v = fails v Success

-- ---- flushes

-- WRITE_DATA or APPEND_DATA is enough; no other right is
pub flush_rights :
    map {B = Outcome} (λ access. try_flush (opened access) 0 1) (0x2 ∷ 0x4 ∷ 0x6 ∷ 0x1 ∷ 0x1F01F9 ∷ 0x0 ∷ [])
    ≡ passes (opened 0x2)
    ∷ passes (opened 0x4)
    ∷ passes (opened 0x6)
    ∷ fails (opened 0x1) AccessDenied
    ∷ fails (opened 0x1F01F9) AccessDenied
    ∷ fails (opened 0x0) AccessDenied
    ∷ []
unfolding try_flush flush_at
flush_rights = refl

-- a directory with the right, a number without a handle, the number of another client's handle; no oplock is broken
pub flush_handles :
    map {B = Outcome} (λ handle. try_flush (cached (opened 0x2) 15 0 RWH) 0 handle) (1 ∷ 2 ∷ 4 ∷ 3 ∷ 7 ∷ [])
    ≡ passes (cached (opened 0x2) 15 0 RWH)
    ∷ passes (cached (opened 0x2) 15 0 RWH)
    ∷ passes (cached (opened 0x2) 15 0 RWH)
    ∷ fails (cached (opened 0x2) 15 0 RWH) InvalidHandle
    ∷ fails (cached (opened 0x2) 15 0 RWH) InvalidHandle
    ∷ []
unfolding try_flush flush_at
flush_handles = refl

-- ---- lengths

-- write and change time the clock, HIDDEN alone as before, and one change noted
abbrev pub resized : Volume → List ℕ → List ℕ → Change → Volume
resized v bytes named change = record v {
  files = files_with 8 8;
  streams = streams_with bytes named;
  changes = change ∷ [];
}

abbrev pub modified : Change
modified = record { action = 3; bits = 0x18; seen_from = (2, codes "f") ∷ (1, codes "d\\f") ∷ [] }

abbrev pub modified_stream : Change
modified_stream = record { action = 8; bits = 0xC00; seen_from = (2, codes "f:s") ∷ (1, codes "d\\f:s") ∷ [] }

-- as it was, longer, shorter, one byte each way, and none
pub set_end_lengths :
    map {B = Outcome} (λ end. try_set_end (opened 0x2) 0 1 end) (5 ∷ 8 ∷ 2 ∷ 6 ∷ 4 ∷ 0 ∷ [])
    ≡ passes (opened 0x2)
    ∷ passes (resized (opened 0x2) (10 ∷ 11 ∷ 12 ∷ 13 ∷ 14 ∷ 0 ∷ 0 ∷ 0 ∷ []) (20 ∷ 21 ∷ []) modified)
    ∷ passes (resized (opened 0x2) (10 ∷ 11 ∷ []) (20 ∷ 21 ∷ []) modified)
    ∷ passes (resized (opened 0x2) (10 ∷ 11 ∷ 12 ∷ 13 ∷ 14 ∷ 0 ∷ []) (20 ∷ 21 ∷ []) modified)
    ∷ passes (resized (opened 0x2) (10 ∷ 11 ∷ 12 ∷ 13 ∷ []) (20 ∷ 21 ∷ []) modified)
    ∷ passes (resized (opened 0x2) [] (20 ∷ 21 ∷ []) modified)
    ∷ []
unfolding try_set_end set_end_at set_end_by set_end_stream set_end_to set_end_grown
set_end_lengths = refl

-- a named stream has its own action and bits; its file has the times
pub set_end_named :
    map {B = Outcome} (λ end. try_set_end (opened 0x2) 0 2 end) (2 ∷ 3 ∷ 1 ∷ [])
    ≡ passes (opened 0x2)
    ∷ passes (resized (opened 0x2) (10 ∷ 11 ∷ 12 ∷ 13 ∷ 14 ∷ []) (20 ∷ 21 ∷ 0 ∷ []) modified_stream)
    ∷ passes (resized (opened 0x2) (10 ∷ 11 ∷ 12 ∷ 13 ∷ 14 ∷ []) (20 ∷ []) modified_stream)
    ∷ []
unfolding try_set_end set_end_at set_end_by set_end_stream set_end_to set_end_grown
set_end_named = refl

-- cut off and made longer again: what was cut off is zero
pub set_end_twice :
    try_set_end (volume_after (try_set_end (opened 0x2) 0 1 2)) 0 1 4
    ≡ passes (record (resized (opened 0x2) (10 ∷ 11 ∷ 0 ∷ 0 ∷ []) (20 ∷ 21 ∷ []) modified) { changes = modified ∷ modified ∷ [] })
unfolding try_set_end set_end_at set_end_by set_end_stream set_end_to set_end_grown
set_end_twice = refl

-- WRITE_DATA is asked before the place, and APPEND_DATA isn't enough; the largest length is 2^63 - 1, for
-- which there is no space
pub set_end_rights :
    map {B = Outcome} (λ (asked : ℕ × ℕ). try_set_end (opened asked.0) 0 1 asked.1)
    ((0x1, 5) ∷ (0x5, 9223372036854775808) ∷ (0x2, 9223372036854775808) ∷ (0x2, 18446744073709551615) ∷ (0x2, 9223372036854775807) ∷ [])
    ≡ fails (opened 0x1) AccessDenied
    ∷ fails (opened 0x5) AccessDenied
    ∷ fails (opened 0x2) InvalidParameter
    ∷ fails (opened 0x2) InvalidParameter
    ∷ fails (opened 0x2) DiskFull
    ∷ []
unfolding try_set_end set_end_at set_end_by set_end_stream set_end_to set_end_grown
set_end_rights = refl

-- a directory, also one without WRITE_DATA; a number without a handle; another client's
pub set_end_handles :
    map {B = Outcome} (λ handle. try_set_end (opened 0x2) 0 handle 0) (4 ∷ 3 ∷ 7 ∷ [])
    ≡ fails (opened 0x2) InvalidParameter ∷ fails (opened 0x2) InvalidHandle ∷ fails (opened 0x2) InvalidHandle ∷ []
unfolding try_set_end set_end_at set_end_by set_end_stream set_end_to set_end_grown
set_end_handles = refl

abbrev pub with_a_bare_directory : Volume
with_a_bare_directory = record (opened 0x2) { handles = (13, handle_at 0 4 1 None 0x1 0) ∷ [] }

pub set_end_of_a_directory : try_set_end with_a_bare_directory 0 4 9223372036854775808 ≡ fails with_a_bare_directory InvalidParameter
unfolding try_set_end set_end_at set_end_by set_end_stream set_end_to set_end_grown
set_end_of_a_directory = refl

-- no lock is asked, neither another handle's nor its own
pub set_end_locked :
    map {B = Outcome} (λ handle. try_set_end (locked (opened 0x2) handle 0 9 true) 0 1 2) (15 ∷ 11 ∷ [])
    ≡ passes (resized (locked (opened 0x2) 15 0 9 true) (10 ∷ 11 ∷ []) (20 ∷ 21 ∷ []) modified)
    ∷ passes (resized (locked (opened 0x2) 11 0 9 true) (10 ∷ 11 ∷ []) (20 ∷ 21 ∷ []) modified)
    ∷ []
unfolding try_set_end set_end_at set_end_by set_end_stream set_end_to set_end_grown
set_end_locked = refl

-- ---- lengths and oplocks

-- W of another key is broken to nothing and waited for, also where the length stays
pub set_end_held :
    map {B = Outcome} (λ (asked : Level × ℕ). try_set_end (cached (opened 0x2) 15 0 asked.0) 0 1 asked.1) ((RW, 2) ∷ (RWH, 5) ∷ [])
    ≡ Hold (with_break (opened 0x2) 15 0 RW Nil) (Break 1 ∷ []) Held
    ∷ Hold (with_break (opened 0x2) 15 0 RWH Nil) (Break 1 ∷ []) Held
    ∷ []
unfolding try_set_end set_end_at set_end_by set_end_stream set_end_to set_end_grown
set_end_held = refl

-- R ends and RH is broken beside it, also where the length stays
pub set_end_beside_a_break :
    map {B = Outcome} (λ (asked : Level × ℕ). try_set_end (cached (opened 0x2) 15 0 asked.0) 0 1 asked.1) ((R, 5) ∷ (RH, 5) ∷ (RH, 2) ∷ [])
    ≡ passes (record (opened 0x2) { ended = told Nil false ∷ [] })
    ∷ passes (with_break (opened 0x2) 15 0 RH Nil)
    ∷ passes (resized (with_break (opened 0x2) 15 0 RH Nil) (10 ∷ 11 ∷ []) (20 ∷ 21 ∷ []) modified)
    ∷ []
unfolding try_set_end set_end_at set_end_by set_end_stream set_end_to set_end_grown
set_end_beside_a_break = refl

-- what is refused before begins none; an oplock of its key, its own, and one of another stream stay
pub set_end_without_a_break :
    try_set_end (cached (opened 0x2) 15 0 RW) 0 1 9223372036854775808
    ∷ try_set_end (cached (opened 0x1) 15 0 RW) 0 1 2
    ∷ try_set_end (cached (opened 0x2) 16 5 RWH) 0 5 5
    ∷ try_set_end (cached (opened 0x2) 11 0 RWH) 0 1 5
    ∷ try_set_end (cached (opened 0x2) 12 0 RWH) 0 1 5
    ∷ []
    ≡ fails (cached (opened 0x2) 15 0 RW) InvalidParameter
    ∷ fails (cached (opened 0x1) 15 0 RW) AccessDenied
    ∷ passes (cached (opened 0x2) 16 5 RWH)
    ∷ passes (cached (opened 0x2) 11 0 RWH)
    ∷ passes (cached (opened 0x2) 12 0 RWH)
    ∷ []
unfolding try_set_end set_end_at set_end_by set_end_stream set_end_to set_end_grown
set_end_without_a_break = refl

-- a break in progress to R is lowered and waited for; one to nothing isn't
pub set_end_beside_an_earlier_break :
    map {B = Outcome} (λ target. try_set_end (breaking (opened 0x2) RH target) 0 1 2) (R ∷ Nil ∷ [])
    ≡ Hold (breaking (opened 0x2) RH Nil) (Break 1 ∷ []) Held
    ∷ passes (resized (breaking (opened 0x2) RH Nil) (10 ∷ 11 ∷ []) (20 ∷ 21 ∷ []) modified)
    ∷ []
unfolding try_set_end set_end_at set_end_by set_end_stream set_end_to set_end_grown
set_end_beside_an_earlier_break = refl

-- ---- lengths and growth

-- the owner 7 is charged two clusters
abbrev pub limited : ℕ → Volume
limited bytes = record (opened 0x2) { limits = (9, 0) ∷ (7, bytes) ∷ [] }

-- a third cluster takes 12,288 bytes; the limit comes before the space
pub set_end_quota :
    map {B = Outcome} (λ end. try_set_end (limited 12287) 0 1 end) (4097 ∷ 67108865 ∷ [])
    ≡ fails (limited 12287) QuotaExceeded ∷ fails (limited 12287) QuotaExceeded ∷ []
unfolding try_set_end set_end_at set_end_by set_end_stream set_end_to set_end_grown
set_end_quota = refl

-- within the cluster nothing is asked, and nothing of a cut
pub set_end_within_the_cluster :
    map {B = Outcome} (λ end. try_set_end (limited 0) 0 1 end) (6 ∷ 0 ∷ 5 ∷ [])
    ≡ passes (resized (limited 0) (10 ∷ 11 ∷ 12 ∷ 13 ∷ 14 ∷ 0 ∷ []) (20 ∷ 21 ∷ []) modified)
    ∷ passes (resized (limited 0) [] (20 ∷ 21 ∷ []) modified)
    ∷ passes (limited 0)
    ∷ []
unfolding try_set_end set_end_at set_end_by set_end_stream set_end_to set_end_grown
set_end_within_the_cluster = refl

-- the three streams take three of 16,384 clusters, so this one can have 16,382
pub set_end_disk_full :
    map {B = Outcome} (λ end. try_set_end (opened 0x2) 0 1 end) (67100673 ∷ 67108864 ∷ [])
    ≡ fails (opened 0x2) DiskFull ∷ fails (opened 0x2) DiskFull ∷ []
unfolding try_set_end set_end_at set_end_by set_end_stream set_end_to set_end_grown
set_end_disk_full = refl

-- the break comes first: it is waited for, or stays where growth is refused
pub set_end_breaks_before_growth :
    map {B = Outcome} (λ level. try_set_end (cached (limited 0) 15 0 level) 0 1 4097) (RW ∷ RH ∷ R ∷ [])
    ≡ Hold (with_break (limited 0) 15 0 RW Nil) (Break 1 ∷ []) Held
    ∷ fails (with_break (limited 0) 15 0 RH Nil) QuotaExceeded
    ∷ fails (record (limited 0) { ended = told Nil false ∷ [] }) QuotaExceeded
    ∷ []
unfolding try_set_end set_end_at set_end_by set_end_stream set_end_to set_end_grown
set_end_breaks_before_growth = refl

-- ---- locks

-- a lock [2, 3) beside one [1, 3). Exclusive: every other one is in the way, also its own, exclusive or shared
pub lock_exclusive :
    map {B = Outcome} (λ (held : ℕ × Bool). try_lock (locked (opened 0x3) held.0 1 2 held.1) 0 1 2 1 true false)
    ((11, true) ∷ (11, false) ∷ (15, true) ∷ (15, false) ∷ (14, true) ∷ [])
    ≡ fails (locked (opened 0x3) 11 1 2 true) LockNotGranted
    ∷ fails (locked (opened 0x3) 11 1 2 false) LockNotGranted
    ∷ fails (locked (opened 0x3) 15 1 2 true) LockNotGranted
    ∷ fails (locked (opened 0x3) 15 1 2 false) LockNotGranted
    ∷ fails (locked (opened 0x3) 14 1 2 true) LockNotGranted
    ∷ []
unfolding try_lock lock_at lock_by lock_stream lock_range lock_free
lock_exclusive = refl

-- shared: an exclusive one of another handle alone, also of the same client or key
pub lock_shared :
    map {B = Outcome} (λ (held : ℕ × Bool). try_lock (locked (opened 0x3) held.0 1 2 held.1) 0 1 2 1 false false)
    ((11, true) ∷ (11, false) ∷ (15, true) ∷ (15, false) ∷ (14, true) ∷ [])
    ≡ passes (locked_too (opened 0x3) 11 1 2 true 11 2 1 false)
    ∷ passes (locked_too (opened 0x3) 11 1 2 false 11 2 1 false)
    ∷ fails (locked (opened 0x3) 15 1 2 true) LockNotGranted
    ∷ passes (locked_too (opened 0x3) 15 1 2 false 11 2 1 false)
    ∷ fails (locked (opened 0x3) 14 1 2 true) LockNotGranted
    ∷ []
unfolding try_lock lock_at lock_by lock_stream lock_range lock_free
lock_shared = refl

pub lock_of_the_same_key :
    try_lock (locked (opened 0x3) 16 1 2 true) 0 5 2 1 false false ≡ fails (locked (opened 0x3) 16 1 2 true) LockNotGranted
unfolding try_lock lock_at lock_by lock_stream lock_range lock_free
lock_of_the_same_key = refl

-- beside it, before and behind; and the same range of another stream
pub lock_beside :
    try_lock (locked (opened 0x3) 15 1 2 true) 0 1 0 1 true false
    ∷ try_lock (locked (opened 0x3) 15 1 2 true) 0 1 3 9 true true
    ∷ try_lock (locked (opened 0x3) 12 1 2 true) 0 1 1 2 true false
    ∷ try_lock (locked (opened 0x3) 15 1 2 true) 0 2 1 2 true false
    ∷ []
    ≡ passes (locked_too (opened 0x3) 15 1 2 true 11 0 1 true)
    ∷ passes (locked_too (opened 0x3) 15 1 2 true 11 3 9 true)
    ∷ passes (locked_too (opened 0x3) 12 1 2 true 11 1 2 true)
    ∷ passes (locked_too (opened 0x3) 15 1 2 true 12 1 2 true)
    ∷ []
unfolding try_lock lock_at lock_by lock_stream lock_range lock_free
lock_beside = refl

-- an empty range conflicts strictly inside [10, 20), and not at its edges or outside
pub lock_empty :
    map {B = Outcome} (λ place. try_lock (locked (opened 0x3) 15 10 10 true) 0 1 place 0 true false) (9 ∷ 10 ∷ 11 ∷ 15 ∷ 19 ∷ 20 ∷ [])
    ≡ passes (locked_too (opened 0x3) 15 10 10 true 11 9 0 true)
    ∷ passes (locked_too (opened 0x3) 15 10 10 true 11 10 0 true)
    ∷ fails (locked (opened 0x3) 15 10 10 true) LockNotGranted
    ∷ fails (locked (opened 0x3) 15 10 10 true) LockNotGranted
    ∷ fails (locked (opened 0x3) 15 10 10 true) LockNotGranted
    ∷ passes (locked_too (opened 0x3) 15 10 10 true 11 20 0 true)
    ∷ []
unfolding try_lock lock_at lock_by lock_stream lock_range lock_free
lock_empty = refl

-- an empty lock at 15 meets what has a byte on both sides, and no empty range, not even its own
pub lock_around_an_empty_one :
    map {B = Outcome} (λ (range : ℕ × ℕ). try_lock (locked (opened 0x3) 15 15 0 true) 0 1 range.0 range.1 true false)
    ((10, 10) ∷ (14, 2) ∷ (14, 1) ∷ (15, 1) ∷ (15, 0) ∷ [])
    ≡ fails (locked (opened 0x3) 15 15 0 true) LockNotGranted
    ∷ fails (locked (opened 0x3) 15 15 0 true) LockNotGranted
    ∷ passes (locked_too (opened 0x3) 15 15 0 true 11 14 1 true)
    ∷ passes (locked_too (opened 0x3) 15 15 0 true 11 15 1 true)
    ∷ passes (locked_too (opened 0x3) 15 15 0 true 11 15 0 true)
    ∷ []
unfolding try_lock lock_at lock_by lock_stream lock_range lock_free
lock_around_an_empty_one = refl

-- the last byte that can be locked is at 2^64 - 1; of no bytes the place is free
pub lock_topmost :
    map {B = Outcome} (λ (range : ℕ × ℕ). try_lock (opened 0x3) 0 1 range.0 range.1 true false)
    ((18446744073709551615, 1)
    ∷ (18446744073709551615, 2)
    ∷ (18446744073709551615, 0)
    ∷ (1, 18446744073709551615)
    ∷ (2, 18446744073709551615)
    ∷ (18446744073709551615, 18446744073709551615)
    ∷ [])
    ≡ passes (locked (opened 0x3) 11 18446744073709551615 1 true)
    ∷ fails (opened 0x3) InvalidLockRange
    ∷ passes (locked (opened 0x3) 11 18446744073709551615 0 true)
    ∷ passes (locked (opened 0x3) 11 1 18446744073709551615 true)
    ∷ fails (opened 0x3) InvalidLockRange
    ∷ fails (opened 0x3) InvalidLockRange
    ∷ []
unfolding try_lock lock_at lock_by lock_stream lock_range lock_free
lock_topmost = refl

-- the topmost byte against a range that ends past it in whole numbers: no sum comes round to 0
pub lock_against_the_topmost :
    map {B = Outcome} (λ (range : ℕ × ℕ). try_lock (locked (opened 0x3) 15 18446744073709551615 1 true) 0 1 range.0 range.1 false false)
    ((18446744073709551615, 1) ∷ (18446744073709551614, 1) ∷ (18446744073709551614, 2) ∷ (18446744073709551615, 0) ∷ (0, 1) ∷ [])
    ≡ fails (locked (opened 0x3) 15 18446744073709551615 1 true) LockNotGranted
    ∷ passes (locked_too (opened 0x3) 15 18446744073709551615 1 true 11 18446744073709551614 1 false)
    ∷ fails (locked (opened 0x3) 15 18446744073709551615 1 true) LockNotGranted
    ∷ passes (locked_too (opened 0x3) 15 18446744073709551615 1 true 11 18446744073709551615 0 false)
    ∷ passes (locked_too (opened 0x3) 15 18446744073709551615 1 true 11 0 1 false)
    ∷ []
unfolding try_lock lock_at lock_by lock_stream lock_range lock_free
lock_against_the_topmost = refl

-- READ_DATA or WRITE_DATA is enough for either kind, no other right is; they are asked before the range
pub lock_rights :
    map {B = Outcome} (λ (asked : ℕ × ℕ). try_lock (opened asked.0) 0 1 18446744073709551615 asked.1 true false)
    ((0x1, 1) ∷ (0x2, 1) ∷ (0x1F01FC, 1) ∷ (0x4, 2) ∷ (0x1, 2) ∷ [])
    ≡ passes (locked (opened 0x1) 11 18446744073709551615 1 true)
    ∷ passes (locked (opened 0x2) 11 18446744073709551615 1 true)
    ∷ fails (opened 0x1F01FC) AccessDenied
    ∷ fails (opened 0x4) AccessDenied
    ∷ fails (opened 0x1) InvalidLockRange
    ∷ []
unfolding try_lock lock_at lock_by lock_stream lock_range lock_free
lock_rights = refl

-- a directory, before rights and range; a number without a handle; another client's
pub lock_handles :
    map {B = Outcome} (λ handle. try_lock (opened 0x3) 0 handle 18446744073709551615 2 true true) (4 ∷ 3 ∷ 7 ∷ [])
    ≡ fails (opened 0x3) InvalidParameter ∷ fails (opened 0x3) InvalidHandle ∷ fails (opened 0x3) InvalidHandle ∷ []
unfolding try_lock lock_at lock_by lock_stream lock_range lock_free
lock_handles = refl

-- the range is refused before anything is in the way, also where the call would wait
pub lock_range_before_conflict :
    try_lock (cached (locked (opened 0x3) 15 18446744073709551615 1 true) 15 0 RW) 0 1 18446744073709551615 2 true true
    ≡ fails (cached (locked (opened 0x3) 15 18446744073709551615 1 true) 15 0 RW) InvalidLockRange
unfolding try_lock lock_at lock_by lock_stream lock_range lock_free
lock_range_before_conflict = refl

-- ---- locks that wait

-- shared [15, 20) of one handle, exclusive [40, 50) out of the way, exclusive [0, 10) of another handle,
-- one of another stream, and its own shared [8, 9), granted in this order
abbrev pub crowded : Volume
crowded =
    with_locks (opened 0x3)
    ((3, lock_of 15 15 5 false)
    ∷ (4, lock_of 15 40 10 true)
    ∷ (6, lock_of 16 0 10 true)
    ∷ (7, lock_of 12 0 99 true)
    ∷ (9, lock_of 11 8 1 false)
    ∷ [])
    12

-- all that conflict, in the order in which they were granted, its own too; shared, the exclusive one alone
pub lock_waits :
    try_lock crowded 0 1 0 20 true true
    ∷ try_lock crowded 0 1 0 20 false true
    ∷ try_lock crowded 0 1 0 20 true false
    ∷ try_lock crowded 0 1 0 20 false false
    ∷ try_lock crowded 0 1 10 5 true true
    ∷ []
    ≡ Hold crowded (LockOf 3 ∷ LockOf 6 ∷ LockOf 9 ∷ []) LockWait
    ∷ Hold crowded (LockOf 6 ∷ []) LockWait
    ∷ fails crowded LockNotGranted
    ∷ fails crowded LockNotGranted
    ∷ passes (record crowded {
      locks = crowded.locks ++ (13, lock_of 11 10 5 true) ∷ [];
      last_lock = 13;
    })
    ∷ []
unfolding try_lock lock_at lock_by lock_stream lock_range lock_free
lock_waits = refl

-- ---- locks and oplocks

-- W of another key is broken to nothing and waited for, before any lock is asked, whether or not the call waits
pub lock_held :
    map {B = Outcome} (λ (asked : Level × Bool). try_lock (cached (locked (opened 0x3) 15 0 9 true) 15 0 asked.0) 0 1 0 1 true asked.1)
    ((RW, true) ∷ (RWH, false) ∷ [])
    ≡ Hold (with_break (locked (opened 0x3) 15 0 9 true) 15 0 RW Nil) (Break 1 ∷ []) Held
    ∷ Hold (with_break (locked (opened 0x3) 15 0 9 true) 15 0 RWH Nil) (Break 1 ∷ []) Held
    ∷ []
unfolding try_lock lock_at lock_by lock_stream lock_range lock_free
lock_held = refl

-- R ends and RH is broken beside it: the lock is then refused, waits for the locks alone, or is granted
pub lock_beside_a_break :
    try_lock (cached (locked (opened 0x3) 15 0 9 true) 15 0 RH) 0 1 0 1 true false
    ∷ try_lock (cached (locked (opened 0x3) 15 0 9 true) 15 0 RH) 0 1 0 1 true true
    ∷ try_lock (cached (locked (opened 0x3) 15 0 9 true) 15 0 R) 0 1 0 1 false true
    ∷ try_lock (cached (locked (opened 0x3) 15 0 9 true) 15 0 RH) 0 1 9 1 true true
    ∷ []
    ≡ fails (with_break (locked (opened 0x3) 15 0 9 true) 15 0 RH Nil) LockNotGranted
    ∷ Hold (with_break (locked (opened 0x3) 15 0 9 true) 15 0 RH Nil) (LockOf 1 ∷ []) LockWait
    ∷ Hold (record (locked (opened 0x3) 15 0 9 true) { ended = told Nil false ∷ [] }) (LockOf 1 ∷ []) LockWait
    ∷ passes (locked_too (with_break (opened 0x3) 15 0 RH Nil) 15 0 9 true 11 9 1 true)
    ∷ []
unfolding try_lock lock_at lock_by lock_stream lock_range lock_free
lock_beside_a_break = refl

-- its own oplock, one of its key, and one of another stream stay
pub lock_own_oplock :
    try_lock (cached (opened 0x3) 11 0 RWH) 0 1 0 1 true false
    ∷ try_lock (cached (opened 0x3) 16 5 RWH) 0 5 0 1 true false
    ∷ try_lock (cached (opened 0x3) 12 0 RWH) 0 1 0 1 true false
    ∷ []
    ≡ passes (locked (cached (opened 0x3) 11 0 RWH) 11 0 1 true)
    ∷ passes (locked (cached (opened 0x3) 16 5 RWH) 14 0 1 true)
    ∷ passes (locked (cached (opened 0x3) 12 0 RWH) 11 0 1 true)
    ∷ []
unfolding try_lock lock_at lock_by lock_stream lock_range lock_free
lock_own_oplock = refl

-- two oplocks with breaks in progress are waited for in the order in which their handles were opened; one
-- whose break begins now isn't
abbrev pub with_oplocks : Volume → List Oplock → ℕ → Volume
with_oplocks v oplocks last = record v { oplocks = oplocks; last_break = last }

abbrev pub handles_cached : ℕ → ℕ → Level → ℕ → Oplock
handles_cached handle key target number = record { handle = handle; key = key; level = RH; target = Some target; number = number; call = None }

pub lock_held_by_earlier_breaks :
    try_lock (with_oplocks (opened 0x3) (handles_cached 16 5 R 3 ∷ handles_cached 15 0 R 4 ∷ []) 4) 0 1 0 1 true false
    ≡ Hold (with_oplocks (opened 0x3) (handles_cached 16 5 Nil 3 ∷ handles_cached 15 0 Nil 4 ∷ []) 4) (Break 4 ∷ Break 3 ∷ []) Held
unfolding try_lock lock_at lock_by lock_stream lock_range lock_free
lock_held_by_earlier_breaks = refl

pub lock_held_beside_a_break :
    try_lock
    (record (cached (opened 0x3) 16 5 RH) {
      oplocks = record { handle = 16; key = 5; level = RH; target = None; number = 0; call = Some 1 } ∷ handles_cached 15 0 R 1 ∷ [];
      last_break = 1;
    })
    0 1 0 1 true true
    ≡ Hold (record (with_oplocks (opened 0x3) (handles_cached 16 5 Nil 2 ∷ handles_cached 15 0 Nil 1 ∷ []) 2) { ended = told Nil true ∷ [] }) (Break 1 ∷ []) Held
unfolding try_lock lock_at lock_by lock_stream lock_range lock_free
lock_held_beside_a_break = refl

-- ---- unlocks

-- a range that is locked twice, shared over the handle's own exclusive lock: the first goes, then the
-- second, and then there is none
abbrev pub locked_twice : Volume
locked_twice = with_locks (opened 0x0) ((2, lock_of 15 0 9 false) ∷ (3, lock_of 11 0 9 true) ∷ (5, lock_of 11 0 9 false) ∷ []) 5

pub unlock_twice :
    try_unlock locked_twice 0 1 0 9
    ∷ try_unlock (volume_after (try_unlock locked_twice 0 1 0 9)) 0 1 0 9
    ∷ try_unlock (volume_after (try_unlock (volume_after (try_unlock locked_twice 0 1 0 9)) 0 1 0 9)) 0 1 0 9
    ∷ []
    ≡ passes (with_locks (opened 0x0) ((2, lock_of 15 0 9 false) ∷ (5, lock_of 11 0 9 false) ∷ []) 5)
    ∷ passes (with_locks (opened 0x0) ((2, lock_of 15 0 9 false) ∷ []) 5)
    ∷ fails (with_locks (opened 0x0) ((2, lock_of 15 0 9 false) ∷ []) 5) RangeNotLocked
    ∷ []
unfolding try_unlock unlock_at unlock_by unlock_range
unlock_twice = refl

-- exactly the range; an empty one; one past the top, which no lock can have; no right is asked and no oplock broken
pub unlock_ranges :
    map {B = Outcome} (λ (range : ℕ × ℕ). try_unlock (cached (locked (opened 0x0) 11 15 0 true) 15 0 RWH) 0 1 range.0 range.1)
    ((15, 0) ∷ (15, 1) ∷ (14, 1) ∷ (18446744073709551615, 2) ∷ [])
    ≡ passes (with_locks (cached (opened 0x0) 15 0 RWH) [] 1)
    ∷ fails (cached (locked (opened 0x0) 11 15 0 true) 15 0 RWH) RangeNotLocked
    ∷ fails (cached (locked (opened 0x0) 11 15 0 true) 15 0 RWH) RangeNotLocked
    ∷ fails (cached (locked (opened 0x0) 11 15 0 true) 15 0 RWH) RangeNotLocked
    ∷ []
unfolding try_unlock unlock_at unlock_by unlock_range
unlock_ranges = refl

-- another handle's lock stays, also of the same client; a directory; no handle; another client's
pub unlock_handles :
    map {B = Outcome} (λ handle. try_unlock (locked (opened 0x3) 15 0 9 true) 0 handle 0 9) (1 ∷ 5 ∷ 2 ∷ 4 ∷ 3 ∷ 7 ∷ [])
    ≡ fails (locked (opened 0x3) 15 0 9 true) RangeNotLocked
    ∷ fails (locked (opened 0x3) 15 0 9 true) RangeNotLocked
    ∷ fails (locked (opened 0x3) 15 0 9 true) RangeNotLocked
    ∷ fails (locked (opened 0x3) 15 0 9 true) InvalidParameter
    ∷ fails (locked (opened 0x3) 15 0 9 true) InvalidHandle
    ∷ fails (locked (opened 0x3) 15 0 9 true) InvalidHandle
    ∷ []
unfolding try_unlock unlock_at unlock_by unlock_range
unlock_handles = refl

-- ---- one call after another

-- what each of these tries answers, on the volume that the one before left
abbrev pub answers : Volume → List (Volume → Outcome) → List Answer
answers v [] = []
answers v (call ∷ calls) = answer_of (call v) ∷ answers (volume_after (call v)) calls

abbrev pub ended : Status → Answer
ended status = Ended (record { status = status; body = Nothing })

-- empty ranges and the topmost byte, by client 0's handles 1 and 5
pub empty_and_topmost :
    answers (opened 0x3)
    ((λ v. try_lock v 0 1 10 10 true false)
    ∷ (λ v. try_lock v 0 5 10 0 true false)
    ∷ (λ v. try_lock v 0 5 20 0 true false)
    ∷ (λ v. try_lock v 0 5 15 0 true false)
    ∷ (λ v. try_lock v 0 5 18446744073709551615 1 true false)
    ∷ (λ v. try_lock v 0 5 18446744073709551615 2 true false)
    ∷ (λ v. try_unlock v 0 1 10 10)
    ∷ (λ v. try_unlock v 0 1 10 10)
    ∷ [])
    ≡ ended Success
    ∷ ended Success
    ∷ ended Success
    ∷ ended LockNotGranted
    ∷ ended Success
    ∷ ended InvalidLockRange
    ∷ ended Success
    ∷ ended RangeNotLocked
    ∷ []
unfolding try_lock lock_at lock_by lock_stream lock_range lock_free try_unlock unlock_at unlock_by unlock_range
empty_and_topmost = refl

-- a waiting lock [0, 20) of client 1 is tried again as each of its two blockers ends
abbrev pub first_lock : Volume
first_lock = volume_after (try_lock (opened 0x3) 0 1 0 10 true false)

abbrev pub second_lock : Volume
second_lock = volume_after (try_lock first_lock 1 7 15 5 false false)

abbrev pub first_gone : Volume
first_gone = volume_after (try_unlock second_lock 0 1 0 10)

abbrev pub both_gone : Volume
both_gone = without_handle first_gone 16

pub waits_for_two :
    try_lock first_lock 1 1 0 20 true true
    ∷ try_lock second_lock 1 1 0 20 true true
    ∷ try_lock first_gone 1 1 0 20 true true
    ∷ try_lock both_gone 1 1 0 20 true true
    ∷ []
    ≡ Hold (locked (opened 0x3) 11 0 10 true) (LockOf 1 ∷ []) LockWait
    ∷ Hold (locked_too (opened 0x3) 11 0 10 true 16 15 5 false) (LockOf 1 ∷ LockOf 2 ∷ []) LockWait
    ∷ Hold (with_locks (opened 0x3) ((2, lock_of 16 15 5 false) ∷ []) 2) (LockOf 2 ∷ []) LockWait
    ∷ passes (with_locks both_gone ((3, lock_of 15 0 20 true) ∷ []) 3)
    ∷ []
unfolding try_lock lock_at lock_by lock_stream lock_range lock_free try_unlock unlock_at unlock_by unlock_range
waits_for_two = refl

-- a far write, a cut and a new length: the gap and what was regained are zero
pub gap_and_cut :
    answers (opened 0x3)
    ((λ v. try_write v 0 1 (Some 200) (65 ∷ []))
    ∷ (λ v. try_read v 0 1 198 100)
    ∷ (λ v. try_set_end v 0 1 5)
    ∷ (λ v. try_set_end v 0 1 201)
    ∷ (λ v. try_read v 0 1 200 1)
    ∷ (λ v. try_read v 0 1 0 6)
    ∷ (λ v. try_read v 0 1 201 1)
    ∷ [])
    ≡ Ended (record { status = Success; body = Count 1 })
    ∷ Ended (record { status = Success; body = Got (0 ∷ 0 ∷ 65 ∷ []) })
    ∷ ended Success
    ∷ ended Success
    ∷ Ended (record { status = Success; body = Got (0 ∷ []) })
    ∷ Ended (record { status = Success; body = Got (10 ∷ 11 ∷ 12 ∷ 13 ∷ 14 ∷ 0 ∷ []) })
    ∷ ended EndOfFile
    ∷ []
unfolding try_write write_at write_by write_stream write_at_place write_range write_unlocked write_grown write_bytes try_read read_at read_by read_stream read_range read_unlocked read_bytes try_set_end set_end_at set_end_by set_end_stream set_end_to set_end_grown
gap_and_cut = refl

-- a cut of a stream of two clusters whose owner is far above his limit, and back to where it was refused
abbrev pub large : Volume
large = record (limited 0) { streams = streams_with (replicate 4097 1) (20 ∷ 21 ∷ []) }

pub cut_above_the_limit :
    try_set_end large 0 1 2 ≡ passes (resized large (1 ∷ 1 ∷ []) (20 ∷ 21 ∷ []) modified)
unfolding try_set_end set_end_at set_end_by set_end_stream set_end_to set_end_grown
cut_above_the_limit = refl

pub above_the_limit :
    map {B = Answer} (λ end. answer_of (try_set_end large 0 1 end)) (4097 ∷ 8192 ∷ 8193 ∷ [])
    ≡ ended Success ∷ ended Success ∷ ended QuotaExceeded ∷ []
unfolding try_set_end set_end_at set_end_by set_end_stream set_end_to set_end_grown
above_the_limit = refl
