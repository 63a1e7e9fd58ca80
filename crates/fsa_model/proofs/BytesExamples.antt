-- Reads and writes, worked by hand from the rules and shown by computation: what they answer, the whole
-- volume that they leave, the changes that they note, and the breaks for which they wait.
use Rattle.std.specs.Prelude.{◌≡◌, ℕ, Bool, true, false, List, [], ◌∷◌, ◌++◌, map, Option, Some, None, option_map, codes, refl}
use Rattle.std.specs.Fmt.{digits}
use Rattle.fsa_types.specs.CaseTable.{ascii_pairs}
use Rattle.fsa_types.specs.declared.request.Call.{Call}
use Rattle.fsa_types.specs.declared.request.Disposition.TheVariants.{CreateNew, OpenExisting}
use Rattle.fsa_types.specs.declared.request.Level.{Level}
use Rattle.fsa_types.specs.declared.request.Level.TheVariants.{Nil, R, RH, RW, RWH}
use Rattle.fsa_types.specs.declared.request.Request.{Request}
use Rattle.fsa_types.specs.declared.request.Request.TheVariants as request
use Rattle.fsa_types.specs.declared.request.What.TheVariants.{Ask}
use Rattle.fsa_types.specs.declared.reply.Answer.TheVariants as answer
use Rattle.fsa_types.specs.declared.reply.Blocker.TheVariants.{Break}
use Rattle.fsa_types.specs.declared.reply.Body.TheVariants.{Nothing, Got, Count, Broken}
use Rattle.fsa_types.specs.declared.reply.EndOf.{EndOf}
use Rattle.fsa_types.specs.declared.reply.Interim.TheVariants.{Held}
use Rattle.fsa_types.specs.declared.status.Status.{Status}
use Rattle.fsa_types.specs.declared.status.Status.TheVariants.{Success, AccessDenied, InvalidHandle, InvalidDeviceRequest, InvalidParameter, EndOfFile, FileLockConflict, QuotaExceeded, DiskFull}
use Rattle.fsa_model.specs.Close.{try_close, close_at, with_closed, try_leave, with_client_gone}
use Rattle.fsa_model.specs.Growth.{growth_fault}
use Rattle.fsa_model.specs.Open.{try_create, create_at, create_walked, create_named, create_by_link, create_found, create_there, create_in_file, create_stream, create_on_stream, open_stream, open_directory, open_granted, overwrite_existing, open_existing, clashed, create_missing, make_file, make_directory, stopped}
use Rattle.fsa_model.specs.Outcome.{Outcome, Done, Hold, TurnOut}
use Rattle.fsa_model.specs.Read.{try_read, read_at, read_by, read_stream, read_range, read_unlocked, read_bytes}
use Rattle.fsa_model.specs.Schedule.{plain}
use Rattle.fsa_model.specs.Setup.{Script}
use Rattle.fsa_model.specs.Text.{text}
use Rattle.fsa_model.specs.Turn.{turn}
use Rattle.fsa_model.specs.Volume.{File, Link, Stream, Handle, Oplock, Pending, Change, Volume, fresh, root}
use Rattle.fsa_model.specs.Write.{try_write, write_at, write_by, write_stream, write_at_place, write_range, write_unlocked, write_grown, write_bytes}

-- ---- what is there

-- the file 3, HIDDEN, of owner 7
abbrev pub file : File
file = record {
  directory = false;
  attributes = 0x2;
  creation = 1;
  access = 2;
  write = 3;
  change = 4;
  owner = 7;
  dacl = None;
  point = None;
}

-- the same after a write, with HIDDEN and ARCHIVE
abbrev pub written_file : File
written_file = record {
  directory = false;
  attributes = 0x22;
  creation = 1;
  access = 2;
  write = 8;
  change = 8;
  owner = 7;
  dacl = None;
  point = None;
}

abbrev pub link_at : ℕ → List ℕ → ℕ → Link
link_at parent name file = record { parent = parent; name = name; file = file; deleted = false }

abbrev pub stream_at : ℕ → List ℕ → List ℕ → Stream
stream_at file name bytes = record { file = file; name = name; bytes = bytes; deleted = false }

abbrev pub handle_at : ℕ → ℕ → ℕ → Option ℕ → ℕ → ℕ → Handle
handle_at client number link stream access key = record {
  client = client;
  number = number;
  link = link;
  stream = stream;
  access = access;
  share = 0x7;
  key = key;
  delete_on_close = false;
  enumeration = None;
}

-- the streams of the file: the default stream with these bytes, `s` with these, and `e` with none; and
-- one byte of the file 4, which isn't the owner's
abbrev pub streams_with : List ℕ → List ℕ → List (ℕ × Stream)
streams_with bytes named =
    (1, stream_at 3 [] bytes) ∷ (2, stream_at 3 (codes "s") named) ∷ (3, stream_at 3 (codes "e") []) ∷ (4, stream_at 4 [] (9 ∷ [])) ∷ []

-- in the root are the directory 2 `d` with the file 3 `f` in it, and the file 4 `g` of owner 9. Client 0
-- has the default stream of `f` open with this access (1), its streams `s` (2) and `e` (3) to read and
-- write, the directory `d` (4), and the default stream again with the key 5 (5); client 1 has the default
-- stream open (1), and again with the key 5 (7). The clock stands at 8
abbrev pub opened : ℕ → Volume
opened access = record (fresh (record {
  table = ascii_pairs;
  clients = record { name = codes "a"; sids = 7 ∷ [] } ∷ record { name = codes "b"; sids = 9 ∷ [] } ∷ [];
})) {
  files = (1, root) ∷ (2, root) ∷ (3, file) ∷ (4, record file { owner = 9 }) ∷ [];
  links = (1, link_at 1 (codes "d") 2) ∷ (2, link_at 2 (codes "f") 3) ∷ (3, link_at 1 (codes "g") 4) ∷ [];
  streams = streams_with (10 ∷ 11 ∷ 12 ∷ 13 ∷ 14 ∷ []) (20 ∷ 21 ∷ []);
  handles = (11, handle_at 0 1 2 (Some 1) access 0)
      ∷ (12, handle_at 0 2 2 (Some 2) 0x3 0)
      ∷ (13, handle_at 0 3 2 (Some 3) 0x3 0)
      ∷ (14, handle_at 0 4 1 None 0x1 0)
      ∷ (15, handle_at 0 5 2 (Some 1) 0x3 5)
      ∷ (16, handle_at 1 1 2 (Some 1) 0x3 0)
      ∷ (17, handle_at 1 7 2 (Some 1) 0x3 5)
      ∷ [];
  clock = 8;
  last_file = 4;
  last_link = 3;
  last_stream = 4;
  last_handle = 17;
}

-- with a lock of this handle, exclusive or else shared
abbrev pub locked : Volume → ℕ → ℕ → ℕ → Bool → Volume
locked v handle at count exclusive = record v {
  locks = (1, record { handle = handle; at = at; count = count; exclusive = exclusive }) ∷ [];
  last_lock = 1;
}

-- with an oplock of this handle, key and level; its call is client 1's call 2, pending since turn 1
abbrev pub oplock_call : Call
oplock_call = record { client = 1; number = 2; what = Ask (request.Oplock 1 RW) }

abbrev pub oplock_at : ℕ → ℕ → Level → Oplock
oplock_at handle key level = record { handle = handle; key = key; level = level; target = None; number = 0; call = Some 1 }

abbrev pub cached : Volume → ℕ → ℕ → Level → Volume
cached v handle key level = record v {
  oplocks = oplock_at handle key level ∷ [];
  pending = (1, record { call = oplock_call; blockers = [] }) ∷ [];
}

-- that oplock being broken to this target by break 1, its call told so before
abbrev pub breaking : Volume → ℕ → ℕ → Level → Level → Volume
breaking v handle key level target = record v {
  oplocks = record { handle = handle; key = key; level = level; target = Some target; number = 1; call = None } ∷ [];
  last_break = 1;
}

-- that oplock's call told that this level may stay
abbrev pub told : Level → Bool → EndOf
told level ack = record { client = 1; number = 2; reply = record { status = Success; body = Broken level ack } }

-- and a break to that level begun
abbrev pub with_break : Volume → ℕ → ℕ → Level → Level → Volume
with_break v handle key level target = record v {
  oplocks = record { handle = handle; key = key; level = level; target = Some target; number = 1; call = None } ∷ [];
  ended = told target true ∷ [];
  last_break = 1;
}

-- ---- what is answered

abbrev pub fails : Volume → Status → Outcome
fails v status = Done v (record { status = status; body = Nothing })

abbrev pub got : Volume → List ℕ → Outcome
got v bytes = Done v (record { status = Success; body = Got bytes })

abbrev pub counted : Volume → ℕ → Outcome
counted v count = Done v (record { status = Success; body = Count count })

-- client 0's handle reads each of these places and counts
abbrev pub reads : Volume → ℕ → List (ℕ × ℕ) → List Outcome
reads v handle ranges = map (λ range. try_read v 0 handle range.0 range.1) ranges

-- client 0's handle writes one byte 1 at each of these places, or at the end
abbrev pub writes : Volume → ℕ → List (Option ℕ) → List Outcome
writes v handle places = map (λ place. try_write v 0 handle place (1 ∷ [])) places

-- ---- reads

-- up to the end, past it, and of no bytes
pub read_places :
    reads (opened 0x1) 1 ((0, 5) ∷ (3, 1) ∷ (3, 9) ∷ (5, 1) ∷ (6, 1) ∷ (0, 0) ∷ (9, 0) ∷ [])
    ≡ got (opened 0x1) (10 ∷ 11 ∷ 12 ∷ 13 ∷ 14 ∷ [])
    ∷ got (opened 0x1) (13 ∷ [])
    ∷ got (opened 0x1) (13 ∷ 14 ∷ [])
    ∷ fails (opened 0x1) EndOfFile
    ∷ fails (opened 0x1) EndOfFile
    ∷ got (opened 0x1) []
    ∷ got (opened 0x1) []
    ∷ []
unfolding try_read read_at read_by read_stream read_range read_unlocked read_bytes
read_places = refl

-- the largest end is 2^63 - 1, also of a read of no bytes
pub read_ends :
    reads (opened 0x1) 1 ((9223372036854775806, 1) ∷ (9223372036854775807, 1) ∷ (9223372036854775807, 0) ∷ (9223372036854775808, 0) ∷ [])
    ≡ fails (opened 0x1) EndOfFile
    ∷ fails (opened 0x1) InvalidParameter
    ∷ got (opened 0x1) []
    ∷ fails (opened 0x1) InvalidParameter
    ∷ []
unfolding try_read read_at read_by read_stream read_range read_unlocked read_bytes
read_ends = refl

-- without READ_DATA nothing else is asked; EXECUTE doesn't read
pub read_rights :
    reads (opened 0x26) 1 ((0, 1) ∷ (0, 0) ∷ (9223372036854775807, 1) ∷ [])
    ≡ fails (opened 0x26) AccessDenied
    ∷ fails (opened 0x26) AccessDenied
    ∷ fails (opened 0x26) AccessDenied
    ∷ []
unfolding try_read read_at read_by read_stream read_range read_unlocked read_bytes
read_rights = refl

-- a stream without bytes, a directory, a number without a handle, and the number of another client's handle
pub read_handles :
    map {B = Outcome} (λ handle. try_read (opened 0x1) 0 handle 0 1) (2 ∷ 3 ∷ 4 ∷ 6 ∷ 7 ∷ [])
    ≡ got (opened 0x1) (20 ∷ [])
    ∷ fails (opened 0x1) EndOfFile
    ∷ fails (opened 0x1) InvalidDeviceRequest
    ∷ fails (opened 0x1) InvalidHandle
    ∷ fails (opened 0x1) InvalidHandle
    ∷ []
unfolding try_read read_at read_by read_stream read_range read_unlocked read_bytes
read_handles = refl

-- another handle's exclusive lock of the bytes 1 and 2 is met where a byte is shared, and not by no bytes
pub read_locked :
    reads (locked (opened 0x1) 16 1 2 true) 1 ((0, 1) ∷ (0, 2) ∷ (2, 9) ∷ (3, 2) ∷ (1, 0) ∷ [])
    ≡ got (locked (opened 0x1) 16 1 2 true) (10 ∷ [])
    ∷ fails (locked (opened 0x1) 16 1 2 true) FileLockConflict
    ∷ fails (locked (opened 0x1) 16 1 2 true) FileLockConflict
    ∷ got (locked (opened 0x1) 16 1 2 true) (13 ∷ 14 ∷ [])
    ∷ got (locked (opened 0x1) 16 1 2 true) []
    ∷ []
unfolding try_read read_at read_by read_stream read_range read_unlocked read_bytes
read_locked = refl

-- one of its own is not met, nor a shared one, nor one of a handle of another stream
pub read_own_lock :
    map {B = Outcome} (λ (lock : ℕ × Bool). try_read (locked (opened 0x1) lock.0 1 2 lock.1) 0 1 0 5) ((11, true) ∷ (16, false) ∷ (12, true) ∷ (15, true) ∷ [])
    ≡ got (locked (opened 0x1) 11 1 2 true) (10 ∷ 11 ∷ 12 ∷ 13 ∷ 14 ∷ [])
    ∷ got (locked (opened 0x1) 16 1 2 false) (10 ∷ 11 ∷ 12 ∷ 13 ∷ 14 ∷ [])
    ∷ got (locked (opened 0x1) 12 1 2 true) (10 ∷ 11 ∷ 12 ∷ 13 ∷ 14 ∷ [])
    ∷ fails (locked (opened 0x1) 15 1 2 true) FileLockConflict
    ∷ []
unfolding try_read read_at read_by read_stream read_range read_unlocked read_bytes
read_own_lock = refl

-- an exclusive lock of no bytes is met where bytes of the read stand on both sides of it; past the end a
-- lock is asked before the end is
pub read_odd_locks :
    map {B = Outcome} (λ (lock : ℕ × ℕ). try_read (locked (opened 0x1) 16 lock.0 lock.1 true) 0 1 2 9) ((2, 0) ∷ (3, 0) ∷ (11, 0) ∷ (10, 1) ∷ (11, 1) ∷ [])
    ≡ got (locked (opened 0x1) 16 2 0 true) (12 ∷ 13 ∷ 14 ∷ [])
    ∷ fails (locked (opened 0x1) 16 3 0 true) FileLockConflict
    ∷ got (locked (opened 0x1) 16 11 0 true) (12 ∷ 13 ∷ 14 ∷ [])
    ∷ fails (locked (opened 0x1) 16 10 1 true) FileLockConflict
    ∷ got (locked (opened 0x1) 16 11 1 true) (12 ∷ 13 ∷ 14 ∷ [])
    ∷ []
unfolding try_read read_at read_by read_stream read_range read_unlocked read_bytes
read_odd_locks = refl

pub read_locked_past_the_end :
    reads (locked (opened 0x1) 16 5 2 true) 1 ((5, 1) ∷ (7, 1) ∷ [])
    ≡ fails (locked (opened 0x1) 16 5 2 true) FileLockConflict
    ∷ fails (locked (opened 0x1) 16 5 2 true) EndOfFile
    ∷ []
unfolding try_read read_at read_by read_stream read_range read_unlocked read_bytes
read_locked_past_the_end = refl

-- ---- reads and oplocks

-- RW of another key is broken to R, and the read waits; the caller of the oplock is told
pub read_held :
    reads (cached (opened 0x1) 16 0 RW) 1 ((0, 1) ∷ (9, 1) ∷ [])
    ≡ Hold (with_break (opened 0x1) 16 0 RW R) (Break 1 ∷ []) Held
    ∷ Hold (with_break (opened 0x1) 16 0 RW R) (Break 1 ∷ []) Held
    ∷ []
unfolding try_read read_at read_by read_stream read_range read_unlocked read_bytes
read_held = refl

-- what is refused before the break, and a read of no bytes, begin none
pub read_not_held :
    reads (cached (opened 0x1) 16 0 RW) 1 ((0, 0) ∷ (9223372036854775807, 1) ∷ [])
    ≡ got (cached (opened 0x1) 16 0 RW) []
    ∷ fails (cached (opened 0x1) 16 0 RW) InvalidParameter
    ∷ []
unfolding try_read read_at read_by read_stream read_range read_unlocked read_bytes
read_not_held = refl

-- its own oplock doesn't hold it, nor one of its key, nor one of another stream; a key 0 is no key
pub read_own_oplock :
    map {B = Outcome} (λ (oplock : ℕ × ℕ). try_read (cached (opened 0x1) oplock.0 oplock.1 RWH) 0 5 0 1) ((15, 5) ∷ (17, 5) ∷ (12, 0) ∷ [])
    ≡ got (cached (opened 0x1) 15 5 RWH) (10 ∷ [])
    ∷ got (cached (opened 0x1) 17 5 RWH) (10 ∷ [])
    ∷ got (cached (opened 0x1) 12 0 RWH) (10 ∷ [])
    ∷ []
unfolding try_read read_at read_by read_stream read_range read_unlocked read_bytes
read_own_oplock = refl

pub read_own_oplock_without_a_key :
    reads (cached (opened 0x1) 11 0 RW) 1 ((0, 1) ∷ []) ≡ got (cached (opened 0x1) 11 0 RW) (10 ∷ []) ∷ []
unfolding try_read read_at read_by read_stream read_range read_unlocked read_bytes
read_own_oplock_without_a_key = refl

-- without W nothing is lost by a read
pub read_beside_caching :
    map {B = Outcome} (λ level. try_read (cached (opened 0x1) 16 0 level) 0 1 0 1) (R ∷ RH ∷ [])
    ≡ got (cached (opened 0x1) 16 0 R) (10 ∷ []) ∷ got (cached (opened 0x1) 16 0 RH) (10 ∷ []) ∷ []
unfolding try_read read_at read_by read_stream read_range read_unlocked read_bytes
read_beside_caching = refl

-- a break in progress: RWH told RW falls to R and is waited for; told R it is waited for too, as W isn't
-- given up yet; RH told R isn't
pub read_beside_a_break :
    map {B = Outcome} (λ (found : Level × Level). try_read (breaking (opened 0x1) 16 0 found.0 found.1) 0 1 0 1) ((RWH, RW) ∷ (RW, R) ∷ (RH, R) ∷ (RH, Nil) ∷ [])
    ≡ Hold (breaking (opened 0x1) 16 0 RWH R) (Break 1 ∷ []) Held
    ∷ Hold (breaking (opened 0x1) 16 0 RW R) (Break 1 ∷ []) Held
    ∷ got (breaking (opened 0x1) 16 0 RH R) (10 ∷ [])
    ∷ got (breaking (opened 0x1) 16 0 RH Nil) (10 ∷ [])
    ∷ []
unfolding try_read read_at read_by read_stream read_range read_unlocked read_bytes
read_beside_a_break = refl

-- a turn of a held read: the oplock's call ends in it, the read is pending under the turn's number, which
-- is one more than the calls pending or ended before
pub read_turn :
    option_map {U = TurnOut × List (ℕ × Pending) × List EndOf} (λ turned. (turned.out, turned.volume.pending, turned.volume.ended))
    (turn (cached (opened 0x1) 16 0 RW) (record { client = 0; number = 7; what = Ask (request.Read 1 0 1) }) [])
    ≡ Some (
      record { answer = answer.Pending Held; ended = told R true ∷ []; starved = [] },
      (2, record { call = record { client = 0; number = 7; what = Ask (request.Read 1 0 1) }; blockers = Break 1 ∷ [] }) ∷ [],
      told R true ∷ [],
    )
unfolding try_read read_at read_by read_stream read_range read_unlocked read_bytes
read_turn = refl

-- ---- writes

-- the bytes put, the file written, and the change noted
abbrev pub written : Volume → List ℕ → List ℕ → Change → Volume
written v bytes named change = record v {
  files = (1, root) ∷ (2, root) ∷ (3, written_file) ∷ (4, record file { owner = 9 }) ∷ [];
  streams = streams_with bytes named;
  changes = change ∷ [];
}

-- FILE_ACTION_MODIFIED of the file under these bits, and FILE_ACTION_MODIFIED_STREAM of `s`
abbrev pub modified : ℕ → Change
modified bits = record { action = 3; bits = bits; seen_from = (2, codes "f") ∷ (1, codes "d\\f") ∷ [] }

abbrev pub modified_stream : ℕ → Change
modified_stream bits = record { action = 8; bits = bits; seen_from = (2, codes "f:s") ∷ (1, codes "d\\f:s") ∷ [] }

-- a gap is filled with zeros, and the length changes
pub write_gap :
    try_write (opened 0x2) 0 1 (Some 7) (1 ∷ 2 ∷ [])
    ≡ counted (written (opened 0x2) (10 ∷ 11 ∷ 12 ∷ 13 ∷ 14 ∷ 0 ∷ 0 ∷ 1 ∷ 2 ∷ []) (20 ∷ 21 ∷ []) (modified 0x18)) 2
unfolding try_write write_at write_by write_stream write_at_place write_range write_unlocked write_grown write_bytes
write_gap = refl

-- inside, and up to the end, it doesn't
pub write_inside :
    try_write (opened 0x2) 0 1 (Some 1) (1 ∷ 2 ∷ [])
    ≡ counted (written (opened 0x2) (10 ∷ 1 ∷ 2 ∷ 13 ∷ 14 ∷ []) (20 ∷ 21 ∷ []) (modified 0x10)) 2
unfolding try_write write_at write_by write_stream write_at_place write_range write_unlocked write_grown write_bytes
write_inside = refl

pub write_up_to_the_end :
    try_write (opened 0x2) 0 1 (Some 3) (1 ∷ 2 ∷ [])
    ≡ counted (written (opened 0x2) (10 ∷ 11 ∷ 12 ∷ 1 ∷ 2 ∷ []) (20 ∷ 21 ∷ []) (modified 0x10)) 2
unfolding try_write write_at write_by write_stream write_at_place write_range write_unlocked write_grown write_bytes
write_up_to_the_end = refl

-- one byte past the end
pub write_across_the_end :
    try_write (opened 0x2) 0 1 (Some 4) (1 ∷ 2 ∷ [])
    ≡ counted (written (opened 0x2) (10 ∷ 11 ∷ 12 ∷ 13 ∷ 1 ∷ 2 ∷ []) (20 ∷ 21 ∷ []) (modified 0x18)) 2
unfolding try_write write_at write_by write_stream write_at_place write_range write_unlocked write_grown write_bytes
write_across_the_end = refl

-- a named stream has its own action and bits; its file is written all the same
pub write_named_longer :
    try_write (opened 0x2) 0 2 (Some 1) (1 ∷ 2 ∷ [])
    ≡ counted (written (opened 0x2) (10 ∷ 11 ∷ 12 ∷ 13 ∷ 14 ∷ []) (20 ∷ 1 ∷ 2 ∷ []) (modified_stream 0xC00)) 2
unfolding try_write write_at write_by write_stream write_at_place write_range write_unlocked write_grown write_bytes
write_named_longer = refl

pub write_named_inside :
    try_write (opened 0x2) 0 2 (Some 0) (1 ∷ 2 ∷ [])
    ≡ counted (written (opened 0x2) (10 ∷ 11 ∷ 12 ∷ 13 ∷ 14 ∷ []) (1 ∷ 2 ∷ []) (modified_stream 0x800)) 2
unfolding try_write write_at write_by write_stream write_at_place write_range write_unlocked write_grown write_bytes
write_named_inside = refl

-- APPEND_DATA alone writes at the end and at no place, not even at that of the end; WRITE_DATA at both
pub write_appends :
    writes (opened 0x4) 1 (None ∷ Some 5 ∷ Some 0 ∷ [])
    ≡ counted (written (opened 0x4) (10 ∷ 11 ∷ 12 ∷ 13 ∷ 14 ∷ 1 ∷ []) (20 ∷ 21 ∷ []) (modified 0x18)) 1
    ∷ fails (opened 0x4) AccessDenied
    ∷ fails (opened 0x4) AccessDenied
    ∷ []
unfolding try_write write_at write_by write_stream write_at_place write_range write_unlocked write_grown write_bytes
write_appends = refl

pub write_at_the_end :
    writes (opened 0x2) 1 (None ∷ Some 5 ∷ [])
    ≡ counted (written (opened 0x2) (10 ∷ 11 ∷ 12 ∷ 13 ∷ 14 ∷ 1 ∷ []) (20 ∷ 21 ∷ []) (modified 0x18)) 1
    ∷ counted (written (opened 0x2) (10 ∷ 11 ∷ 12 ∷ 13 ∷ 14 ∷ 1 ∷ []) (20 ∷ 21 ∷ []) (modified 0x18)) 1
    ∷ []
unfolding try_write write_at write_by write_stream write_at_place write_range write_unlocked write_grown write_bytes
write_at_the_end = refl

-- without both nothing else is asked
pub write_rights :
    writes (opened 0x121) 1 (None ∷ Some 0 ∷ Some 9223372036854775807 ∷ [])
    ≡ fails (opened 0x121) AccessDenied ∷ fails (opened 0x121) AccessDenied ∷ fails (opened 0x121) AccessDenied ∷ []
unfolding try_write write_at write_by write_stream write_at_place write_range write_unlocked write_grown write_bytes
write_rights = refl

-- a write of no bytes asks the rights alone; it begins no break, and changes and notes nothing
pub write_empty :
    map {B = Outcome} (λ (asked : ℕ × Option ℕ). try_write (cached (opened asked.0) 16 0 RWH) 0 1 asked.1 [])
    ((0x1, Some 0) ∷ (0x2, Some 0) ∷ (0x2, None) ∷ (0x2, Some 9223372036854775808) ∷ (0x4, None) ∷ (0x4, Some 0) ∷ [])
    ≡ fails (cached (opened 0x1) 16 0 RWH) AccessDenied
    ∷ counted (cached (opened 0x2) 16 0 RWH) 0
    ∷ counted (cached (opened 0x2) 16 0 RWH) 0
    ∷ counted (cached (opened 0x2) 16 0 RWH) 0
    ∷ counted (cached (opened 0x4) 16 0 RWH) 0
    ∷ fails (cached (opened 0x4) 16 0 RWH) AccessDenied
    ∷ []
unfolding try_write write_at write_by write_stream write_at_place write_range write_unlocked write_grown write_bytes
write_empty = refl

-- an end above 2^63 - 1 is refused; one at it asks for more than the volume has
pub write_ends :
    writes (opened 0x2) 1 (Some 9223372036854775808 ∷ Some 9223372036854775807 ∷ Some 9223372036854775806 ∷ [])
    ≡ fails (opened 0x2) InvalidParameter ∷ fails (opened 0x2) InvalidParameter ∷ fails (opened 0x2) DiskFull ∷ []
unfolding try_write write_at write_by write_stream write_at_place write_range write_unlocked write_grown write_bytes
write_ends = refl

-- a directory, a number without a handle, and the number of another client's handle; no bytes make no difference
pub write_handles :
    map {B = Outcome} (λ handle. try_write (opened 0x2) 0 handle (Some 0) []) (4 ∷ 6 ∷ 7 ∷ [])
    ≡ fails (opened 0x2) InvalidDeviceRequest ∷ fails (opened 0x2) InvalidHandle ∷ fails (opened 0x2) InvalidHandle ∷ []
unfolding try_write write_at write_by write_stream write_at_place write_range write_unlocked write_grown write_bytes
write_handles = refl

-- ---- writes and locks

-- a shared lock is met, also its owner's own; an exclusive one where it is another's
pub write_locked :
    map {B = Outcome} (λ (lock : ℕ × Bool). try_write (locked (opened 0x2) lock.0 1 2 lock.1) 0 1 (Some 2) (1 ∷ [])) ((11, false) ∷ (16, false) ∷ (16, true) ∷ (15, true) ∷ [])
    ≡ fails (locked (opened 0x2) 11 1 2 false) FileLockConflict
    ∷ fails (locked (opened 0x2) 16 1 2 false) FileLockConflict
    ∷ fails (locked (opened 0x2) 16 1 2 true) FileLockConflict
    ∷ fails (locked (opened 0x2) 15 1 2 true) FileLockConflict
    ∷ []
unfolding try_write write_at write_by write_stream write_at_place write_range write_unlocked write_grown write_bytes
write_locked = refl

-- its own exclusive one isn't, nor a lock that ends where the write begins, nor one of another stream
pub write_not_locked :
    map {B = Outcome} (λ (lock : ℕ × ℕ). try_write (locked (opened 0x2) lock.0 lock.1 2 true) 0 1 (Some 2) (1 ∷ [])) ((11, 1) ∷ (16, 0) ∷ (16, 3) ∷ (12, 1) ∷ [])
    ≡ counted (written (locked (opened 0x2) 11 1 2 true) (10 ∷ 11 ∷ 1 ∷ 13 ∷ 14 ∷ []) (20 ∷ 21 ∷ []) (modified 0x10)) 1
    ∷ counted (written (locked (opened 0x2) 16 0 2 true) (10 ∷ 11 ∷ 1 ∷ 13 ∷ 14 ∷ []) (20 ∷ 21 ∷ []) (modified 0x10)) 1
    ∷ counted (written (locked (opened 0x2) 16 3 2 true) (10 ∷ 11 ∷ 1 ∷ 13 ∷ 14 ∷ []) (20 ∷ 21 ∷ []) (modified 0x10)) 1
    ∷ counted (written (locked (opened 0x2) 12 1 2 true) (10 ∷ 11 ∷ 1 ∷ 13 ∷ 14 ∷ []) (20 ∷ 21 ∷ []) (modified 0x10)) 1
    ∷ []
unfolding try_write write_at write_by write_stream write_at_place write_range write_unlocked write_grown write_bytes
write_not_locked = refl

-- a gap isn't written, so a lock in it isn't met; at the end the range begins at the length
pub write_past_a_lock :
    writes (locked (opened 0x2) 16 5 1 true) 1 (Some 6 ∷ None ∷ [])
    ≡ counted (written (locked (opened 0x2) 16 5 1 true) (10 ∷ 11 ∷ 12 ∷ 13 ∷ 14 ∷ 0 ∷ 1 ∷ []) (20 ∷ 21 ∷ []) (modified 0x18)) 1
    ∷ fails (locked (opened 0x2) 16 5 1 true) FileLockConflict
    ∷ []
unfolding try_write write_at write_by write_stream write_at_place write_range write_unlocked write_grown write_bytes
write_past_a_lock = refl

-- ---- growth

-- the owner 7 of the file is charged two clusters; a third takes him to 12,288 bytes
abbrev pub limited : ℕ → Volume
limited bytes = record (opened 0x2) { limits = (9, 0) ∷ (7, bytes) ∷ [] }

-- the first byte of `e` takes a cluster
pub write_quota :
    map {B = Outcome} (λ limit. try_write (limited limit) 0 3 (Some 0) (1 ∷ [])) (12287 ∷ 0 ∷ [])
    ≡ fails (limited 12287) QuotaExceeded ∷ fails (limited 0) QuotaExceeded ∷ []
unfolding try_write write_at write_by write_stream write_at_place write_range write_unlocked write_grown write_bytes
write_quota = refl

pub write_within_the_quota :
    try_write (limited 12288) 0 3 (Some 0) (1 ∷ [])
    ≡ counted (record (limited 12288) {
      files = (1, root) ∷ (2, root) ∷ (3, written_file) ∷ (4, record file { owner = 9 }) ∷ [];
      streams = (1, stream_at 3 [] (10 ∷ 11 ∷ 12 ∷ 13 ∷ 14 ∷ [])) ∷ (2, stream_at 3 (codes "s") (20 ∷ 21 ∷ [])) ∷ (3, stream_at 3 (codes "e") (1 ∷ [])) ∷ (4, stream_at 4 [] (9 ∷ [])) ∷ [];
      changes = record { action = 8; bits = 0xC00; seen_from = (2, codes "f:e") ∷ (1, codes "d\\f:e") ∷ [] } ∷ [];
    }) 1
unfolding try_write write_at write_by write_stream write_at_place write_range write_unlocked write_grown write_bytes
write_within_the_quota = refl

-- within the cluster nothing is asked, also where the charge is above the limit
pub write_within_the_cluster :
    writes (limited 0) 1 (None ∷ [])
    ≡ counted (written (limited 0) (10 ∷ 11 ∷ 12 ∷ 13 ∷ 14 ∷ 1 ∷ []) (20 ∷ 21 ∷ []) (modified 0x18)) 1 ∷ []
unfolding try_write write_at write_by write_stream write_at_place write_range write_unlocked write_grown write_bytes
write_within_the_cluster = refl

-- the limit is asked before the space of the volume, and a lock before both
pub write_quota_first :
    writes (limited 12287) 1 (Some 4096 ∷ Some 67108864 ∷ [])
    ≡ fails (limited 12287) QuotaExceeded ∷ fails (limited 12287) QuotaExceeded ∷ []
unfolding try_write write_at write_by write_stream write_at_place write_range write_unlocked write_grown write_bytes
write_quota_first = refl

pub write_locked_first :
    writes (locked (limited 0) 16 4096 1 true) 1 (Some 4096 ∷ [])
    ≡ fails (locked (limited 0) 16 4096 1 true) FileLockConflict ∷ []
unfolding try_write write_at write_by write_stream write_at_place write_range write_unlocked write_grown write_bytes
write_locked_first = refl

-- the volume has 16,384 clusters, and the other two streams with bytes take two of them
pub write_disk_full :
    writes (opened 0x2) 1 (Some 67100672 ∷ Some 67108864 ∷ [])
    ≡ fails (opened 0x2) DiskFull ∷ fails (opened 0x2) DiskFull ∷ []
unfolding try_write write_at write_by write_stream write_at_place write_range write_unlocked write_grown write_bytes
write_disk_full = refl

-- how long the default stream may become: up to 4,096 bytes at no limit; up to two clusters at 12,288 and
-- at 16,383; and up to all that the volume has left
pub growth :
    map {B = Option Status} (λ (asked : ℕ × ℕ). growth_fault (limited asked.0) 1 asked.1)
    ((0, 4096) ∷ (0, 4097) ∷ (12288, 4097) ∷ (12288, 8192) ∷ (12288, 8193) ∷ (16383, 8193) ∷ (16384, 8193) ∷ [])
    ≡ None ∷ Some QuotaExceeded ∷ None ∷ None ∷ Some QuotaExceeded ∷ Some QuotaExceeded ∷ None ∷ []
growth = refl

pub growth_of_the_volume :
    map {B = Option Status} (λ bytes. growth_fault (opened 0x2) 1 bytes) (0 ∷ 67100672 ∷ 67100673 ∷ [])
    ≡ None ∷ None ∷ Some DiskFull ∷ []
growth_of_the_volume = refl

-- ---- writes and oplocks

-- W of another key is broken to nothing and waited for
pub write_held :
    map {B = Outcome} (λ level. try_write (cached (opened 0x2) 16 0 level) 0 1 (Some 0) (1 ∷ [])) (RW ∷ RWH ∷ [])
    ≡ Hold (with_break (opened 0x2) 16 0 RW Nil) (Break 1 ∷ []) Held
    ∷ Hold (with_break (opened 0x2) 16 0 RWH Nil) (Break 1 ∷ []) Held
    ∷ []
unfolding try_write write_at write_by write_stream write_at_place write_range write_unlocked write_grown write_bytes
write_held = refl

-- what is refused before the break begins none; what would be refused after it is held all the same
pub write_not_held :
    map {B = Outcome} (λ access. try_write (cached (opened access) 16 0 RW) 0 1 (Some 9223372036854775807) (1 ∷ [])) (0x1 ∷ 0x2 ∷ [])
    ≡ fails (cached (opened 0x1) 16 0 RW) AccessDenied ∷ fails (cached (opened 0x2) 16 0 RW) InvalidParameter ∷ []
unfolding try_write write_at write_by write_stream write_at_place write_range write_unlocked write_grown write_bytes
write_not_held = refl

pub write_held_before_growth :
    writes (cached (limited 0) 16 0 RW) 1 (Some 4096 ∷ []) ≡ Hold (with_break (limited 0) 16 0 RW Nil) (Break 1 ∷ []) Held ∷ []
unfolding try_write write_at write_by write_stream write_at_place write_range write_unlocked write_grown write_bytes
write_held_before_growth = refl

-- R ends and RH is broken to nothing, and the write goes on beside it
pub write_beside_a_break :
    map {B = Outcome} (λ level. try_write (cached (opened 0x2) 16 0 level) 0 1 (Some 0) (1 ∷ [])) (R ∷ RH ∷ [])
    ≡ counted (written (record (opened 0x2) { ended = told Nil false ∷ [] }) (1 ∷ 11 ∷ 12 ∷ 13 ∷ 14 ∷ []) (20 ∷ 21 ∷ []) (modified 0x10)) 1
    ∷ counted (written (with_break (opened 0x2) 16 0 RH Nil) (1 ∷ 11 ∷ 12 ∷ 13 ∷ 14 ∷ []) (20 ∷ 21 ∷ []) (modified 0x10)) 1
    ∷ []
unfolding try_write write_at write_by write_stream write_at_place write_range write_unlocked write_grown write_bytes
write_beside_a_break = refl

-- a refusal after it leaves the break and nothing else
pub write_refused_beside_a_break :
    writes (cached (limited 0) 16 0 RH) 1 (Some 4096 ∷ []) ≡ fails (with_break (limited 0) 16 0 RH Nil) QuotaExceeded ∷ []
unfolding try_write write_at write_by write_stream write_at_place write_range write_unlocked write_grown write_bytes
write_refused_beside_a_break = refl

pub write_locked_beside_a_break :
    writes (cached (locked (opened 0x2) 16 0 1 false) 16 0 R) 1 (Some 0 ∷ [])
    ≡ fails (record (locked (opened 0x2) 16 0 1 false) { ended = told Nil false ∷ [] }) FileLockConflict ∷ []
unfolding try_write write_at write_by write_stream write_at_place write_range write_unlocked write_grown write_bytes
write_locked_beside_a_break = refl

-- a break in progress to R is lowered to nothing and waited for, as its holder may still answer R; one to
-- nothing isn't waited for
pub write_beside_an_earlier_break :
    map {B = Outcome} (λ target. try_write (breaking (opened 0x2) 16 0 RH target) 0 1 (Some 0) (1 ∷ [])) (R ∷ Nil ∷ [])
    ≡ Hold (breaking (opened 0x2) 16 0 RH Nil) (Break 1 ∷ []) Held
    ∷ counted (written (breaking (opened 0x2) 16 0 RH Nil) (1 ∷ 11 ∷ 12 ∷ 13 ∷ 14 ∷ []) (20 ∷ 21 ∷ []) (modified 0x10)) 1
    ∷ []
unfolding try_write write_at write_by write_stream write_at_place write_range write_unlocked write_grown write_bytes
write_beside_an_earlier_break = refl

-- an oplock of its key stays as it is
pub write_own_oplock :
    writes (cached (opened 0x2) 17 5 RWH) 5 (Some 0 ∷ [])
    ≡ counted (written (cached (opened 0x2) 17 5 RWH) (1 ∷ 11 ∷ 12 ∷ 13 ∷ 14 ∷ []) (20 ∷ 21 ∷ []) (modified 0x10)) 1 ∷ []
unfolding try_write write_at write_by write_stream write_at_place write_range write_unlocked write_grown write_bytes
write_own_oplock = refl

-- ---- a whole run

-- a read at the end and past it, one of no bytes, and writes at the largest places; one of them at the end
-- of a file that is opened to append alone
abbrev pub client_call : ℕ → Request → Call
client_call number asked = record { client = 0; number = number; what = Ask asked }

abbrev pub lines : List Call
lines =
    client_call 1 (request.Create (codes "\\A.txt") 0x3 0x7 CreateNew 0x0 0x0 0)
    ∷ client_call 2 (request.Write 1 (Some 0) (codes "hello"))
    ∷ client_call 3 (request.Read 1 5 1)
    ∷ client_call 4 (request.Read 1 6 1)
    ∷ client_call 5 (request.Read 1 5 0)
    ∷ client_call 6 (request.Write 1 (Some 9223372036854775808) (0 ∷ []))
    ∷ client_call 7 (request.Write 1 (Some 9223372036854775807) (0 ∷ []))
    ∷ client_call 8 (request.Write 1 (Some 9223372036854775806) (0 ∷ []))
    ∷ client_call 9 (request.Write 1 (Some 67108864) (0 ∷ []))
    ∷ client_call 10 (request.Create (codes "\\a.TXT") 0x4 0x7 OpenExisting 0x0 0x0 0)
    ∷ client_call 11 (request.Write 10 (Some 5) (codes "!"))
    ∷ client_call 12 (request.Write 10 None (codes "!"))
    ∷ client_call 13 (request.Read 10 0 9)
    ∷ client_call 14 (request.Read 1 4 9)
    ∷ []

abbrev pub one_client : Script
one_client = record { setup = record { table = ascii_pairs; clients = record { name = codes "a"; sids = 7 ∷ [] } ∷ [] }; lines = lines }

pub run_of_reads_and_writes :
    text one_client (plain one_client)
    ≡ codes "> a 1 create\na 1 SUCCESS created\n> a 2 write\na 2 SUCCESS 5\n"
    ++ codes "> a 3 read\na 3 END_OF_FILE\n> a 4 read\na 4 END_OF_FILE\n> a 5 read\na 5 SUCCESS x\n"
    ++ codes "> a 6 write\na 6 INVALID_PARAMETER\n> a 7 write\na 7 INVALID_PARAMETER\n> a 8 write\na 8 DISK_FULL\n> a 9 write\na 9 DISK_FULL\n"
    ++ codes "> a 10 create\na 10 SUCCESS opened\n> a 11 write\na 11 ACCESS_DENIED\n> a 12 write\na 12 SUCCESS 1\n"
    ++ codes "> a 13 read\na 13 ACCESS_DENIED\n> a 14 read\na 14 SUCCESS x6f21\n> a 15 leave\na 15 SUCCESS\nend 15\n"
unfolding digits try_create create_at create_walked create_named create_by_link create_found create_there create_in_file create_stream create_on_stream open_stream open_directory open_granted overwrite_existing open_existing clashed create_missing make_file make_directory stopped try_read read_at read_by read_stream read_range read_unlocked read_bytes try_write write_at write_by write_stream write_at_place write_range write_unlocked write_grown write_bytes try_close close_at with_closed try_leave with_client_gone
run_of_reads_and_writes = refl
