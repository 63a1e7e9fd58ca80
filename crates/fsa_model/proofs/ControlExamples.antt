-- Reparse points and quotas, worked by hand from the rules and shown by computation: what is refused and in which
-- order, the whole volume that is left, what is noted, the bytes that are given, and whole runs.
use Rattle.std.specs.Prelude.{◌≡◌, ℕ, Bool, true, false, List, [], ◌∷◌, ◌++◌, map, Option, Some, None, codes, option_map, replicate, refl}
use Rattle.std.specs.Fmt.{digits}
use Rattle.fsa_types.specs.CaseTable.{ascii_pairs}
use Rattle.fsa_types.specs.Status.{status_name}
use Rattle.fsa_types.specs.declared.reply.Action.TheVariants.{Created, Opened as WasOpened}
use Rattle.fsa_types.specs.declared.reply.Answer.{Answer}
use Rattle.fsa_types.specs.declared.reply.Answer.TheVariants.{Ended, Pending}
use Rattle.fsa_types.specs.declared.reply.Body.{Body}
use Rattle.fsa_types.specs.declared.reply.Body.TheVariants.{Nothing, Opened, Got, Stopped, Quota}
use Rattle.fsa_types.specs.declared.reply.Reply.{Reply}
use Rattle.fsa_types.specs.declared.request.Disposition.TheVariants.{CreateNew, OpenExisting}
use Rattle.fsa_types.specs.declared.request.Request.{Request}
use Rattle.fsa_types.specs.declared.request.Request.TheVariants as request
use Rattle.fsa_types.specs.declared.request.What.TheVariants.{Ask}
use Rattle.fsa_types.specs.declared.status.Status.{Status}
use Rattle.fsa_types.specs.declared.status.Status.TheVariants.{Success, InvalidHandle, InvalidParameter, AccessDenied, BufferOverflow, BufferTooSmall, DirectoryNotEmpty, IoReparseDataInvalid, IoReparseTagInvalid, IoReparseTagMismatch, NotAReparsePoint, StoppedOnSymlink}
use Rattle.fsa_model.specs.History.{HistoryEntry, run}
use Rattle.fsa_model.specs.Open.{try_create, create_at, create_walked, create_named, create_by_link, create_found, create_there, create_in_file, create_stream, create_on_stream, open_stream, open_directory, open_granted, overwrite_existing, open_existing, clashed, create_missing, make_file, make_directory, stopped}
use Rattle.fsa_model.specs.Outcome.{Outcome, Done}
use Rattle.fsa_model.specs.Quota.{try_set_quota, try_query_quota}
use Rattle.fsa_model.specs.ReparsePoints.{try_set_reparse, set_reparse_at, set_reparse_by, set_buffer, set_point, try_get_reparse, get_reparse_at, get_reparse_by, get_reparse_of, get_point, try_delete_reparse, delete_reparse_at, delete_reparse_by, delete_reparse_of, remove_point}
use Rattle.fsa_model.specs.Setup.{Setup}
use Rattle.fsa_model.specs.Text.{body_text}
use Rattle.fsa_model.specs.Volume.{Change, File, Link, Stream, Handle, Volume, fresh, root}
use Rattle.fsa_model.specs.Write.{try_write, write_at, write_by, write_stream, write_at_place, write_range, write_unlocked, write_grown, write_bytes}

-- ---- what is there

-- a reparse point, or none
abbrev pub Point : Type 0
Point = Option (ℕ × List ℕ)

-- a file or directory of owner 7 with this point
abbrev pub file_at : Bool → Point → File
file_at directory point = record {
  directory = directory;
  attributes = 0x1;
  creation = 1;
  access = 2;
  write = 3;
  change = 4;
  owner = 7;
  dacl = None;
  point = point;
}

abbrev pub link_at : ℕ → List ℕ → ℕ → Bool → Link
link_at parent name file deleted = record { parent = parent; name = name; file = file; deleted = deleted }

abbrev pub stream_at : ℕ → List ℕ → List ℕ → Bool → Stream
stream_at file name bytes deleted = record { file = file; name = name; bytes = bytes; deleted = deleted }

abbrev pub handle_at : ℕ → ℕ → ℕ → Option ℕ → ℕ → Handle
handle_at client number link stream access = record {
  client = client;
  number = number;
  link = link;
  stream = stream;
  access = access;
  share = 0x7;
  key = 0;
  delete_on_close = false;
  enumeration = None;
}

-- in the root are the directory 2 `d`, in which is the file 3 `f`; the file 4 `p`; the directory 5 `m`, in which is the
-- file 3 again as `x`, which is marked; and the directory 6 `e`, in which is nothing. 3, 6 and 4 have these points. 3 has
-- 4,097 bytes and in its stream `s`, which is marked, one; 4 has none. Client 0 has `f` open with this access (1), `x` (2)
-- and `e` (6) with WRITE_ATTRIBUTES, the stream `s` (3) and `d` (4) with WRITE_DATA, `m` (5), the root (7) and `p` (8) with
-- both, and `p` with all rights but these (9). Client 1 has `p` (1) and the root (2) open without a right. Client 2
-- has the SID 0
abbrev pub volume : ℕ → Point → Point → Point → List Change → List (ℕ × ℕ) → Volume
volume access of_f of_e of_p changes limits = record (fresh (record {
  table = ascii_pairs;
  clients = record { name = codes "a"; sids = 7 ∷ 8 ∷ [] } ∷ record { name = codes "b"; sids = 9 ∷ [] } ∷ record { name = codes "s"; sids = 5 ∷ 0 ∷ [] } ∷ [];
})) {
  files = (1, root)
      ∷ (2, file_at true None)
      ∷ (3, file_at false of_f)
      ∷ (4, file_at false of_p)
      ∷ (5, file_at true None)
      ∷ (6, file_at true of_e)
      ∷ [];
  links = (1, link_at 1 (codes "d") 2 false)
      ∷ (2, link_at 2 (codes "f") 3 false)
      ∷ (3, link_at 1 (codes "p") 4 false)
      ∷ (4, link_at 5 (codes "x") 3 true)
      ∷ (5, link_at 1 (codes "m") 5 false)
      ∷ (6, link_at 1 (codes "e") 6 false)
      ∷ [];
  streams = (1, stream_at 3 [] (replicate 4097 1) false)
      ∷ (2, stream_at 3 (codes "s") (1 ∷ []) true)
      ∷ (3, stream_at 4 [] [] false)
      ∷ [];
  handles = (11, handle_at 0 1 2 (Some 1) access)
      ∷ (12, handle_at 0 2 4 (Some 1) 0x100)
      ∷ (13, handle_at 0 3 2 (Some 2) 0x2)
      ∷ (14, handle_at 0 4 1 None 0x2)
      ∷ (15, handle_at 0 5 5 None 0x102)
      ∷ (16, handle_at 0 6 6 None 0x100)
      ∷ (17, handle_at 0 7 0 None 0x102)
      ∷ (18, handle_at 0 8 3 (Some 3) 0x102)
      ∷ (19, handle_at 0 9 3 (Some 3) 0x1F00FD)
      ∷ (20, handle_at 1 1 3 (Some 3) 0x0)
      ∷ (21, handle_at 1 2 0 None 0x0)
      ∷ [];
  changes = changes;
  limits = limits;
  clock = 99;
  last_file = 6;
  last_link = 6;
  last_stream = 3;
  last_handle = 21;
}

-- `p` is a symbolic link with two bytes
abbrev pub symbolic_link : Point
symbolic_link = Some (0xA000000C, 0x41 ∷ 0x00 ∷ [])

-- before the try, with this access of client 0's handle 1
abbrev pub before : ℕ → Volume
before access = volume access None None symbolic_link [] []

abbrev pub ends : Volume → Status → Outcome
ends v status = Done v (record { status = status; body = Nothing })

abbrev pub gives : Status → List ℕ → Outcome
gives status bytes = Done (before 0x2) (record { status = status; body = Got bytes })

-- FILE_ACTION_MODIFIED with FILE_NOTIFY_CHANGE_ATTRIBUTES
abbrev pub noted : List (ℕ × List ℕ) → List Change
noted seen_from = record { action = 3; bits = 0x4; seen_from = seen_from } ∷ []

abbrev pub of_f : List (ℕ × List ℕ)
of_f = (2, codes "f") ∷ (1, codes "d\\f") ∷ []

-- a buffer of this tag and these bytes, after the length of its data and a reserved number
abbrev pub buffer : List ℕ → List ℕ → List ℕ → List ℕ
buffer tag len content = tag ++ len ++ 0 ∷ 0 ∷ content

-- the tag of symbolic links, another, the reserved ones, and some without the highest bit
abbrev pub symlink : List ℕ
symlink = 0x0C ∷ 0x00 ∷ 0x00 ∷ 0xA0 ∷ []

abbrev pub other : List ℕ
other = 0x0D ∷ 0x00 ∷ 0x00 ∷ 0xA0 ∷ []

abbrev pub tag_0 : List ℕ
tag_0 = 0 ∷ 0 ∷ 0 ∷ 0 ∷ []

abbrev pub tag_1 : List ℕ
tag_1 = 1 ∷ 0 ∷ 0 ∷ 0 ∷ []

abbrev pub tag_2 : List ℕ
tag_2 = 2 ∷ 0 ∷ 0 ∷ 0 ∷ []

abbrev pub largest_other : List ℕ
largest_other = 0xFF ∷ 0xFF ∷ 0xFF ∷ 0x7F ∷ []

abbrev pub least : List ℕ
least = 0 ∷ 0 ∷ 0 ∷ 0x80 ∷ []

-- a buffer of this tag that is right, with one byte of data
abbrev pub one_byte : List ℕ → List ℕ
one_byte tag = buffer tag (1 ∷ 0 ∷ []) (5 ∷ [])

-- client 0 sets this by handle 1
abbrev pub sets : List (List ℕ) → List Outcome
sets buffers = map {B = Outcome} (λ bytes. try_set_reparse (before 0x2) 0 1 bytes) buffers

-- ---- a point that isn't set

-- a number that is none of the client's: no call's, a handle's own, and that of another client's handle; nothing
-- else is asked before it
pub set_without_handle :
    try_set_reparse (before 0x0) 0 10 [] ∷ try_set_reparse (before 0x0) 0 18 (one_byte symlink) ∷ try_set_reparse (before 0x0) 0 0 (one_byte symlink) ∷ try_set_reparse (before 0x0) 1 3 [] ∷ []
    ≡ replicate 4 (ends (before 0x0) InvalidHandle)
unfolding try_set_reparse set_reparse_at set_reparse_by set_buffer set_point
set_without_handle = refl

-- without WRITE_DATA and WRITE_ATTRIBUTES, where all else is wrong too: no buffer, the root, another tag
pub set_without_right :
    try_set_reparse (before 0x1F00FD) 0 1 []
    ∷ try_set_reparse (before 0x4) 0 1 (one_byte symlink)
    ∷ try_set_reparse (before 0x2) 1 2 []
    ∷ try_set_reparse (before 0x2) 0 9 (one_byte other)
    ∷ []
    ≡ ends (before 0x1F00FD) AccessDenied
    ∷ ends (before 0x4) AccessDenied
    ∷ ends (before 0x2) AccessDenied
    ∷ ends (before 0x2) AccessDenied
    ∷ []
unfolding try_set_reparse set_reparse_at set_reparse_by set_buffer set_point
set_without_right = refl

-- the root, whatever the buffer is
pub set_on_root :
    try_set_reparse (before 0x2) 0 7 (one_byte symlink) ∷ try_set_reparse (before 0x2) 0 7 [] ∷ try_set_reparse (before 0x2) 0 7 (one_byte tag_0) ∷ []
    ≡ replicate 3 (ends (before 0x2) InvalidParameter)
unfolding try_set_reparse set_reparse_at set_reparse_by set_buffer set_point
set_on_root = refl

-- under 8 bytes; a length that is one more, one less, or has its bytes the other way round; also where the tag is
-- wrong, the directory isn't empty, or another tag is there
pub set_wrong_data :
    sets ([]
    ∷ replicate 7 0x80
    ∷ (symlink ++ 0 ∷ 0 ∷ 0 ∷ [])
    ∷ buffer symlink (1 ∷ 0 ∷ []) []
    ∷ buffer symlink (1 ∷ 0 ∷ []) (0x41 ∷ 0x00 ∷ [])
    ∷ buffer symlink (3 ∷ 0 ∷ []) (0x41 ∷ 0x00 ∷ [])
    ∷ buffer symlink (0 ∷ 2 ∷ []) (0x41 ∷ 0x00 ∷ [])
    ∷ buffer symlink (10 ∷ 0 ∷ []) (0x41 ∷ 0x00 ∷ [])
    ∷ buffer tag_0 (1 ∷ 0 ∷ []) []
    ∷ [])
    ++ try_set_reparse (before 0x2) 0 4 (buffer symlink (1 ∷ 0 ∷ []) [])
    ∷ try_set_reparse (before 0x2) 0 8 (buffer other (1 ∷ 0 ∷ []) [])
    ∷ []
    ≡ replicate 11 (ends (before 0x2) IoReparseDataInvalid)
unfolding try_set_reparse set_reparse_at set_reparse_by set_buffer set_point
set_wrong_data = refl

-- the tags 0, 1, 2 and 0x7fffffff, also where the directory isn't empty, or another tag is there
pub set_wrong_tag :
    sets (one_byte tag_0 ∷ one_byte tag_1 ∷ one_byte tag_2 ∷ one_byte largest_other ∷ [])
    ++ try_set_reparse (before 0x2) 0 5 (one_byte tag_1)
    ∷ try_set_reparse (before 0x2) 0 8 (one_byte tag_0)
    ∷ []
    ≡ replicate 6 (ends (before 0x2) IoReparseTagInvalid)
unfolding try_set_reparse set_reparse_at set_reparse_by set_buffer set_point
set_wrong_tag = refl

-- a directory with a link in it, and one in which the only link is marked
pub set_on_parent :
    try_set_reparse (before 0x2) 0 4 (one_byte symlink) ∷ try_set_reparse (before 0x2) 0 5 (one_byte symlink) ∷ []
    ≡ replicate 2 (ends (before 0x2) DirectoryNotEmpty)
unfolding try_set_reparse set_reparse_at set_reparse_by set_buffer set_point
set_on_parent = refl

pub set_other_tag :
    try_set_reparse (before 0x2) 0 8 (one_byte other) ∷ try_set_reparse (before 0x2) 0 8 (one_byte least) ∷ []
    ≡ replicate 2 (ends (before 0x2) IoReparseTagMismatch)
unfolding try_set_reparse set_reparse_at set_reparse_by set_buffer set_point
set_other_tag = refl

-- ---- a point that is set

-- of no byte and of two, of the least tag that may be set, and with any reserved number, which isn't kept; no time
-- moves, and READONLY isn't asked
pub set_on_file :
    sets (buffer symlink (0 ∷ 0 ∷ []) []
    ∷ buffer symlink (2 ∷ 0 ∷ []) (0x41 ∷ 0x00 ∷ [])
    ∷ one_byte least
    ∷ (other ++ 1 ∷ 0 ∷ 0xFE ∷ 0xFF ∷ 5 ∷ [])
    ∷ [])
    ≡ ends (volume 0x2 (Some (0xA000000C, [])) None symbolic_link (noted of_f) []) Success
    ∷ ends (volume 0x2 symbolic_link None symbolic_link (noted of_f) []) Success
    ∷ ends (volume 0x2 (Some (0x80000000, 5 ∷ [])) None symbolic_link (noted of_f) []) Success
    ∷ ends (volume 0x2 (Some (0xA000000D, 5 ∷ [])) None symbolic_link (noted of_f) []) Success
    ∷ []
unfolding try_set_reparse set_reparse_at set_reparse_by set_buffer set_point
set_on_file = refl

-- WRITE_ATTRIBUTES alone will do; noted of the link by which the handle was opened: of `x`, which is marked; of `f` by its
-- named stream's handle; of an empty directory; and of a file with that tag, in place of what it was
pub set_by_handle :
    try_set_reparse (before 0x100) 0 1 (one_byte symlink)
    ∷ try_set_reparse (before 0x2) 0 2 (one_byte symlink)
    ∷ try_set_reparse (before 0x2) 0 3 (one_byte symlink)
    ∷ try_set_reparse (before 0x2) 0 6 (one_byte symlink)
    ∷ try_set_reparse (before 0x2) 0 8 (one_byte symlink)
    ∷ []
    ≡ ends (volume 0x100 (Some (0xA000000C, 5 ∷ [])) None symbolic_link (noted of_f) []) Success
    ∷ ends (volume 0x2 (Some (0xA000000C, 5 ∷ [])) None symbolic_link (noted ((5, codes "x") ∷ (1, codes "m\\x") ∷ [])) []) Success
    ∷ ends (volume 0x2 (Some (0xA000000C, 5 ∷ [])) None symbolic_link (noted of_f) []) Success
    ∷ ends (volume 0x2 None (Some (0xA000000C, 5 ∷ [])) symbolic_link (noted ((1, codes "e") ∷ [])) []) Success
    ∷ ends (volume 0x2 None None (Some (0xA000000C, 5 ∷ [])) (noted ((1, codes "p") ∷ [])) []) Success
    ∷ []
unfolding try_set_reparse set_reparse_at set_reparse_by set_buffer set_point
set_by_handle = refl

-- the longest buffer of a request: 16,384 bytes, 16,376 of them data, 0x3ff8
pub set_longest :
    try_set_reparse (before 0x2) 0 1 (buffer symlink (0xF8 ∷ 0x3F ∷ []) (replicate 16376 7))
    ≡ ends (volume 0x2 (Some (0xA000000C, replicate 16376 7)) None symbolic_link (noted of_f) []) Success
unfolding try_set_reparse set_reparse_at set_reparse_by set_buffer set_point
set_longest = refl

-- ---- a point that is asked for

pub get_without_handle :
    try_get_reparse (before 0x2) 0 10 0 ∷ try_get_reparse (before 0x2) 0 18 16384 ∷ try_get_reparse (before 0x2) 1 8 16384 ∷ []
    ≡ replicate 3 (ends (before 0x2) InvalidHandle)
unfolding try_get_reparse get_reparse_at get_reparse_by get_reparse_of get_point
get_without_handle = refl

-- a file, a directory and the root without one, whatever the room is
pub get_none :
    try_get_reparse (before 0x2) 0 1 0 ∷ try_get_reparse (before 0x2) 0 6 7 ∷ try_get_reparse (before 0x2) 0 7 16384 ∷ []
    ≡ replicate 3 (ends (before 0x2) NotAReparsePoint)
unfolding try_get_reparse get_reparse_at get_reparse_by get_reparse_of get_point
get_none = refl

-- the header takes 8 bytes and the whole buffer 10; no right is asked
pub get_in_rooms :
    map {B = Outcome} (try_get_reparse (before 0x2) 1 1) (0 ∷ 7 ∷ 8 ∷ 9 ∷ 10 ∷ 11 ∷ [])
    ≡ ends (before 0x2) BufferTooSmall
    ∷ ends (before 0x2) BufferTooSmall
    ∷ gives BufferOverflow (0x0C ∷ 0x00 ∷ 0x00 ∷ 0xA0 ∷ 2 ∷ 0 ∷ 0 ∷ 0 ∷ [])
    ∷ gives BufferOverflow (0x0C ∷ 0x00 ∷ 0x00 ∷ 0xA0 ∷ 2 ∷ 0 ∷ 0 ∷ 0 ∷ 0x41 ∷ [])
    ∷ gives Success (0x0C ∷ 0x00 ∷ 0x00 ∷ 0xA0 ∷ 2 ∷ 0 ∷ 0 ∷ 0 ∷ 0x41 ∷ 0x00 ∷ [])
    ∷ gives Success (0x0C ∷ 0x00 ∷ 0x00 ∷ 0xA0 ∷ 2 ∷ 0 ∷ 0 ∷ 0 ∷ 0x41 ∷ 0x00 ∷ [])
    ∷ []
unfolding try_get_reparse get_reparse_at get_reparse_by get_reparse_of get_point
get_in_rooms = refl

-- a point without data is its header
abbrev pub bare : Volume
bare = volume 0x2 (Some (0x80000000, [])) None symbolic_link [] []

pub get_header :
    map {B = Outcome} (try_get_reparse bare 0 1) (7 ∷ 8 ∷ [])
    ≡ ends bare BufferTooSmall
    ∷ Done bare (record { status = Success; body = Got (0 ∷ 0 ∷ 0 ∷ 0x80 ∷ 0 ∷ 0 ∷ 0 ∷ 0 ∷ []) })
    ∷ []
unfolding try_get_reparse get_reparse_at get_reparse_by get_reparse_of get_point
get_header = refl

-- ---- a point that is removed

pub delete_without_handle :
    try_delete_reparse (before 0x0) 0 10 0xA000000C ∷ try_delete_reparse (before 0x0) 0 18 0xA000000C ∷ try_delete_reparse (before 0x0) 1 8 0xA000000C ∷ []
    ≡ replicate 3 (ends (before 0x0) InvalidHandle)
unfolding try_delete_reparse delete_reparse_at delete_reparse_by delete_reparse_of remove_point
delete_without_handle = refl

-- without a right, where there is one of that tag, of another tag, or none
pub delete_without_right :
    try_delete_reparse (before 0x0) 0 9 0xA000000C
    ∷ try_delete_reparse (before 0x0) 1 1 0xA000000D
    ∷ try_delete_reparse (before 0x0) 0 1 0xA000000C
    ∷ try_delete_reparse (before 0x0) 1 2 0
    ∷ []
    ≡ replicate 4 (ends (before 0x0) AccessDenied)
unfolding try_delete_reparse delete_reparse_at delete_reparse_by delete_reparse_of remove_point
delete_without_right = refl

pub delete_none :
    try_delete_reparse (before 0x2) 0 1 0xA000000C ∷ try_delete_reparse (before 0x2) 0 6 0 ∷ try_delete_reparse (before 0x2) 0 7 0 ∷ []
    ≡ replicate 3 (ends (before 0x2) NotAReparsePoint)
unfolding try_delete_reparse delete_reparse_at delete_reparse_by delete_reparse_of remove_point
delete_none = refl

pub delete_other_tag :
    map {B = Outcome} (try_delete_reparse (before 0x2) 0 8) (0xA000000D ∷ 0 ∷ 0xC ∷ [])
    ≡ replicate 3 (ends (before 0x2) IoReparseTagMismatch)
unfolding try_delete_reparse delete_reparse_at delete_reparse_by delete_reparse_of remove_point
delete_other_tag = refl

pub deleted :
    try_delete_reparse (before 0x2) 0 8 0xA000000C
    ∷ try_delete_reparse (volume 0x100 symbolic_link None None [] []) 0 1 0xA000000C
    ∷ try_delete_reparse (volume 0x2 None (Some (0x80000000, [])) None [] []) 0 6 0x80000000
    ∷ []
    ≡ ends (volume 0x2 None None None (noted ((1, codes "p") ∷ [])) []) Success
    ∷ ends (volume 0x100 None None None (noted of_f) []) Success
    ∷ ends (volume 0x2 None None None (noted ((1, codes "e") ∷ [])) []) Success
    ∷ []
unfolding try_delete_reparse delete_reparse_at delete_reparse_by delete_reparse_of remove_point
deleted = refl

-- ---- quotas

-- with these limits
abbrev pub limited : List (ℕ × ℕ) → Volume
limited limits = volume 0x2 None None None [] limits

-- only a client with SID 0 may, and it isn't asked whose limit it is: a new one, 0 below the charge, and one in place of
-- another; those of others stay
pub set_quota :
    try_set_quota (limited ((9, 1) ∷ (7, 2) ∷ [])) 0 7 3
    ∷ try_set_quota (limited ((9, 1) ∷ (7, 2) ∷ [])) 1 9 3
    ∷ try_set_quota (limited []) 2 7 0
    ∷ try_set_quota (limited ((9, 1) ∷ (7, 2) ∷ [])) 2 9 3
    ∷ try_set_quota (limited ((7, 2) ∷ [])) 2 0 18446744073709551615
    ∷ []
    ≡ ends (limited ((9, 1) ∷ (7, 2) ∷ [])) AccessDenied
    ∷ ends (limited ((9, 1) ∷ (7, 2) ∷ [])) AccessDenied
    ∷ ends (limited ((7, 0) ∷ [])) Success
    ∷ ends (limited ((7, 2) ∷ (9, 3) ∷ [])) Success
    ∷ ends (limited ((7, 2) ∷ (0, 18446744073709551615) ∷ [])) Success
    ∷ []
unfolding try_set_quota
set_quota = refl

-- the charge is that of 4,097 bytes and of the marked stream's one; without a limit it is 2^64 - 1, and a limit may be
-- below the charge
pub query_quota :
    map {B = Outcome} (try_query_quota (limited ((9, 1) ∷ (7, 2) ∷ []))) (7 ∷ 9 ∷ 8 ∷ 0 ∷ [])
    ≡ Done (limited ((9, 1) ∷ (7, 2) ∷ [])) (record { status = Success; body = Quota 12288 2 })
    ∷ Done (limited ((9, 1) ∷ (7, 2) ∷ [])) (record { status = Success; body = Quota 0 1 })
    ∷ Done (limited ((9, 1) ∷ (7, 2) ∷ [])) (record { status = Success; body = Quota 0 18446744073709551615 })
    ∷ Done (limited ((9, 1) ∷ (7, 2) ∷ [])) (record { status = Success; body = Quota 0 18446744073709551615 })
    ∷ []
unfolding try_query_quota
query_quota = refl

-- ---- whole runs

abbrev setup : Setup
setup = record {
  table = ascii_pairs;
  clients = record { name = codes "a"; sids = 7 ∷ [] } ∷ record { name = codes "b"; sids = 9 ∷ [] } ∷ record { name = codes "s"; sids = 0 ∷ [] } ∷ [];
}

abbrev asks : ℕ → ℕ → Request → HistoryEntry
asks client number request = record { call = record { client = client; number = number; what = Ask request }; starved = [] }

abbrev opens : List ℕ → ℕ → ℕ → Request
opens path wanted options = request.Create path wanted 0x7 OpenExisting options 0x0 0

abbrev makes : List ℕ → ℕ → ℕ → Request
makes path wanted options = request.Create path wanted 0x7 CreateNew options 0x0 0

abbrev printed : Reply → List ℕ
printed reply = status_name reply.status ++ body_text reply.body

abbrev answer_text : Answer → List ℕ
answer_text (Ended reply) = printed reply
answer_text (Pending interim) = codes "PENDING"

abbrev answers : List HistoryEntry → Option (List (List ℕ))
answers history = option_map (λ r. map {B = List ℕ} (λ out. answer_text out.answer) r.outs) (run setup history)

-- a limit of two clusters, which a write past them would pass
pub quota_run :
    answers
    (asks 2 1 (request.SetQuota 7 8192)
    ∷ asks 0 1 (makes (codes "\\q") 0x2 0x0)
    ∷ asks 0 2 (request.Write 1 (Some 4096) (1 ∷ []))
    ∷ asks 0 3 (request.Write 1 (Some 8192) (1 ∷ []))
    ∷ asks 0 4 (request.QueryQuota 7)
    ∷ [])
    ≡ Some
    (codes "SUCCESS"
    ∷ codes "SUCCESS created"
    ∷ codes "SUCCESS 1"
    ∷ codes "QUOTA_EXCEEDED"
    ∷ codes "SUCCESS 8192 8192"
    ∷ [])
unfolding digits try_create create_at create_walked create_named create_by_link create_found create_there create_in_file create_stream create_on_stream open_stream open_directory open_granted overwrite_existing open_existing clashed create_missing make_file make_directory stopped try_write write_at write_by write_stream write_at_place write_range write_unlocked write_grown write_bytes try_set_quota try_query_quota
quota_run = refl

abbrev ended : Status → Body → Answer
ended status body = Ended (record { status = status; body = body })

-- a symbolic link that is set on a directory, met on the way and at the end, read in part and removed
pub symbolic_link_run :
    option_map (λ r. map {B = Answer} (λ out. out.answer) r.outs)
    (run setup
    (asks 0 5 (makes (codes "\\r") 0x100 0x1)
    ∷ asks 0 6 (request.SetReparse 5 (0x0C ∷ 0x00 ∷ 0x00 ∷ 0xA0 ∷ 0x02 ∷ 0x00 ∷ 0x00 ∷ 0x00 ∷ 0x41 ∷ 0x00 ∷ []))
    ∷ asks 0 7 (opens (codes "\\r\\k\\z") 0x1 0x0)
    ∷ asks 0 8 (opens (codes "\\r") 0x1 0x0)
    ∷ asks 0 9 (opens (codes "\\r") 0x80 0x200000)
    ∷ asks 0 10 (request.GetReparse 9 9)
    ∷ asks 0 11 (request.DeleteReparse 5 0xA000000D)
    ∷ asks 0 12 (request.DeleteReparse 5 0xA000000C)
    ∷ asks 0 13 (request.GetReparse 9 9)
    ∷ asks 0 14 (opens (codes "\\r") 0x1 0x0)
    ∷ []))
    ≡ Some
    (ended Success (Opened Created)
    ∷ ended Success Nothing
    ∷ ended StoppedOnSymlink (Stopped 0xA000000C (0x41 ∷ 0x00 ∷ []) (codes "k\\z"))
    ∷ ended StoppedOnSymlink (Stopped 0xA000000C (0x41 ∷ 0x00 ∷ []) [])
    ∷ ended Success (Opened WasOpened)
    ∷ ended BufferOverflow (Got (0x0C ∷ 0x00 ∷ 0x00 ∷ 0xA0 ∷ 0x02 ∷ 0x00 ∷ 0x00 ∷ 0x00 ∷ 0x41 ∷ []))
    ∷ ended IoReparseTagMismatch Nothing
    ∷ ended Success Nothing
    ∷ ended NotAReparsePoint Nothing
    ∷ ended Success (Opened WasOpened)
    ∷ [])
unfolding try_create create_at create_walked create_named create_by_link create_found create_there create_in_file create_stream create_on_stream open_stream open_directory open_granted overwrite_existing open_existing clashed create_missing make_file make_directory stopped try_set_reparse set_reparse_at set_reparse_by set_buffer set_point try_get_reparse get_reparse_at get_reparse_by get_reparse_of get_point try_delete_reparse delete_reparse_at delete_reparse_by delete_reparse_of remove_point
symbolic_link_run = refl
