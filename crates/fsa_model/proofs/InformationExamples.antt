-- Information on a file, and setting its times and attributes, worked by hand from the rules and shown by
-- computation: what is refused and in which order, the bytes that are given, what is changed and noted, and a whole run.
use Rattle.std.specs.Prelude.{◌≡◌, ℕ, Bool, true, false, List, [], ◌∷◌, ◌++◌, map, Option, Some, None, codes, option_map, replicate, refl}
use Rattle.std.specs.Fmt.{digits}
use Rattle.fsa_types.specs.CaseTable.{ascii_pairs}
use Rattle.fsa_types.specs.LittleEndian.{zeros}
use Rattle.fsa_types.specs.Packing.{head, name_field, entry_bytes}
use Rattle.fsa_types.specs.Status.{status_name}
use Rattle.fsa_types.specs.declared.reply.Answer.{Answer}
use Rattle.fsa_types.specs.declared.reply.Answer.TheVariants.{Ended, Pending}
use Rattle.fsa_types.specs.declared.reply.Body.{Body}
use Rattle.fsa_types.specs.declared.reply.Body.TheVariants.{Nothing, Packed}
use Rattle.fsa_types.specs.declared.reply.Reply.{Reply}
use Rattle.fsa_types.specs.declared.request.Disposition.TheVariants.{CreateNew}
use Rattle.fsa_types.specs.declared.request.InfoKind.{InfoKind}
use Rattle.fsa_types.specs.declared.request.InfoKind.TheVariants.{Basic, Standard, Internal, Tag, Streams}
use Rattle.fsa_types.specs.declared.request.Level.TheVariants.{RWH}
use Rattle.fsa_types.specs.declared.request.Request.TheVariants as request
use Rattle.fsa_types.specs.declared.request.What.{What}
use Rattle.fsa_types.specs.declared.request.What.TheVariants.{Ask, Tick}
use Rattle.fsa_types.specs.declared.status.Status.{Status}
use Rattle.fsa_types.specs.declared.status.Status.TheVariants.{Success, InvalidHandle, InvalidParameter, AccessDenied, InfoLengthMismatch}
use Rattle.fsa_model.specs.Flush.{try_flush, flush_at}
use Rattle.fsa_model.specs.History.{HistoryEntry, run}
use Rattle.fsa_model.specs.Open.{try_create, create_at, create_walked, create_named, create_by_link, create_found, create_there, create_in_file, create_stream, create_on_stream, open_stream, open_directory, open_granted, overwrite_existing, open_existing, clashed, create_missing, make_file, make_directory, stopped}
use Rattle.fsa_model.specs.Outcome.{Outcome, Done}
use Rattle.fsa_model.specs.QueryInfo.{try_query_info, query_info_at, query_info_by, query_file, query_streams, query_streams_by}
use Rattle.fsa_model.specs.SetBasic.{Basics, try_set_basic, set_basic_at, set_basic_by, set_basic_of}
use Rattle.fsa_model.specs.Setup.{Setup}
use Rattle.fsa_model.specs.Text.{body_text, bytes_text}
use Rattle.fsa_model.specs.Turn.{volume_after}
use Rattle.fsa_model.specs.Volume.{Change, File, Link, Stream, Handle, Volume, fresh}
use Rattle.fsa_model.specs.Write.{try_write, write_at, write_by, write_stream, write_at_place, write_range, write_unlocked, write_grown, write_bytes}

-- ---- what is there

-- a file or directory with these attributes and times
abbrev pub file_at : Bool → ℕ → ℕ → ℕ → ℕ → ℕ → File
file_at directory attributes creation access write change = record {
  directory = directory;
  attributes = attributes;
  creation = creation;
  access = access;
  write = write;
  change = change;
  owner = 7;
  dacl = None;
  point = None;
}

-- the file 3, READONLY and ARCHIVE
abbrev pub file : File
file = file_at false 0x21 31 32 33 34

-- the directory 2, without attributes, and the root, which is HIDDEN
abbrev pub directory : File
directory = file_at true 0x0 21 22 23 24

abbrev pub top : File
top = file_at true 0x2 11 12 13 14

abbrev pub link_at : ℕ → List ℕ → ℕ → Bool → Link
link_at parent name file deleted = record { parent = parent; name = name; file = file; deleted = deleted }

abbrev pub stream_at : ℕ → List ℕ → List ℕ → Bool → Stream
stream_at file name bytes deleted = record { file = file; name = name; bytes = bytes; deleted = deleted }

abbrev pub handle_at : ℕ → ℕ → ℕ → Option ℕ → ℕ → Handle
handle_at client number link stream access = record {
  client = client;
  number = number;
  link = link;
  stream = stream;
  access = access;
  share = 0x7;
  key = 0;
  delete_on_close = false;
  enumeration = None;
}

-- in the root are the directory 2 `d`; the file 3 as `g`, which is marked; the file 4 `p`, which is empty and has a
-- reparse point; and the file 5 `n` of 4,096 bytes. In `d` is the file 3 as `f`. It has 4,097 bytes, and the streams
-- `s` of two bytes, which is marked, `B` of none and `a` of one. Client 0 has `f` open with this access (1), and with
-- READ_ATTRIBUTES and WRITE_ATTRIBUTES `g` (2), of `f` the streams `s` (3) and `B` (4), `d` (5), the root (6), `p` (7),
-- `n` (8), and of `g` the stream `a` (9). Client 1 has `f` open (1), with an oplock. The clock stands at 99
abbrev pub volume : ℕ → File → File → File → List Change → Volume
volume access root dir named changes = record (fresh (record {
  table = ascii_pairs;
  clients = record { name = codes "a"; sids = 7 ∷ [] } ∷ record { name = codes "b"; sids = 9 ∷ [] } ∷ [];
})) {
  files = (1, root)
      ∷ (2, dir)
      ∷ (3, named)
      ∷ (4, record (file_at false 0x0 41 42 43 44) { point = Some (0xA000000C, 5 ∷ []) })
      ∷ (5, file_at false 0x0 51 52 53 54)
      ∷ [];
  links = (1, link_at 1 (codes "d") 2 false)
      ∷ (2, link_at 2 (codes "f") 3 false)
      ∷ (3, link_at 1 (codes "g") 3 true)
      ∷ (4, link_at 1 (codes "p") 4 false)
      ∷ (5, link_at 1 (codes "n") 5 false)
      ∷ [];
  streams = (1, stream_at 3 (codes "s") (9 ∷ 9 ∷ []) true)
      ∷ (2, stream_at 3 [] (replicate 4097 1) false)
      ∷ (3, stream_at 3 (codes "B") [] false)
      ∷ (4, stream_at 3 (codes "a") (7 ∷ []) false)
      ∷ (5, stream_at 4 [] [] false)
      ∷ (6, stream_at 5 [] (replicate 4096 1) false)
      ∷ [];
  handles = (11, handle_at 0 1 2 (Some 2) access)
      ∷ (12, handle_at 0 2 3 (Some 2) 0x180)
      ∷ (13, handle_at 0 3 2 (Some 1) 0x180)
      ∷ (14, handle_at 0 4 2 (Some 3) 0x180)
      ∷ (15, handle_at 0 5 1 None 0x180)
      ∷ (16, handle_at 0 6 0 None 0x180)
      ∷ (17, handle_at 0 7 4 (Some 5) 0x180)
      ∷ (18, handle_at 0 8 5 (Some 6) 0x180)
      ∷ (19, handle_at 0 9 3 (Some 4) 0x180)
      ∷ (20, handle_at 1 1 2 (Some 2) 0x180)
      ∷ [];
  oplocks = record { handle = 20; key = 5; level = RWH; target = None; number = 0; call = None } ∷ [];
  changes = changes;
  clock = 99;
  last_file = 5;
  last_link = 5;
  last_stream = 6;
  last_handle = 20;
}

-- with this access of client 0's handle 1
abbrev pub before : ℕ → Volume
before access = volume access top directory file []

abbrev pub ends : Volume → Status → Outcome
ends v status = Done v (record { status = status; body = Nothing })

-- the status and the body as they are printed
abbrev pub shown_body : Body → List ℕ
shown_body (Packed kind bytes) = 32 ∷ bytes_text bytes
shown_body body = body_text body

abbrev pub printed : Reply → List ℕ
printed reply = status_name reply.status ++ shown_body reply.body

abbrev pub text_of : Outcome → List ℕ
text_of (Done v reply) = printed reply
text_of _ = []

-- client 0's handles, but for those that show what others show
abbrev pub all_handles : List ℕ
all_handles = 1 ∷ 2 ∷ 3 ∷ 4 ∷ 5 ∷ 6 ∷ 7 ∷ 8 ∷ 9 ∷ []

-- what is answered of each of them, in this room
abbrev pub answers : InfoKind → ℕ → List (List ℕ)
answers kind room = map {B = List ℕ} (λ handle. text_of (try_query_info (before 0x80) 0 handle kind room)) all_handles

-- ---- queries that are refused

-- a number that is none of the client's: no call's, a handle's own, and that of another client's handle; nothing
-- else is asked before it
pub info_without_handle :
    try_query_info (before 0x0) 0 10 Basic 0
    ∷ try_query_info (before 0x80) 0 11 Streams 16384
    ∷ try_query_info (before 0x80) 0 0 Standard 24
    ∷ try_query_info (before 0x80) 1 2 Internal 8
    ∷ []
    ≡ ends (before 0x0) InvalidHandle
    ∷ ends (before 0x80) InvalidHandle
    ∷ ends (before 0x80) InvalidHandle
    ∷ ends (before 0x80) InvalidHandle
    ∷ []
unfolding try_query_info query_info_at query_info_by query_file query_streams query_streams_by
info_without_handle = refl

-- one byte below what is fixed, and none, also without any right, and of a directory
pub info_rooms :
    map {B = Outcome} (λ (asked : InfoKind × ℕ). try_query_info (before 0x0) 0 1 asked.0 asked.1)
    ((Basic, 39) ∷ (Standard, 23) ∷ (Internal, 7) ∷ (Tag, 7) ∷ (Streams, 23) ∷ (Basic, 0) ∷ (Standard, 0) ∷ (Internal, 0) ∷ (Tag, 0) ∷ (Streams, 0) ∷ [])
    ≡ replicate 10 (ends (before 0x0) InfoLengthMismatch)
unfolding try_query_info query_info_at query_info_by query_file query_streams query_streams_by
info_rooms = refl

pub info_rooms_of_directory :
    map {B = List ℕ} (λ (asked : ℕ × InfoKind × ℕ). text_of (try_query_info (before 0x80) 0 asked.0 asked.1 asked.2))
    ((5, Streams, 23) ∷ (6, Streams, 23) ∷ (5, Basic, 39) ∷ (6, Standard, 23) ∷ [])
    ≡ replicate 4 (codes "INFO_LENGTH_MISMATCH")
unfolding try_query_info query_info_at query_info_by query_file query_streams query_streams_by
info_rooms_of_directory = refl

-- at it times, attributes and tags need READ_ATTRIBUTES: without any right, with all others, and with it alone
abbrev pub kinds : List (InfoKind × ℕ)
kinds = (Basic, 40) ∷ (Tag, 8) ∷ (Standard, 24) ∷ (Internal, 8) ∷ []

pub info_by_rights :
    map {B = List (List ℕ)} (λ access. map {B = List ℕ} (λ (asked : InfoKind × ℕ). text_of (try_query_info (before access) 0 1 asked.0 asked.1)) kinds) (0x0 ∷ 0x1F017F ∷ 0x80 ∷ [])
    ≡ (codes "ACCESS_DENIED" ∷ codes "ACCESS_DENIED" ∷ codes "SUCCESS x002000000000000001100000000000000100000000000000" ∷ codes "SUCCESS x0300000000000000" ∷ [])
    ∷ (codes "ACCESS_DENIED" ∷ codes "ACCESS_DENIED" ∷ codes "SUCCESS x002000000000000001100000000000000100000000000000" ∷ codes "SUCCESS x0300000000000000" ∷ [])
    ∷ (codes "SUCCESS x1f000000000000002000000000000000210000000000000022000000000000002100000000000000" ∷ codes "SUCCESS x2100000000000000" ∷ codes "SUCCESS x002000000000000001100000000000000100000000000000" ∷ codes "SUCCESS x0300000000000000" ∷ [])
    ∷ []
unfolding try_query_info query_info_at query_info_by query_file query_streams query_streams_by
info_by_rights = refl

-- a refusal and an answer leave the volume as it was
pub info_leaves_all :
    map {B = Volume} (λ (asked : InfoKind × ℕ). volume_after (try_query_info (before 0x7F) 0 1 asked.0 asked.1)) ((Streams, 80) ∷ (Streams, 160) ∷ kinds)
    ≡ replicate 6 (before 0x7F)
unfolding try_query_info query_info_at query_info_by query_file query_streams query_streams_by head name_field entry_bytes zeros
info_leaves_all = refl

-- ---- answers of a fixed size

-- times and attributes: of `f` by each handle, of `d`, of the root, with a reparse point, and without an attribute
pub basic_answers :
    answers Basic 40
    ≡ codes "SUCCESS x1f000000000000002000000000000000210000000000000022000000000000002100000000000000"
    ∷ codes "SUCCESS x1f000000000000002000000000000000210000000000000022000000000000002100000000000000"
    ∷ codes "SUCCESS x1f000000000000002000000000000000210000000000000022000000000000002100000000000000"
    ∷ codes "SUCCESS x1f000000000000002000000000000000210000000000000022000000000000002100000000000000"
    ∷ codes "SUCCESS x15000000000000001600000000000000170000000000000018000000000000001000000000000000"
    ∷ codes "SUCCESS x0b000000000000000c000000000000000d000000000000000e000000000000001200000000000000"
    ∷ codes "SUCCESS x29000000000000002a000000000000002b000000000000002c000000000000000004000000000000"
    ∷ codes "SUCCESS x33000000000000003400000000000000350000000000000036000000000000008000000000000000"
    ∷ codes "SUCCESS x1f000000000000002000000000000000210000000000000022000000000000002100000000000000"
    ∷ []
unfolding try_query_info query_info_at query_info_by query_file query_streams query_streams_by
basic_answers = refl

-- space and length of the handle's stream; links that aren't marked, none of the root; the mark of the named stream,
-- or else of the link; a directory
pub standard_answers :
    answers Standard 24
    ≡ codes "SUCCESS x002000000000000001100000000000000100000000000000"
    ∷ codes "SUCCESS x002000000000000001100000000000000100000001000000"
    ∷ codes "SUCCESS x001000000000000002000000000000000100000001000000"
    ∷ codes "SUCCESS x000000000000000000000000000000000100000000000000"
    ∷ codes "SUCCESS x000000000000000000000000000000000100000000010000"
    ∷ codes "SUCCESS x000000000000000000000000000000000000000000010000"
    ∷ codes "SUCCESS x000000000000000000000000000000000100000000000000"
    ∷ codes "SUCCESS x001000000000000000100000000000000100000000000000"
    ∷ codes "SUCCESS x001000000000000001000000000000000100000000000000"
    ∷ []
unfolding try_query_info query_info_at query_info_by query_file query_streams query_streams_by
standard_answers = refl

pub internal_answers :
    answers Internal 8
    ≡ codes "SUCCESS x0300000000000000"
    ∷ codes "SUCCESS x0300000000000000"
    ∷ codes "SUCCESS x0300000000000000"
    ∷ codes "SUCCESS x0300000000000000"
    ∷ codes "SUCCESS x0200000000000000"
    ∷ codes "SUCCESS x0100000000000000"
    ∷ codes "SUCCESS x0400000000000000"
    ∷ codes "SUCCESS x0500000000000000"
    ∷ codes "SUCCESS x0300000000000000"
    ∷ []
unfolding try_query_info query_info_at query_info_by query_file query_streams query_streams_by
internal_answers = refl

pub tag_answers :
    answers Tag 16384
    ≡ codes "SUCCESS x2100000000000000"
    ∷ codes "SUCCESS x2100000000000000"
    ∷ codes "SUCCESS x2100000000000000"
    ∷ codes "SUCCESS x2100000000000000"
    ∷ codes "SUCCESS x1000000000000000"
    ∷ codes "SUCCESS x1200000000000000"
    ∷ codes "SUCCESS x000400000c0000a0"
    ∷ codes "SUCCESS x8000000000000000"
    ∷ codes "SUCCESS x2100000000000000"
    ∷ []
unfolding try_query_info query_info_at query_info_by query_file query_streams query_streams_by
tag_answers = refl

-- a marked directory has no link left that counts, and its deletion is pending
pub marked_directory :
    text_of (try_query_info (record (before 0x80) { links = (1, link_at 1 (codes "d") 2 true) ∷ [] }) 0 5 Standard 24)
    ≡ codes "SUCCESS x000000000000000000000000000000000000000001010000"
unfolding try_query_info query_info_at query_info_by query_file query_streams query_streams_by
marked_directory = refl

-- ---- streams

-- the entries take 38, 80, 120 and 160 bytes: the default stream first, then by name in any case of the letters, the
-- marked one too; where not all fit, those that do
pub streams_in_rooms :
    map {B = List ℕ} (λ room. text_of (try_query_info (before 0x0) 0 1 Streams room)) (24 ∷ 37 ∷ 38 ∷ 79 ∷ 80 ∷ 119 ∷ 120 ∷ 159 ∷ 160 ∷ [])
    ≡ codes "BUFFER_OVERFLOW x"
    ∷ codes "BUFFER_OVERFLOW x"
    ∷ (codes "BUFFER_OVERFLOW x000000000e000000011000000000000000200000000000003a003a0024004400410054004100")
    ∷ (codes "BUFFER_OVERFLOW x000000000e000000011000000000000000200000000000003a003a0024004400410054004100")
    ∷ (codes "BUFFER_OVERFLOW x280000000e000000011000000000000000200000000000003a003a00240044004100540041000000"
    ++ codes "0000000010000000010000000000000000100000000000003a0061003a0024004400410054004100")
    ∷ (codes "BUFFER_OVERFLOW x280000000e000000011000000000000000200000000000003a003a00240044004100540041000000"
    ++ codes "0000000010000000010000000000000000100000000000003a0061003a0024004400410054004100")
    ∷ (codes "BUFFER_OVERFLOW x280000000e000000011000000000000000200000000000003a003a00240044004100540041000000"
    ++ codes "2800000010000000010000000000000000100000000000003a0061003a0024004400410054004100"
    ++ codes "0000000010000000000000000000000000000000000000003a0042003a0024004400410054004100")
    ∷ (codes "BUFFER_OVERFLOW x280000000e000000011000000000000000200000000000003a003a00240044004100540041000000"
    ++ codes "2800000010000000010000000000000000100000000000003a0061003a0024004400410054004100"
    ++ codes "0000000010000000000000000000000000000000000000003a0042003a0024004400410054004100")
    ∷ (codes "SUCCESS x280000000e000000011000000000000000200000000000003a003a00240044004100540041000000"
    ++ codes "2800000010000000010000000000000000100000000000003a0061003a0024004400410054004100"
    ++ codes "2800000010000000000000000000000000000000000000003a0042003a0024004400410054004100"
    ++ codes "0000000010000000020000000000000000100000000000003a0073003a0024004400410054004100")
    ∷ []
unfolding try_query_info query_info_at query_info_by query_file query_streams query_streams_by head name_field entry_bytes zeros
streams_in_rooms = refl

-- by a handle of a named stream, and by another link; of a file with one stream, at its size and one byte below; and
-- of a directory and the root, which have none
pub streams_by_handle :
    map {B = List ℕ} (λ (asked : ℕ × ℕ). text_of (try_query_info (before 0x80) 0 asked.0 Streams asked.1)) ((4, 80) ∷ (9, 38) ∷ (8, 38) ∷ (8, 37) ∷ (5, 24) ∷ (6, 16384) ∷ [])
    ≡ (codes "BUFFER_OVERFLOW x280000000e000000011000000000000000200000000000003a003a00240044004100540041000000"
    ++ codes "0000000010000000010000000000000000100000000000003a0061003a0024004400410054004100")
    ∷ (codes "BUFFER_OVERFLOW x000000000e000000011000000000000000200000000000003a003a0024004400410054004100")
    ∷ codes "SUCCESS x000000000e000000001000000000000000100000000000003a003a0024004400410054004100"
    ∷ codes "BUFFER_OVERFLOW x"
    ∷ codes "SUCCESS"
    ∷ codes "SUCCESS"
    ∷ []
unfolding try_query_info query_info_at query_info_by query_file query_streams query_streams_by head name_field entry_bytes zeros
streams_by_handle = refl

-- ---- times and attributes that are refused

abbrev pub asks : ℕ → ℕ → ℕ → ℕ → ℕ → Basics
asks creation access write change attributes = record { creation = creation; access = access; write = write; change = change; attributes = attributes }

-- the two values that leave a time: 2^64 - 1 and 2^64 - 2
abbrev pub none : ℕ
none = 0xFFFFFFFFFFFFFFFF

abbrev pub also_none : ℕ
also_none = 0xFFFFFFFFFFFFFFFE

pub set_without_handle :
    try_set_basic (before 0x0) 0 10 (asks 0x8000000000000000 0 0 0 0x8)
    ∷ try_set_basic (before 0x0) 0 11 (asks 0 0 0 0 0)
    ∷ try_set_basic (before 0x0) 0 0 (asks 0 0 0 0 0)
    ∷ try_set_basic (before 0x0) 1 2 (asks 0 0 0 0 0)
    ∷ []
    ≡ replicate 4 (ends (before 0x0) InvalidHandle)
unfolding try_set_basic set_basic_at set_basic_by set_basic_of
set_without_handle = refl

-- all rights but WRITE_ATTRIBUTES, where what is asked is wrong too, or nothing
pub set_without_right :
    map {B = Outcome} (try_set_basic (before 0x1F00FF) 0 1) (asks 0x8000000000000000 0 0 0 0x8 ∷ asks 0 0 0 none 0 ∷ [])
    ≡ replicate 2 (ends (before 0x1F00FF) AccessDenied)
unfolding try_set_basic set_basic_at set_basic_by set_basic_of
set_without_right = refl

-- 2^63, and 2^64 - 3, for each of the times
pub set_no_time :
    map {B = Outcome} (try_set_basic (before 0x100) 0 1)
    (asks 0x8000000000000000 0 0 0 0
    ∷ asks 0 0x8000000000000000 0 0 0
    ∷ asks 0 0 0x8000000000000000 0 0
    ∷ asks 0 0 0 0x8000000000000000 0
    ∷ asks 0xFFFFFFFFFFFFFFFD 0 0 0 0
    ∷ asks 0 0xFFFFFFFFFFFFFFFD 0 0 0
    ∷ asks 0 0 0xFFFFFFFFFFFFFFFD 0 0
    ∷ asks 1 2 3 0xFFFFFFFFFFFFFFFD 0x1
    ∷ [])
    ≡ replicate 8 (ends (before 0x100) InvalidParameter)
unfolding try_set_basic set_basic_at set_basic_by set_basic_of
set_no_time = refl

-- each attribute that none has; DIRECTORY on a file, alone and with all others
pub set_wrong_attributes :
    map {B = Outcome} (λ attributes. try_set_basic (before 0x100) 0 1 (asks 1 2 3 4 attributes)) (0x8 ∷ 0x40 ∷ 0x200 ∷ 0x400 ∷ 0x800 ∷ 0x4000 ∷ 0x8001 ∷ 0x10001 ∷ 0x80000000 ∷ 0x10 ∷ 0x31B7 ∷ [])
    ≡ replicate 11 (ends (before 0x100) InvalidParameter)
unfolding try_set_basic set_basic_at set_basic_by set_basic_of
set_wrong_attributes = refl

-- ---- what is set and noted

-- FILE_ACTION_MODIFIED with these bits of `f` in `d`, of `g`, and of `d`
abbrev pub noted : ℕ → List (ℕ × List ℕ) → List Change
noted bits seen_from = record { action = 3; bits = bits; seen_from = seen_from } ∷ []

abbrev pub of_f : List (ℕ × List ℕ)
of_f = (2, codes "f") ∷ (1, codes "d\\f") ∷ []

-- the file 3 is this one now, and this was noted
abbrev pub left : File → List Change → Outcome
left now changes = ends (volume 0x100 top directory now changes) Success

abbrev pub sets : List Basics → List Outcome
sets asked = map {B = Outcome} (try_set_basic (before 0x100) 0 1) asked

-- nothing but the change time is set, which isn't noted: to the clock, to a value, and left
pub set_change_time :
    sets (asks 0 0 0 0 0 ∷ asks none also_none none 0 0 ∷ asks 0 0 0 7 0 ∷ asks 0 0 0 0x7FFFFFFFFFFFFFFF 0 ∷ asks 0 0 0 none 0 ∷ asks also_none none also_none also_none 0 ∷ [])
    ≡ left (file_at false 0x21 31 32 33 99) []
    ∷ left (file_at false 0x21 31 32 33 99) []
    ∷ left (file_at false 0x21 31 32 33 7) []
    ∷ left (file_at false 0x21 31 32 33 0x7FFFFFFFFFFFFFFF) []
    ∷ left file []
    ∷ left file []
    ∷ []
unfolding try_set_basic set_basic_at set_basic_by set_basic_of
set_change_time = refl

-- each other field with its bit: the time of creation, of access, of writing, and the attributes
pub set_one_field :
    sets (asks 5 0 0 none 0 ∷ asks 0 5 0 none 0 ∷ asks 0 0 5 none 0 ∷ asks 0 0 0 none 0x2 ∷ asks 5 0 0 0 0 ∷ asks also_none none 5 8 0 ∷ [])
    ≡ left (file_at false 0x21 5 32 33 34) (noted 0x40 of_f)
    ∷ left (file_at false 0x21 31 5 33 34) (noted 0x20 of_f)
    ∷ left (file_at false 0x21 31 32 5 34) (noted 0x10 of_f)
    ∷ left (file_at false 0x2 31 32 33 34) (noted 0x4 of_f)
    ∷ left (file_at false 0x21 5 32 33 99) (noted 0x40 of_f)
    ∷ left (file_at false 0x21 31 32 5 8) (noted 0x10 of_f)
    ∷ []
unfolding try_set_basic set_basic_at set_basic_by set_basic_of
set_one_field = refl

-- all at once; the largest times and all attributes of a file; and what is there already, which is noted too
pub set_all_fields :
    sets (asks 1 2 3 4 0x26 ∷ asks 0x7FFFFFFFFFFFFFFF 0x7FFFFFFFFFFFFFFF 0x7FFFFFFFFFFFFFFF 0x7FFFFFFFFFFFFFFF 0x31A7 ∷ asks 31 32 33 34 0x21 ∷ [])
    ≡ left (file_at false 0x26 1 2 3 4) (noted 0x74 of_f)
    ∷ left (file_at false 0x27 0x7FFFFFFFFFFFFFFF 0x7FFFFFFFFFFFFFFF 0x7FFFFFFFFFFFFFFF 0x7FFFFFFFFFFFFFFF) (noted 0x74 of_f)
    ∷ left file (noted 0x74 of_f)
    ∷ []
unfolding try_set_basic set_basic_at set_basic_by set_basic_of
set_all_fields = refl

-- attributes of which nothing is kept become none, and are noted
pub set_no_attribute :
    sets (asks 0 0 0 none 0x80 ∷ asks 0 0 0 none 0x100 ∷ asks 0 0 0 none 0x1000 ∷ asks 0 0 0 none 0x3180 ∷ asks 0 0 0 none 0x81 ∷ [])
    ≡ left (file_at false 0x0 31 32 33 34) (noted 0x4 of_f)
    ∷ left (file_at false 0x0 31 32 33 34) (noted 0x4 of_f)
    ∷ left (file_at false 0x0 31 32 33 34) (noted 0x4 of_f)
    ∷ left (file_at false 0x0 31 32 33 34) (noted 0x4 of_f)
    ∷ left (file_at false 0x1 31 32 33 34) (noted 0x4 of_f)
    ∷ []
unfolding try_set_basic set_basic_at set_basic_by set_basic_of
set_no_attribute = refl

-- noted of the link by which the handle was opened: of `g`, which is marked; of `f` by its named stream's handle; of
-- `d`, for which DIRECTORY may be asked; and of the root nothing
pub set_by_handle :
    try_set_basic (before 0x100) 0 2 (asks 5 0 0 none 0)
    ∷ try_set_basic (before 0x100) 0 3 (asks 0 5 0 none 0)
    ∷ try_set_basic (before 0x100) 0 5 (asks 0 0 5 none 0x11)
    ∷ try_set_basic (before 0x100) 0 5 (asks 0 0 0 none 0x10)
    ∷ try_set_basic (before 0x100) 0 6 (asks 0 0 5 0 0x10)
    ∷ []
    ≡ left (file_at false 0x21 5 32 33 34) (noted 0x40 ((1, codes "g") ∷ []))
    ∷ left (file_at false 0x21 31 5 33 34) (noted 0x20 of_f)
    ∷ ends (volume 0x100 top (file_at true 0x1 21 22 5 24) file (noted 0x14 ((1, codes "d") ∷ []))) Success
    ∷ ends (volume 0x100 top directory file (noted 0x4 ((1, codes "d") ∷ []))) Success
    ∷ ends (volume 0x100 (file_at true 0x0 11 12 5 99) directory file []) Success
    ∷ []
unfolding try_set_basic set_basic_at set_basic_by set_basic_of
set_by_handle = refl

-- ---- a whole run

abbrev setup : Setup
setup = record {
  table = ascii_pairs;
  clients = record { name = codes "a"; sids = 7 ∷ [] } ∷ record { name = codes "b"; sids = 9 ∷ [] } ∷ [];
}

abbrev calls : ℕ → What → HistoryEntry
calls number what = record { call = record { client = 0; number = number; what = what }; starved = [] }

abbrev answer_text : Answer → List ℕ
answer_text (Ended reply) = printed reply
answer_text (Pending interim) = codes "PENDING"

-- the streams of a file that was made with a named one; a room that is one byte short; times that are set, left and
-- taken from the clock; and a flush
pub information_run :
    option_map (λ r. map {B = List ℕ} (λ out. answer_text out.answer) r.outs)
    (run setup
    (calls 1 (Ask (request.Create (codes "\\f:s") 0x182 0x7 CreateNew 0x0 0x0 0))
    ∷ calls 2 (Ask (request.Write 1 (Some 0) (1 ∷ 2 ∷ [])))
    ∷ calls 3 (Ask (request.QueryInfo 1 Streams 200))
    ∷ calls 4 (Ask (request.QueryInfo 1 Internal 7))
    ∷ calls 5 (Tick 3)
    ∷ calls 6 (Ask (request.SetBasic 1 18446744073709551615 0 5 0 0x2))
    ∷ calls 7 (Ask (request.QueryInfo 1 Basic 40))
    ∷ calls 8 (Ask (request.Flush 1))
    ∷ []))
    ≡ Some
    (codes "SUCCESS created"
    ∷ codes "SUCCESS 2"
    ∷ (codes "SUCCESS x280000000e000000000000000000000000000000000000003a003a00240044004100540041000000"
    ++ codes "0000000010000000020000000000000000100000000000003a0073003a0024004400410054004100")
    ∷ codes "INFO_LENGTH_MISMATCH"
    ∷ codes "SUCCESS"
    ∷ codes "SUCCESS"
    ∷ codes "SUCCESS x00000000000000000000000000000000050000000000000003000000000000000200000000000000"
    ∷ codes "SUCCESS"
    ∷ [])
unfolding digits try_create create_at create_walked create_named create_by_link create_found create_there create_in_file create_stream create_on_stream open_stream open_directory open_granted overwrite_existing open_existing clashed create_missing make_file make_directory stopped try_write write_at write_by write_stream write_at_place write_range write_unlocked write_grown write_bytes try_flush flush_at try_query_info query_info_at query_info_by query_file query_streams query_streams_by try_set_basic set_basic_at set_basic_by set_basic_of head name_field entry_bytes zeros
information_run = refl
