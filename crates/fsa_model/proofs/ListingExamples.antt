-- Listing a directory, worked by hand from the rules and shown by computation: what is refused and in which order,
-- which entries are given, with which bytes, where the enumeration stands afterwards, and a whole run.
use Rattle.std.specs.Prelude.{◌≡◌, ℕ, Bool, true, false, List, [], ◌∷◌, ◌++◌, map, Option, Some, None, codes, option_map, replicate, refl}
use Rattle.fsa_types.specs.CaseTable.{ascii_pairs}
use Rattle.fsa_types.specs.LittleEndian.{zeros}
use Rattle.fsa_types.specs.Packing.{head, name_field, entry_bytes}
use Rattle.fsa_types.specs.Status.{status_name}
use Rattle.fsa_types.specs.declared.reply.Answer.{Answer}
use Rattle.fsa_types.specs.declared.reply.Answer.TheVariants.{Ended, Pending}
use Rattle.fsa_types.specs.declared.reply.Body.{Body}
use Rattle.fsa_types.specs.declared.reply.Body.TheVariants.{Nothing, Packed}
use Rattle.fsa_types.specs.declared.reply.PackKind.TheVariants as pack
use Rattle.fsa_types.specs.declared.reply.Reply.{Reply}
use Rattle.fsa_types.specs.declared.request.DirKind.{DirKind}
use Rattle.fsa_types.specs.declared.request.DirKind.TheVariants.{Names, Dir, Full, IdFull}
use Rattle.fsa_types.specs.declared.request.Disposition.TheVariants.{CreateNew, OpenExisting}
use Rattle.fsa_types.specs.declared.request.Request.{Request}
use Rattle.fsa_types.specs.declared.request.Request.TheVariants as request
use Rattle.fsa_types.specs.declared.request.What.TheVariants.{Ask}
use Rattle.fsa_types.specs.declared.status.Status.{Status}
use Rattle.fsa_types.specs.declared.status.Status.TheVariants.{Success, InvalidHandle, InvalidParameter, AccessDenied, ObjectNameInvalid, InfoLengthMismatch, NoSuchFile, NoMoreFiles, BufferOverflow}
use Rattle.fsa_model.specs.History.{HistoryEntry, run}
use Rattle.fsa_model.specs.Open.{try_create, create_at, create_walked, create_named, create_by_link, create_found, create_there, create_in_file, create_stream, create_on_stream, open_stream, open_directory, open_granted, overwrite_existing, open_existing, clashed, create_missing, make_file, make_directory, stopped}
use Rattle.fsa_model.specs.Outcome.{Outcome, Done}
use Rattle.fsa_model.specs.QueryDir.{try_query_dir, query_dir_at, query_dir_by, query_dir_in, list_entries}
use Rattle.fsa_model.specs.Setup.{Setup}
use Rattle.fsa_model.specs.Text.{body_text, bytes_text}
use Rattle.fsa_model.specs.Volume.{Cursor, Start, Dot, DotDot, After, File, Link, Stream, Handle, Volume, fresh}

-- ---- what is there

-- a file or directory with these attributes and times
abbrev pub file_at : Bool → ℕ → ℕ → ℕ → ℕ → ℕ → File
file_at directory attributes creation access write change = record {
  directory = directory;
  attributes = attributes;
  creation = creation;
  access = access;
  write = write;
  change = change;
  owner = 7;
  dacl = None;
  point = None;
}

abbrev pub link_at : ℕ → List ℕ → ℕ → Bool → Link
link_at parent name file deleted = record { parent = parent; name = name; file = file; deleted = deleted }

abbrev pub stream_at : ℕ → List ℕ → List ℕ → Stream
stream_at file name bytes = record { file = file; name = name; bytes = bytes; deleted = false }

abbrev pub handle_at : ℕ → ℕ → ℕ → Option ℕ → ℕ → Option (List ℕ × Cursor) → Handle
handle_at client number link stream access enumeration = record {
  client = client;
  number = number;
  link = link;
  stream = stream;
  access = access;
  share = 0x7;
  key = 0;
  delete_on_close = false;
  enumeration = enumeration;
}

-- in the root, which is HIDDEN, are the directory 2 `d`, marked or not, and the file 4 as `z`. In `d` are, in
-- this order, the file 3 `B.txt`, READONLY and ARCHIVE, of 5 bytes, with a stream `s` of one; the file 4 `a`, which is
-- empty and has a reparse point; the directory 5 `e`; the file 3 again as `c`, marked; and the file 6 `!` of 4,097
-- bytes. Client 0 has `d` open, where its enumeration stands so (1), the root (2), `B.txt` (3), and with all rights but
-- READ_DATA its stream `s` (4) and `d` (5); client 1 has `d` open (1)
abbrev pub volume : Bool → Option (List ℕ × Cursor) → Volume
volume marked enumeration = record (fresh (record {
  table = ascii_pairs;
  clients = record { name = codes "a"; sids = 7 ∷ [] } ∷ record { name = codes "b"; sids = 9 ∷ [] } ∷ [];
})) {
  files = (1, file_at true 0x2 11 12 13 14)
      ∷ (2, file_at true 0x0 21 22 23 24)
      ∷ (3, file_at false 0x21 31 32 33 34)
      ∷ (4, record (file_at false 0x0 41 42 43 44) { point = Some (0xA000000C, 5 ∷ []) })
      ∷ (5, file_at true 0x0 51 52 53 54)
      ∷ (6, file_at false 0x0 61 62 63 64)
      ∷ [];
  links = (1, link_at 1 (codes "d") 2 marked)
      ∷ (2, link_at 2 (codes "B.txt") 3 false)
      ∷ (3, link_at 2 (codes "a") 4 false)
      ∷ (4, link_at 2 (codes "e") 5 false)
      ∷ (5, link_at 2 (codes "c") 3 true)
      ∷ (6, link_at 1 (codes "z") 4 false)
      ∷ (7, link_at 2 (codes "!") 6 false)
      ∷ [];
  streams = (1, stream_at 3 (codes "s") (9 ∷ []))
      ∷ (2, stream_at 3 [] (1 ∷ 2 ∷ 3 ∷ 4 ∷ 5 ∷ []))
      ∷ (3, stream_at 4 [] [])
      ∷ (4, stream_at 6 [] (replicate 4097 1))
      ∷ [];
  handles = (11, handle_at 0 1 1 None 0x1 enumeration)
      ∷ (12, handle_at 0 2 0 None 0x1 None)
      ∷ (13, handle_at 0 3 2 (Some 2) 0x1 None)
      ∷ (14, handle_at 0 4 2 (Some 1) 0x1F01FE None)
      ∷ (15, handle_at 0 5 1 None 0x1F01FE None)
      ∷ (16, handle_at 1 1 1 None 0x1 (Some (codes "q", DotDot)))
      ∷ [];
  clock = 99;
  last_file = 6;
  last_link = 7;
  last_stream = 4;
  last_handle = 16;
}

-- nothing was listed by client 0's handle 1
abbrev pub before : Volume
before = volume false None

-- it was, with this expression, and stands there
abbrev pub stands : List ℕ → Cursor → Volume
stands expression cursor = volume false (Some (expression, cursor))

abbrev pub ends : Volume → Status → Outcome
ends v status = Done v (record { status = status; body = Nothing })

-- the status and the bytes as they are printed
abbrev pub packed_text : Body → List ℕ
packed_text (Packed kind bytes) = 32 ∷ bytes_text bytes
packed_text body = body_text body

abbrev pub printed : Reply → List ℕ
printed reply = status_name reply.status ++ packed_text reply.body

abbrev pub text_of : Outcome → List ℕ
text_of (Done v reply) = printed reply
text_of _ = []

-- where the enumeration of client 0's handle 1 stands afterwards
abbrev pub first_enumeration : List (ℕ × Handle) → Option (List ℕ × Cursor)
first_enumeration [] = None
first_enumeration (first ∷ others) = first.1.enumeration

abbrev pub enumeration_after : Outcome → Option (List ℕ × Cursor)
enumeration_after (Done v reply) = first_enumeration v.handles
enumeration_after _ = None

-- client 0 asks it of handle 1, for the first time or going on, with all room; anew; with this room
abbrev pub lists : Volume → List ℕ → Outcome
lists v expression = try_query_dir v 0 1 Names expression false 16384

abbrev pub restarts : Volume → List ℕ → Outcome
restarts v expression = try_query_dir v 0 1 Names expression true 16384

abbrev pub lists_in : Volume → ℕ → Outcome
lists_in v room = try_query_dir v 0 1 Names [] false room

-- ---- what is refused

-- a number that is none of the client's: no call's, a handle's own, and that of another client's handle; nothing
-- else is asked before it
pub query_without_handle :
    try_query_dir before 0 6 Names (codes "a:b") false 0
    ∷ try_query_dir before 0 11 Names [] true 16384
    ∷ try_query_dir before 0 0 IdFull [] false 16384
    ∷ try_query_dir before 1 2 Dir [] false 0
    ∷ []
    ≡ replicate 4 (ends before InvalidHandle)
unfolding try_query_dir query_dir_at query_dir_by
query_without_handle = refl

-- a file's handle, that of its stream without READ_DATA, and a directory's without it, the expression and the room being
-- bad too
pub query_by_handle :
    try_query_dir before 0 3 Names (codes "a:b") false 0
    ∷ try_query_dir before 0 4 Names [] true 16384
    ∷ try_query_dir before 0 5 Names (codes "a:b") false 0
    ∷ try_query_dir before 0 5 Full [] false 16384
    ∷ []
    ≡ ends before InvalidParameter
    ∷ ends before InvalidParameter
    ∷ ends before AccessDenied
    ∷ ends before AccessDenied
    ∷ []
unfolding try_query_dir query_dir_at query_dir_by
query_by_handle = refl

-- 256 units; a unit below 0x20; each of `\ / : |`, at any place; with a room that is too small as well; and also
-- where the expression would be ignored
pub query_with_bad_expression :
    lists before (replicate 256 42)
    ∷ lists before (0x1F ∷ [])
    ∷ lists before (42 ∷ 0 ∷ [])
    ∷ lists before (codes "\\")
    ∷ lists before (codes "a/b")
    ∷ lists before (codes "*:")
    ∷ restarts before (codes "|a")
    ∷ try_query_dir before 0 1 IdFull (codes "|") true 0
    ∷ []
    ≡ replicate 8 (ends before ObjectNameInvalid)
unfolding try_query_dir query_dir_at query_dir_by
query_with_bad_expression = refl

pub later_bad_expression :
    lists (stands (codes "*") Dot) (codes "a:b") ∷ restarts (stands (codes "*") Dot) (codes "a:b") ∷ []
    ≡ replicate 2 (ends (stands (codes "*") Dot) ObjectNameInvalid)
unfolding try_query_dir query_dir_at query_dir_by
later_bad_expression = refl

-- 255 units, and the unit 0x20, are none of these
pub query_with_largest_expression :
    lists before (replicate 255 97) ∷ lists before (0x20 ∷ []) ∷ []
    ≡ ends (stands (replicate 255 97) Start) NoSuchFile ∷ ends (stands (0x20 ∷ []) Start) NoSuchFile ∷ []
unfolding try_query_dir query_dir_at query_dir_by query_dir_in list_entries head name_field entry_bytes zeros
query_with_largest_expression = refl

-- the room below the place of the name; from there on the query begins, and `.` doesn't fit below two bytes more
pub query_rooms :
    map {B = Outcome} (λ (asked : DirKind × ℕ). try_query_dir before 0 1 asked.0 [] false asked.1)
    ((Names, 0) ∷ (Names, 11) ∷ (Dir, 0) ∷ (Dir, 63) ∷ (Full, 64) ∷ (Full, 67) ∷ (IdFull, 68) ∷ (IdFull, 79) ∷ [])
    ≡ replicate 8 (ends before InfoLengthMismatch)
unfolding try_query_dir query_dir_at query_dir_by query_dir_in list_entries
query_rooms = refl

pub query_rooms_at_the_name :
    map {B = Outcome} (λ (asked : DirKind × ℕ). try_query_dir before 0 1 asked.0 [] false asked.1)
    ((Names, 12) ∷ (Names, 13) ∷ (Dir, 64) ∷ (Dir, 65) ∷ (Full, 68) ∷ (Full, 69) ∷ (IdFull, 80) ∷ (IdFull, 81) ∷ [])
    ≡ replicate 8 (ends (stands (codes "*") Start) BufferOverflow)
unfolding try_query_dir query_dir_at query_dir_by query_dir_in list_entries head name_field entry_bytes zeros
query_rooms_at_the_name = refl

-- ---- what is given, and where it stands then

-- the entries of `d` take 14, 32, 46, 62, 86 and 102 bytes: as many as fit, and the enumeration stands at the last one
pub query_fits :
    map {B = Option (List ℕ × Cursor)} (λ room. enumeration_after (lists_in before room)) (14 ∷ 31 ∷ 32 ∷ 45 ∷ 46 ∷ 61 ∷ 62 ∷ 85 ∷ 86 ∷ 101 ∷ 102 ∷ 16384 ∷ [])
    ≡ map {B = Option (List ℕ × Cursor)} (λ cursor. Some (codes "*", cursor))
    (Dot ∷ Dot
    ∷ DotDot ∷ DotDot
    ∷ After (codes "!") ∷ After (codes "!")
    ∷ After (codes "a") ∷ After (codes "a")
    ∷ After (codes "B.txt") ∷ After (codes "B.txt")
    ∷ After (codes "e") ∷ After (codes "e")
    ∷ [])
unfolding try_query_dir query_dir_at query_dir_by query_dir_in list_entries head name_field entry_bytes zeros
query_fits = refl

pub given_in_rooms :
    map {B = List ℕ} (λ room. text_of (lists_in before room)) (14 ∷ 32 ∷ 86 ∷ 101 ∷ 102 ∷ [])
    ≡ (codes "SUCCESS x0000000000000000020000002e00")
    ∷ (codes "SUCCESS x1000000000000000020000002e000000" ++ codes "0000000000000000040000002e002e00")
    ∷ (codes "SUCCESS x1000000000000000020000002e000000" ++ codes "1000000000000000040000002e002e00" ++ codes "10000000000000000200000021000000" ++ codes "10000000000000000200000061000000" ++ codes "00000000000000000a00000042002e00740078007400")
    ∷ (codes "SUCCESS x1000000000000000020000002e000000" ++ codes "1000000000000000040000002e002e00" ++ codes "10000000000000000200000021000000" ++ codes "10000000000000000200000061000000" ++ codes "00000000000000000a00000042002e00740078007400")
    ∷ (codes "SUCCESS x1000000000000000020000002e000000" ++ codes "1000000000000000040000002e002e00" ++ codes "10000000000000000200000021000000" ++ codes "10000000000000000200000061000000" ++ codes "18000000000000000a00000042002e007400780074000000" ++ codes "0000000000000000020000006500")
    ∷ []
unfolding try_query_dir query_dir_at query_dir_by query_dir_in list_entries head name_field entry_bytes zeros
given_in_rooms = refl

-- going on from each place: from the last name given, also where that is no name of the directory, in any case of the
-- letters; the marked link isn't listed, and none of another directory
pub goes_on :
    map {B = List ℕ} (λ cursor. text_of (lists (stands (codes "*") cursor) []))
    (Dot ∷ DotDot ∷ After (codes "!") ∷ After (codes "A") ∷ After (codes "B") ∷ After (codes "b.TXT") ∷ After (codes "B.txt ") ∷ After (codes "E") ∷ After (codes "f") ∷ [])
    ≡ (codes "SUCCESS x1000000000000000040000002e002e00" ++ codes "10000000000000000200000021000000" ++ codes "10000000000000000200000061000000" ++ codes "18000000000000000a00000042002e007400780074000000" ++ codes "0000000000000000020000006500")
    ∷ (codes "SUCCESS x10000000000000000200000021000000" ++ codes "10000000000000000200000061000000" ++ codes "18000000000000000a00000042002e007400780074000000" ++ codes "0000000000000000020000006500")
    ∷ (codes "SUCCESS x10000000000000000200000061000000" ++ codes "18000000000000000a00000042002e007400780074000000" ++ codes "0000000000000000020000006500")
    ∷ (codes "SUCCESS x18000000000000000a00000042002e007400780074000000" ++ codes "0000000000000000020000006500")
    ∷ (codes "SUCCESS x18000000000000000a00000042002e007400780074000000" ++ codes "0000000000000000020000006500")
    ∷ (codes "SUCCESS x0000000000000000020000006500")
    ∷ (codes "SUCCESS x0000000000000000020000006500")
    ∷ codes "NO_MORE_FILES"
    ∷ codes "NO_MORE_FILES"
    ∷ []
unfolding try_query_dir query_dir_at query_dir_by query_dir_in list_entries head name_field entry_bytes zeros
goes_on = refl

-- where nothing is left the enumeration stays where it is; at the start there is no such file, again and again
pub none_left :
    lists (stands (codes "*") (After (codes "e"))) (codes "a")
    ∷ lists (stands (codes "a*") (After (codes "A"))) []
    ∷ lists before (codes "q*")
    ∷ lists (stands (codes "q*") Start) (codes "*")
    ∷ restarts (stands (codes "*") (After (codes "e"))) (codes "q*")
    ∷ []
    ≡ ends (stands (codes "*") (After (codes "e"))) NoMoreFiles
    ∷ ends (stands (codes "a*") (After (codes "A"))) NoMoreFiles
    ∷ ends (stands (codes "q*") Start) NoSuchFile
    ∷ ends (stands (codes "q*") Start) NoSuchFile
    ∷ ends (stands (codes "q*") Start) NoSuchFile
    ∷ []
unfolding try_query_dir query_dir_at query_dir_by query_dir_in list_entries head name_field entry_bytes zeros
none_left = refl

-- an entry that doesn't fit is given whole by a later query, and stops the smaller one behind it
pub overflow_on_the_way :
    map {B = Outcome} (lists_in (stands (codes "*") (After (codes "a")))) (21 ∷ 12 ∷ [])
    ≡ replicate 2 (ends (stands (codes "*") (After (codes "a"))) BufferOverflow)
unfolding try_query_dir query_dir_at query_dir_by query_dir_in list_entries head name_field entry_bytes zeros
overflow_on_the_way = refl

pub given_after_overflow :
    text_of (lists_in (stands (codes "*") (After (codes "a"))) 22) ≡ codes "SUCCESS x00000000000000000a00000042002e00740078007400"
unfolding try_query_dir query_dir_at query_dir_by query_dir_in list_entries head name_field entry_bytes zeros
given_after_overflow = refl

-- a restart begins anew also where the first entry doesn't fit; one that is refused before leaves all as it was
pub restart_with_small_room :
    try_query_dir (stands (codes "*") (After (codes "a"))) 0 1 Names [] true 13
    ∷ try_query_dir (stands (codes "*") (After (codes "a"))) 0 1 Names [] true 11
    ∷ []
    ≡ ends (stands (codes "*") Start) BufferOverflow
    ∷ ends (stands (codes "*") (After (codes "a"))) InfoLengthMismatch
    ∷ []
unfolding try_query_dir query_dir_at query_dir_by query_dir_in list_entries head name_field entry_bytes zeros
restart_with_small_room = refl

-- ---- expressions

-- the first query keeps its expression, or `*` for an empty one; a restart keeps its own, or for an empty one the one
-- before; a later one is ignored
pub expressions_kept :
    map {B = Option (List ℕ × Cursor)} enumeration_after
    (lists before [] ∷ lists before (codes "b*") ∷ restarts before [] ∷ restarts before (codes "b*")
    ∷ lists (stands (codes "e") Start) (codes "b*") ∷ lists (stands (codes "e") Dot) [] ∷ lists (stands (codes "b*") DotDot) (codes "e")
    ∷ restarts (stands (codes "b*") (After (codes "e"))) [] ∷ restarts (stands (codes "b*") (After (codes "e"))) (codes "e") ∷ [])
    ≡ Some (codes "*", After (codes "e"))
    ∷ Some (codes "b*", After (codes "B.txt"))
    ∷ Some (codes "*", After (codes "e"))
    ∷ Some (codes "b*", After (codes "B.txt"))
    ∷ Some (codes "e", After (codes "e"))
    ∷ Some (codes "e", After (codes "e"))
    ∷ Some (codes "b*", After (codes "B.txt"))
    ∷ Some (codes "b*", After (codes "B.txt"))
    ∷ Some (codes "e", After (codes "e"))
    ∷ []
unfolding try_query_dir query_dir_at query_dir_by query_dir_in list_entries head name_field entry_bytes zeros
expressions_kept = refl

-- all, and one each of its names; one unit; a dot in it; `<`, `>` and `"`; case of the letters
pub expressions_match :
    map {B = List ℕ} (λ expression. text_of (lists before expression)) (codes "." ∷ codes ".." ∷ codes "?" ∷ codes "*.*" ∷ codes "*." ∷ codes "<.txt" ∷ codes "<" ∷ codes "\"" ∷ codes "\"\"" ∷ codes ">" ∷ codes ">.>>>" ∷ codes "A" ∷ codes "b.TXT" ∷ [])
    ≡ (codes "SUCCESS x0000000000000000020000002e00")
    ∷ (codes "SUCCESS x0000000000000000040000002e002e00")
    ∷ (codes "SUCCESS x1000000000000000020000002e000000" ++ codes "10000000000000000200000021000000" ++ codes "10000000000000000200000061000000" ++ codes "0000000000000000020000006500")
    ∷ (codes "SUCCESS x1000000000000000020000002e000000" ++ codes "1000000000000000040000002e002e00" ++ codes "00000000000000000a00000042002e00740078007400")
    ∷ (codes "SUCCESS x1000000000000000020000002e000000" ++ codes "0000000000000000040000002e002e00")
    ∷ (codes "SUCCESS x00000000000000000a00000042002e00740078007400")
    ∷ (codes "SUCCESS x10000000000000000200000021000000" ++ codes "10000000000000000200000061000000" ++ codes "0000000000000000020000006500")
    ∷ (codes "SUCCESS x0000000000000000020000002e00")
    ∷ (codes "SUCCESS x1000000000000000020000002e000000" ++ codes "0000000000000000040000002e002e00")
    ∷ (codes "SUCCESS x10000000000000000200000021000000" ++ codes "10000000000000000200000061000000" ++ codes "0000000000000000020000006500")
    ∷ (codes "SUCCESS x1000000000000000020000002e000000" ++ codes "00000000000000000a00000042002e00740078007400")
    ∷ (codes "SUCCESS x0000000000000000020000006100")
    ∷ (codes "SUCCESS x00000000000000000a00000042002e00740078007400")
    ∷ []
unfolding try_query_dir query_dir_at query_dir_by query_dir_in list_entries head name_field entry_bytes zeros
expressions_match = refl

-- no name: a marked link's, that of another directory, and the other expressions that match none
pub expressions_match_none :
    map {B = List ℕ} (λ expression. text_of (lists before expression)) (codes "c" ∷ codes "z" ∷ codes "d" ∷ codes "~" ∷ codes "e?" ∷ codes "B<txt.t" ∷ [])
    ≡ replicate 6 (codes "NO_SUCH_FILE")
unfolding try_query_dir query_dir_at query_dir_by query_dir_in list_entries head name_field entry_bytes zeros
expressions_match_none = refl

-- ---- the root, a marked directory, and another handle

-- the root has neither `.` nor `..`
pub root_entries :
    map {B = List ℕ} (λ expression. text_of (try_query_dir before 0 2 Names expression false 16384)) ([] ∷ codes "." ∷ codes ".." ∷ codes "\"" ∷ [])
    ≡ codes "SUCCESS x100000000000000002000000640000000000000000000000020000007a00"
    ∷ codes "NO_SUCH_FILE"
    ∷ codes "NO_SUCH_FILE"
    ∷ codes "NO_SUCH_FILE"
    ∷ []
unfolding try_query_dir query_dir_at query_dir_by query_dir_in list_entries head name_field entry_bytes zeros
root_entries = refl

pub empty_root :
    text_of (try_query_dir (record before { links = [] }) 0 2 Names [] false 16384) ≡ codes "NO_SUCH_FILE"
unfolding try_query_dir query_dir_at query_dir_by query_dir_in list_entries head name_field entry_bytes zeros
empty_root = refl

-- a directory that is marked is listed as before, and not in its parent
pub marked_directory :
    text_of (try_query_dir (volume true None) 0 1 Names (codes "e") false 14)
    ∷ text_of (try_query_dir (volume true None) 0 2 Names [] false 16384)
    ∷ []
    ≡ codes "SUCCESS x0000000000000000020000006500"
    ∷ codes "SUCCESS x0000000000000000020000007a00"
    ∷ []
unfolding try_query_dir query_dir_at query_dir_by query_dir_in list_entries head name_field entry_bytes zeros
marked_directory = refl

-- each handle has an enumeration of its own, and nothing else of the volume changes
pub other_handle :
    map {B = List ℕ} text_of (try_query_dir (stands (codes "e") Start) 1 1 Names (codes "*") false 16384 ∷ try_query_dir (stands (codes "e") Start) 1 1 Names [] true 16384 ∷ [])
    ≡ codes "NO_MORE_FILES" ∷ codes "NO_SUCH_FILE" ∷ []
unfolding try_query_dir query_dir_at query_dir_by query_dir_in list_entries head name_field entry_bytes zeros
other_handle = refl

pub listed_volume :
    lists_in before 14
    ≡ Done (stands (codes "*") Dot) (record { status = Success; body = Packed pack.Names (0 ∷ 0 ∷ 0 ∷ 0 ∷ 0 ∷ 0 ∷ 0 ∷ 0 ∷ 2 ∷ 0 ∷ 0 ∷ 0 ∷ 46 ∷ 0 ∷ []) })
unfolding try_query_dir query_dir_at query_dir_by query_dir_in list_entries head name_field entry_bytes zeros
listed_volume = refl

-- ---- the other layouts

-- times, length and space of the default stream, attributes: DIRECTORY for a directory, REPARSE_POINT with a point,
-- NORMAL for none, and `..` shows the root
pub dir_bytes :
    text_of (try_query_dir before 0 1 Dir [] false 434)
    ≡ codes "SUCCESS x480000000000000015000000000000001600000000000000170000000000000018000000000000000000000000000000000000000000000010000000020000002e00000000000000"
    ++ codes "48000000000000000b000000000000000c000000000000000d000000000000000e000000000000000000000000000000000000000000000012000000040000002e002e0000000000"
    ++ codes "48000000000000003d000000000000003e000000000000003f0000000000000040000000000000000110000000000000002000000000000080000000020000002100000000000000"
    ++ codes "480000000000000029000000000000002a000000000000002b000000000000002c000000000000000000000000000000000000000000000000040000020000006100000000000000"
    ++ codes "50000000000000001f0000000000000020000000000000002100000000000000220000000000000005000000000000000010000000000000210000000a00000042002e00740078007400000000000000"
    ++ codes "000000000000000033000000000000003400000000000000350000000000000036000000000000000000000000000000000000000000000010000000020000006500"
unfolding try_query_dir query_dir_at query_dir_by query_dir_in list_entries head name_field entry_bytes zeros
dir_bytes = refl

pub full_bytes :
    text_of (try_query_dir before 0 1 Full [] false 438)
    ≡ codes "SUCCESS x48000000000000001500000000000000160000000000000017000000000000001800000000000000000000000000000000000000000000001000000002000000000000002e000000"
    ++ codes "48000000000000000b000000000000000c000000000000000d000000000000000e00000000000000000000000000000000000000000000001200000004000000000000002e002e00"
    ++ codes "48000000000000003d000000000000003e000000000000003f0000000000000040000000000000000110000000000000002000000000000080000000020000000000000021000000"
    ++ codes "480000000000000029000000000000002a000000000000002b000000000000002c000000000000000000000000000000000000000000000000040000020000000000000061000000"
    ++ codes "50000000000000001f0000000000000020000000000000002100000000000000220000000000000005000000000000000010000000000000210000000a0000000000000042002e007400780074000000"
    ++ codes "00000000000000003300000000000000340000000000000035000000000000003600000000000000000000000000000000000000000000001000000002000000000000006500"
unfolding try_query_dir query_dir_at query_dir_by query_dir_in list_entries head name_field entry_bytes zeros
full_bytes = refl

pub id_full_bytes :
    text_of (try_query_dir before 0 1 IdFull [] false 530)
    ≡ codes "SUCCESS x58000000000000001500000000000000160000000000000017000000000000001800000000000000000000000000000000000000000000001000000002000000000000000000000002000000000000002e00000000000000"
    ++ codes "58000000000000000b000000000000000c000000000000000d000000000000000e00000000000000000000000000000000000000000000001200000004000000000000000000000001000000000000002e002e0000000000"
    ++ codes "58000000000000003d000000000000003e000000000000003f000000000000004000000000000000011000000000000000200000000000008000000002000000000000000000000006000000000000002100000000000000"
    ++ codes "580000000000000029000000000000002a000000000000002b000000000000002c00000000000000000000000000000000000000000000000004000002000000000000000000000004000000000000006100000000000000"
    ++ codes "60000000000000001f0000000000000020000000000000002100000000000000220000000000000005000000000000000010000000000000210000000a0000000000000000000000030000000000000042002e00740078007400000000000000"
    ++ codes "00000000000000003300000000000000340000000000000035000000000000003600000000000000000000000000000000000000000000001000000002000000000000000000000005000000000000006500"
unfolding try_query_dir query_dir_at query_dir_by query_dir_in list_entries head name_field entry_bytes zeros
id_full_bytes = refl

-- one byte less, and the last entry isn't given
pub one_byte_less :
    map {B = Option (List ℕ × Cursor)} enumeration_after
    (try_query_dir before 0 1 Dir [] false 433 ∷ try_query_dir before 0 1 Full [] false 437 ∷ try_query_dir before 0 1 IdFull [] false 529 ∷ [])
    ≡ replicate 3 (Some (codes "*", After (codes "B.txt")))
unfolding try_query_dir query_dir_at query_dir_by query_dir_in list_entries head name_field entry_bytes zeros
one_byte_less = refl

-- ---- a whole run

abbrev setup : Setup
setup = record {
  table = ascii_pairs;
  clients = record { name = codes "a"; sids = 7 ∷ [] } ∷ record { name = codes "b"; sids = 9 ∷ [] } ∷ [];
}

abbrev asks : ℕ → Request → HistoryEntry
asks number request = record { call = record { client = 0; number = number; what = Ask request }; starved = [] }

abbrev makes : List ℕ → Request
makes path = request.Create path 0x1 0x7 CreateNew 0x0 0x0 0

abbrev answer_text : Answer → List ℕ
answer_text (Ended reply) = printed reply
answer_text (Pending interim) = codes "PENDING"

-- a listing of the root goes on behind the last name given, names that were made in between among them; rooms that
-- are too small, no match, and an expression with `<`
pub listing_run :
    option_map (λ r. map {B = List ℕ} (λ out. answer_text out.answer) r.outs)
    (run setup
    (asks 1 (request.Create (codes "\\") 0x1 0x7 OpenExisting 0x1 0x0 0)
    ∷ asks 2 (makes (codes "\\b"))
    ∷ asks 3 (makes (codes "\\d"))
    ∷ asks 4 (request.QueryDir 1 Names [] false 14)
    ∷ asks 5 (makes (codes "\\a"))
    ∷ asks 6 (makes (codes "\\c"))
    ∷ asks 7 (request.QueryDir 1 Names [] false 16384)
    ∷ asks 8 (request.QueryDir 1 Names [] false 16384)
    ∷ asks 9 (request.QueryDir 1 Names [] true 13)
    ∷ asks 10 (request.QueryDir 1 Names (codes "q*") true 100)
    ∷ asks 11 (makes (codes "\\x.y.txt"))
    ∷ asks 12 (request.QueryDir 1 Names (codes "<.txt") true 100)
    ∷ []))
    ≡ Some
    (codes "SUCCESS opened"
    ∷ codes "SUCCESS created"
    ∷ codes "SUCCESS created"
    ∷ codes "SUCCESS x0000000000000000020000006200"
    ∷ codes "SUCCESS created"
    ∷ codes "SUCCESS created"
    ∷ codes "SUCCESS x100000000000000002000000630000000000000000000000020000006400"
    ∷ codes "NO_MORE_FILES"
    ∷ codes "BUFFER_OVERFLOW"
    ∷ codes "NO_SUCH_FILE"
    ∷ codes "SUCCESS created"
    ∷ codes "SUCCESS x00000000000000000e00000078002e0079002e00740078007400"
    ∷ [])
unfolding try_create create_at create_walked create_named create_by_link create_found create_there create_in_file create_stream create_on_stream open_stream open_directory open_granted overwrite_existing open_existing clashed create_missing make_file make_directory stopped try_query_dir query_dir_at query_dir_by query_dir_in list_entries head name_field entry_bytes zeros
listing_run = refl
