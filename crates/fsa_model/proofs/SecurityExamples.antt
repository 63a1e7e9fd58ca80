-- Setting the owner and the access list, worked by hand from the rules and shown by computation: what is
-- refused and in which order, the whole volume that is left, what is noted, and lines that say it.
use Rattle.std.specs.Prelude.{◌≡◌, ℕ, Bool, true, false, List, [], ◌∷◌, ◌++◌, map, Option, Some, None, Result, Ok, Err, codes, replicate, refl}
use Rattle.std.specs.Fmt.{digits}
use Rattle.std.specs.List.{flat_map}
use Rattle.fsa_types.specs.BoundedList.{full}
use Rattle.fsa_types.specs.CaseTable.{ascii_pairs}
use Rattle.fsa_types.specs.declared.request.Ace.{Ace}
use Rattle.fsa_types.specs.declared.request.Call.{Call}
use Rattle.fsa_types.specs.declared.request.DaclChange.{DaclChange}
use Rattle.fsa_types.specs.declared.request.DaclChange.TheVariants.{Keep, Remove, Put}
use Rattle.fsa_types.specs.declared.request.Disposition.{Disposition}
use Rattle.fsa_types.specs.declared.request.Disposition.TheVariants.{CreateNew, OpenExisting}
use Rattle.fsa_types.specs.declared.request.Level.TheVariants.{RWH}
use Rattle.fsa_types.specs.declared.request.Request.TheVariants as request
use Rattle.fsa_types.specs.declared.request.What.{What}
use Rattle.fsa_types.specs.declared.request.What.TheVariants.{Ask, WaitFor}
use Rattle.fsa_types.specs.declared.reply.Answer.TheVariants as answer
use Rattle.fsa_types.specs.declared.reply.Body.TheVariants.{Nothing}
use Rattle.fsa_types.specs.declared.status.Status.{Status}
use Rattle.fsa_types.specs.declared.status.Status.TheVariants.{Success, AccessDenied, InvalidHandle, QuotaExceeded}
use Rattle.fsa_model.specs.Close.{try_close, close_at, with_closed, try_leave, with_client_gone}
use Rattle.fsa_model.specs.Fault.{Kind, BadSyntax}
use Rattle.fsa_model.specs.Lines.{Line, RequestLine, client_at, sids_at, request_of, line_of}
use Rattle.fsa_model.specs.Lookups.{next_pending}
use Rattle.fsa_model.specs.Open.{try_create, create_at, create_walked, create_named, create_by_link, create_found, create_there, create_in_file, create_stream, create_on_stream, open_stream, open_directory, open_granted, overwrite_existing, open_existing, clashed, create_missing, make_file, make_directory, stopped}
use Rattle.fsa_model.specs.Outcome.{Outcome, Done}
use Rattle.fsa_model.specs.OpenLines.{disposition_at, create_fields}
use Rattle.fsa_model.specs.InformationLines.{set_security_fields, owner_at, ace_with, ace_of, aces_of, dacl_of, dacl_at}
use Rattle.fsa_model.specs.Requests.{what_of}
use Rattle.fsa_model.specs.Spelling.{line_text, is_line}
use Rattle.fsa_model.specs.Words.{field_at, number_at, mask_of, mask_at, text_of, text_at}
use Rattle.fsa_model.specs.Schedule.{plain}
use Rattle.fsa_model.specs.Script.{take_line, take_client, take_request, take_call, line_after, end_after, script_of}
use Rattle.fsa_model.specs.Security.{try_set_security, set_security_at, set_security_by, set_security_of}
use Rattle.fsa_model.specs.Setup.{Script}
use Rattle.fsa_model.specs.Text.{text}
use Rattle.fsa_model.specs.Turn.{turn, try}
use Rattle.fsa_model.specs.Volume.{File, Link, Stream, Handle, Pending, Change, Volume, fresh, root}
use Rattle.fsa_model.specs.Write.{try_write, write_at, write_by, write_stream, write_at_place, write_range, write_unlocked, write_grown, write_bytes}

-- ---- what is there

-- an entry that allows, and one that denies
abbrev pub allow : ℕ → ℕ → Ace
allow sid mask = record { allow = true; sid = sid; mask = mask }

abbrev pub deny : ℕ → ℕ → Ace
deny sid mask = record { allow = false; sid = sid; mask = mask }

-- the file 3, READONLY and HIDDEN, of owner 7, with a list of one entry
abbrev pub file : File
file = record {
  directory = false;
  attributes = 0x3;
  creation = 1;
  access = 2;
  write = 3;
  change = 4;
  owner = 7;
  dacl = Some (deny 9 0x2 ∷ []);
  point = Some (0xA000000C, 5 ∷ []);
}

-- the directory 2, of owner 7, without a list
abbrev pub directory : File
directory = record root { owner = 7; attributes = 0x20; creation = 1; access = 2; write = 3; change = 4 }

abbrev pub link_at : ℕ → List ℕ → ℕ → Bool → Link
link_at parent name file deleted = record { parent = parent; name = name; file = file; deleted = deleted }

abbrev pub stream_at : ℕ → List ℕ → List ℕ → Bool → Stream
stream_at file name bytes deleted = record { file = file; name = name; bytes = bytes; deleted = deleted }

abbrev pub handle_at : ℕ → ℕ → ℕ → Option ℕ → ℕ → Handle
handle_at client number link stream access = record {
  client = client;
  number = number;
  link = link;
  stream = stream;
  access = access;
  share = 0x7;
  key = 0;
  delete_on_close = false;
  enumeration = None;
}

-- the root, the directory 2, the file 3, the file 4 of owner 8, and the file 5 of owner 7
abbrev pub files_of : File → File → File → File → List (ℕ × File)
files_of top dir named empty = (1, top) ∷ (2, dir) ∷ (3, named) ∷ (4, record file { owner = 8 }) ∷ (5, empty) ∷ []

abbrev pub all_files : List (ℕ × File)
all_files = files_of root directory file file

-- noted before
abbrev pub earlier : Change
earlier = record { action = 1; bits = 0x1; seen_from = (1, codes "z") ∷ [] }

-- in the root are `d`, which is 2, `h`, which is 3 and marked, `g`, which is 4, and `z`, which is 5; in
-- `d` is `f`, which is 3 too. 3 has one byte, and one in its stream `s`, which is marked; 4 has one byte,
-- and 5 none. Client 0, with the SIDs 7 and 8, has `f` open with this access (1), and with both rights its
-- stream `s` (2), `h` (3), the root (4), `d` (5) and `z` (6). Client 1, with the SID 9, has `f` open (1),
-- with an oplock and a lock. The clock stands at 8
abbrev pub volume : ℕ → List (ℕ × ℕ) → List (ℕ × File) → List Change → Volume
volume access limits files changes = record (fresh (record {
  table = ascii_pairs;
  clients = record { name = codes "a"; sids = 7 ∷ 8 ∷ [] } ∷ record { name = codes "b"; sids = 9 ∷ [] } ∷ [];
})) {
  files = files;
  links = (1, link_at 1 (codes "d") 2 false)
      ∷ (2, link_at 2 (codes "f") 3 false)
      ∷ (3, link_at 1 (codes "h") 3 true)
      ∷ (4, link_at 1 (codes "g") 4 false)
      ∷ (5, link_at 1 (codes "z") 5 false)
      ∷ [];
  streams = (1, stream_at 3 [] (1 ∷ []) false)
      ∷ (2, stream_at 3 (codes "s") (2 ∷ []) true)
      ∷ (3, stream_at 4 [] (3 ∷ []) false)
      ∷ (4, stream_at 5 [] [] false)
      ∷ [];
  handles = (11, handle_at 0 1 2 (Some 1) access)
      ∷ (12, handle_at 0 2 2 (Some 2) 0xC0000)
      ∷ (13, handle_at 0 3 3 (Some 1) 0xC0000)
      ∷ (14, handle_at 0 4 0 None 0xC0000)
      ∷ (15, handle_at 0 5 1 None 0xC0000)
      ∷ (16, handle_at 0 6 5 (Some 4) 0xC0000)
      ∷ (17, handle_at 1 1 2 (Some 1) 0xC0000)
      ∷ [];
  locks = (1, record { handle = 17; at = 0; count = 10; exclusive = true }) ∷ [];
  oplocks = record { handle = 17; key = 5; level = RWH; target = None; number = 0; call = None } ∷ [];
  changes = earlier ∷ changes;
  limits = limits;
  clock = 8;
  last_file = 5;
  last_link = 5;
  last_stream = 4;
  last_handle = 17;
  last_lock = 1;
}

-- before the try, with both rights
abbrev pub before : List (ℕ × ℕ) → Volume
before limits = volume 0xC0000 limits all_files []

abbrev pub ends : Volume → Status → Outcome
ends v status = Done v (record { status = status; body = Nothing })

-- FILE_ACTION_MODIFIED with FILE_NOTIFY_CHANGE_SECURITY of `f` in `d`, of `h`, of `d` and of `z`
abbrev pub noted : List (ℕ × List ℕ) → Change
noted seen_from = record { action = 3; bits = 0x100; seen_from = seen_from }

abbrev pub noted_f : Change
noted_f = noted ((2, codes "f") ∷ (1, codes "d\\f") ∷ [])

abbrev pub noted_h : Change
noted_h = noted ((1, codes "h") ∷ [])

abbrev pub noted_d : Change
noted_d = noted ((1, codes "d") ∷ [])

abbrev pub noted_z : Change
noted_z = noted ((1, codes "z") ∷ [])

-- the file 3 was set by `f`: this is it now
abbrev pub left : File → Outcome
left now = ends (volume 0xC0000 [] (files_of root directory now file) (noted_f ∷ [])) Success

abbrev pub status_of : Outcome → Option Status
status_of (Done v reply) = Some reply.status
status_of _ = None

-- what is asked: an owner, and what becomes of the list
abbrev pub Wish : Type 0
Wish = Option ℕ × DaclChange

-- client 0 asks it by handle 1
abbrev pub tried : Volume → Wish → Outcome
tried v wish = try_set_security v 0 1 wish.0 wish.1

abbrev pub statuses : Volume → List Wish → List (Option Status)
statuses v wishes = map (λ wish. status_of (tried v wish)) wishes

-- ---- no handle, and no right

-- a number that is none of the client's: no call's, a handle's own, and that of another client's handle;
-- nothing else is asked before it
pub set_without_handle :
    try_set_security (before ((8, 0) ∷ [])) 0 7 None Keep
    ∷ try_set_security (before ((8, 0) ∷ [])) 0 11 (Some 9) Remove
    ∷ try_set_security (before ((8, 0) ∷ [])) 0 0 (Some 8) Keep
    ∷ try_set_security (before ((8, 0) ∷ [])) 1 2 (Some 9) (Put (full []))
    ∷ []
    ≡ ends (before ((8, 0) ∷ [])) InvalidHandle
    ∷ ends (before ((8, 0) ∷ [])) InvalidHandle
    ∷ ends (before ((8, 0) ∷ [])) InvalidHandle
    ∷ ends (before ((8, 0) ∷ [])) InvalidHandle
    ∷ []
unfolding try_set_security set_security_at set_security_by set_security_of
set_without_handle = refl

-- nothing asked; an owner; no list; a list; an empty list; an owner and no list; an owner and a list
abbrev pub wishes : List Wish
wishes = (None, Keep)
    ∷ (Some 8, Keep)
    ∷ (None, Remove)
    ∷ (None, Put (full (allow 9 0x1 ∷ [])))
    ∷ (None, Put (full []))
    ∷ (Some 8, Remove)
    ∷ (Some 7, Put (full (allow 9 0x1 ∷ [])))
    ∷ []

-- without any right, with all rights but WRITE_DAC and WRITE_OWNER, with one of them, with both, and with all
pub set_by_rights :
    map {B = List (Option Status)} (λ access. statuses (volume access [] all_files []) wishes) (0x0 ∷ 0x1301FF ∷ 0x40000 ∷ 0x80000 ∷ 0xC0000 ∷ 0x1F01FF ∷ [])
    ≡ (Some Success ∷ Some AccessDenied ∷ Some AccessDenied ∷ Some AccessDenied ∷ Some AccessDenied ∷ Some AccessDenied ∷ Some AccessDenied ∷ [])
    ∷ (Some Success ∷ Some AccessDenied ∷ Some AccessDenied ∷ Some AccessDenied ∷ Some AccessDenied ∷ Some AccessDenied ∷ Some AccessDenied ∷ [])
    ∷ (Some Success ∷ Some AccessDenied ∷ Some Success ∷ Some Success ∷ Some Success ∷ Some AccessDenied ∷ Some AccessDenied ∷ [])
    ∷ (Some Success ∷ Some Success ∷ Some AccessDenied ∷ Some AccessDenied ∷ Some AccessDenied ∷ Some AccessDenied ∷ Some AccessDenied ∷ [])
    ∷ (Some Success ∷ Some Success ∷ Some Success ∷ Some Success ∷ Some Success ∷ Some Success ∷ Some Success ∷ [])
    ∷ (Some Success ∷ Some Success ∷ Some Success ∷ Some Success ∷ Some Success ∷ Some Success ∷ Some Success ∷ [])
    ∷ []
unfolding try_set_security set_security_at set_security_by set_security_of
set_by_rights = refl

-- a refusal for want of a right changes nothing, not even what the other right would allow
pub set_without_right :
    tried (volume 0x40000 [] all_files []) (Some 8, Remove)
    ∷ tried (volume 0x80000 [] all_files []) (Some 8, Put (full (allow 9 0x1 ∷ [])))
    ∷ []
    ≡ ends (volume 0x40000 [] all_files []) AccessDenied
    ∷ ends (volume 0x80000 [] all_files []) AccessDenied
    ∷ []
unfolding try_set_security set_security_at set_security_by set_security_of
set_without_right = refl

-- the rights are the handle's: the file's own list isn't asked, nor its attributes
pub set_by_handle_of_other :
    try_set_security (before []) 1 1 None Remove ≡ left (record file { dacl = None; change = 8 })
unfolding try_set_security set_security_at set_security_by set_security_of
set_by_handle_of_other = refl

-- ---- a foreign owner

-- a SID that isn't the client's changes nothing, with a change of the list too
pub set_foreign_owner :
    tried (before []) (Some 9, Keep) ∷ tried (before []) (Some 0, Remove) ∷ tried (before []) (Some 9, Put (full [])) ∷ []
    ≡ ends (before []) AccessDenied ∷ ends (before []) AccessDenied ∷ ends (before []) AccessDenied ∷ []
unfolding try_set_security set_security_at set_security_by set_security_of
set_foreign_owner = refl

-- the present owner has to be the client's too: the file's, by client 1, and the root's
pub set_present_owner_of_other :
    try_set_security (before []) 1 1 (Some 7) Keep ∷ try_set_security (before []) 0 4 (Some 0) Keep ∷ []
    ≡ ends (before []) AccessDenied ∷ ends (before []) AccessDenied ∷ []
unfolding try_set_security set_security_at set_security_by set_security_of
set_present_owner_of_other = refl

-- ---- which refusal comes first

-- above his limit would be: an owner without WRITE_OWNER; one with it where WRITE_DAC is wanting; one who
-- isn't the client's
pub set_refused_in_order :
    tried (volume 0x40000 ((8, 0) ∷ []) all_files []) (Some 8, Keep)
    ∷ tried (volume 0x80000 ((8, 0) ∷ []) all_files []) (Some 8, Remove)
    ∷ tried (before ((9, 0) ∷ [])) (Some 9, Keep)
    ∷ []
    ≡ ends (volume 0x40000 ((8, 0) ∷ []) all_files []) AccessDenied
    ∷ ends (volume 0x80000 ((8, 0) ∷ []) all_files []) AccessDenied
    ∷ ends (before ((9, 0) ∷ [])) AccessDenied
    ∷ []
unfolding try_set_security set_security_at set_security_by set_security_of
set_refused_in_order = refl

-- ---- a new owner's limit

-- owner 8 is charged 4,096 for `g`, and with both streams of `f` 12,288, also by the handle of `s` and by
-- that of `h`
pub set_owner_at_limit :
    map {B = List (Option Status)}
    (λ bytes. map (λ handle. status_of (try_set_security (before ((7, 0) ∷ (8, bytes) ∷ [])) 0 handle (Some 8) Keep)) (1 ∷ 2 ∷ 3 ∷ []))
    (12288 ∷ 12287 ∷ 8192 ∷ [])
    ≡ (Some Success ∷ Some Success ∷ Some Success ∷ [])
    ∷ (Some QuotaExceeded ∷ Some QuotaExceeded ∷ Some QuotaExceeded ∷ [])
    ∷ (Some QuotaExceeded ∷ Some QuotaExceeded ∷ Some QuotaExceeded ∷ [])
    ∷ []
unfolding try_set_security set_security_at set_security_by set_security_of
set_owner_at_limit = refl

-- the refusal leaves the list too
pub set_owner_above_limit :
    tried (before ((8, 12287) ∷ [])) (Some 8, Remove) ∷ tried (before ((8, 12287) ∷ [])) (Some 8, Put (full [])) ∷ []
    ≡ ends (before ((8, 12287) ∷ [])) QuotaExceeded ∷ ends (before ((8, 12287) ∷ [])) QuotaExceeded ∷ []
unfolding try_set_security set_security_at set_security_by set_security_of
set_owner_above_limit = refl

-- a file of no bytes adds nothing, and one who is above his limit already is refused all the same; so is a
-- directory
pub set_owner_of_empty_file :
    map {B = List Outcome}
    (λ bytes. try_set_security (before ((8, bytes) ∷ [])) 0 6 (Some 8) Keep ∷ try_set_security (before ((8, bytes) ∷ [])) 0 5 (Some 8) Keep ∷ [])
    (4096 ∷ 4095 ∷ [])
    ≡ (ends (volume 0xC0000 ((8, 4096) ∷ []) (files_of root directory file (record file { owner = 8; change = 8 })) (noted_z ∷ [])) Success
    ∷ ends (volume 0xC0000 ((8, 4096) ∷ []) (files_of root (record directory { owner = 8; change = 8 }) file file) (noted_d ∷ [])) Success
    ∷ [])
    ∷ (ends (before ((8, 4095) ∷ [])) QuotaExceeded ∷ ends (before ((8, 4095) ∷ [])) QuotaExceeded ∷ [])
    ∷ []
unfolding try_set_security set_security_at set_security_by set_security_of
set_owner_of_empty_file = refl

-- the present owner above his limit may be asked for again, and is noted; his limit is no other's
pub set_present_owner :
    tried (before ((7, 0) ∷ [])) (Some 7, Keep) ∷ tried (before ((7, 0) ∷ [])) (Some 8, Keep) ∷ []
    ≡ ends (volume 0xC0000 ((7, 0) ∷ []) (files_of root directory (record file { change = 8 }) file) (noted_f ∷ [])) Success
    ∷ ends (volume 0xC0000 ((7, 0) ∷ []) (files_of root directory (record file { owner = 8; change = 8 }) file) (noted_f ∷ [])) Success
    ∷ []
unfolding try_set_security set_security_at set_security_by set_security_of
set_present_owner = refl

-- ---- what is left

-- nothing is asked: the change time is set, whatever the rights, and nothing is noted
pub set_nothing :
    map {B = Outcome} (λ access. tried (volume access ((7, 0) ∷ []) all_files []) (None, Keep)) (0x0 ∷ 0xC0000 ∷ [])
    ≡ ends (volume 0x0 ((7, 0) ∷ []) (files_of root directory (record file { change = 8 }) file) []) Success
    ∷ ends (volume 0xC0000 ((7, 0) ∷ []) (files_of root directory (record file { change = 8 }) file) []) Success
    ∷ []
unfolding try_set_security set_security_at set_security_by set_security_of
set_nothing = refl

-- an owner, no list, a list and an empty one, without and with an owner
pub set_something :
    map {B = Outcome}
    (λ wish. tried (before []) wish)
    ((Some 8, Keep)
    ∷ (None, Remove)
    ∷ (None, Put (full (allow 9 0x3 ∷ deny 7 0x1 ∷ [])))
    ∷ (None, Put (full []))
    ∷ (Some 8, Remove)
    ∷ (Some 8, Put (full (allow 9 0x3 ∷ deny 7 0x1 ∷ [])))
    ∷ [])
    ≡ left (record file { owner = 8; change = 8 })
    ∷ left (record file { dacl = None; change = 8 })
    ∷ left (record file { dacl = Some (allow 9 0x3 ∷ deny 7 0x1 ∷ []); change = 8 })
    ∷ left (record file { dacl = Some []; change = 8 })
    ∷ left (record file { owner = 8; dacl = None; change = 8 })
    ∷ left (record file { owner = 8; dacl = Some (allow 9 0x3 ∷ deny 7 0x1 ∷ []); change = 8 })
    ∷ []
unfolding try_set_security set_security_at set_security_by set_security_of
set_something = refl

-- each generic right, all of them with another, and two with a standard right; the order, the kinds, the
-- SIDs and the other bits stay, and so do entries that are alike
pub set_generic :
    tried (before []) (
      None,
      Put (full (
          allow 9 0x10000000
          ∷ deny 7 0x20000000
          ∷ allow 8 0x40000000
          ∷ deny 9 0x80000000
          ∷ allow 9 0xF0000002
          ∷ deny 0 0xC0010000
          ∷ allow 4294967295 0xFFFFFFF
          ∷ allow 9 0x0
          ∷ allow 9 0x0
          ∷ [])),
    )
    ≡ left (record file {
      change = 8;
      dacl = Some (
          allow 9 0x1F01FF
          ∷ deny 7 0x1200A0
          ∷ allow 8 0x120116
          ∷ deny 9 0x120089
          ∷ allow 9 0x1F01FF
          ∷ deny 0 0x13019F
          ∷ allow 4294967295 0xFFFFFFF
          ∷ allow 9 0x0
          ∷ allow 9 0x0
          ∷ []
          );
    })
unfolding try_set_security set_security_at set_security_by set_security_of
set_generic = refl

-- the room of the list that is given doesn't matter
pub set_with_room :
    tried (before []) (None, Put (record { items = allow 9 0x40000001 ∷ []; room = 7 })) ≡ left (record file { dacl = Some (allow 9 0x120117 ∷ []); change = 8 })
unfolding try_set_security set_security_at set_security_by set_security_of
set_with_room = refl

-- by a handle of a named stream the file is set, and noted as itself
pub set_by_stream :
    try_set_security (before []) 0 2 (Some 8) Remove ≡ left (record file { owner = 8; dacl = None; change = 8 })
unfolding try_set_security set_security_at set_security_by set_security_of
set_by_stream = refl

-- the link of the handle is noted, though it is marked, and no other of the file
pub set_by_link :
    try_set_security (before []) 0 3 None (Put (full []))
    ≡ ends (volume 0xC0000 [] (files_of root directory (record file { dacl = Some []; change = 8 }) file) (noted_h ∷ [])) Success
unfolding try_set_security set_security_at set_security_by set_security_of
set_by_link = refl

-- a directory is set and noted; what is in it isn't
pub set_directory :
    try_set_security (before []) 0 5 None (Put (full (deny 9 0x80000000 ∷ [])))
    ≡ ends (volume 0xC0000 [] (files_of root (record directory { dacl = Some (deny 9 0x120089 ∷ []); change = 8 }) file file) (noted_d ∷ [])) Success
unfolding try_set_security set_security_at set_security_by set_security_of
set_directory = refl

-- the root is set, and nothing is noted of it
pub set_root :
    try_set_security (before []) 0 4 (Some 7) (Put (full (allow 9 0x1 ∷ [])))
    ∷ try_set_security (before []) 0 4 None Remove
    ∷ try_set_security (before []) 0 4 None Keep
    ∷ []
    ≡ ends (volume 0xC0000 [] (files_of (record root { owner = 7; dacl = Some (allow 9 0x1 ∷ []); change = 8 }) directory file file) []) Success
    ∷ ends (volume 0xC0000 [] (files_of (record root { change = 8 }) directory file file) []) Success
    ∷ ends (volume 0xC0000 [] (files_of (record root { change = 8 }) directory file file) []) Success
    ∷ []
unfolding try_set_security set_security_at set_security_by set_security_of
set_root = refl

-- ---- a turn of it

-- each field comes to its place: client 1's call 5 by its handle 1
abbrev pub call_of : Call
call_of = record { client = 1; number = 5; what = Ask (request.SetSecurity 1 (Some 9) (Put (full (allow 7 0x20000000 ∷ [])))) }

pub turn_of_security :
    turn (before []) call_of []
    ≡ Some (record {
      volume = record (volume 0xC0000 [] (files_of root directory (record file { owner = 9; dacl = Some (allow 7 0x1200A0 ∷ []); change = 8 }) file) (noted_f ∷ [])) {
        ended = record { client = 1; number = 5; reply = record { status = Success; body = Nothing } } ∷ [];
      };
      out = record { answer = answer.Ended (record { status = Success; body = Nothing }); ended = []; starved = [] };
    })
unfolding try_set_security set_security_at set_security_by set_security_of
turn_of_security = refl

-- a client that has left has no handle
pub turn_after_leaving :
    try (record (before []) { left = false ∷ true ∷ [] }) call_of 1 ≡ ends (record (before []) { left = false ∷ true ∷ [] }) InvalidHandle
unfolding try_set_security set_security_at set_security_by set_security_of
turn_after_leaving = refl

-- ---- the next pending call

abbrev pub waiting : ℕ → ℕ × Pending
waiting at = (at, record { call = record { client = 0; number = at; what = WaitFor 1 }; blockers = [] })

-- calls pending under 9, 3, 12 and 5: the least turn above each of these
pub pending_after :
    map {B = Option ℕ} (next_pending (record (before []) { pending = waiting 9 ∷ waiting 3 ∷ waiting 12 ∷ waiting 5 ∷ [] })) (0 ∷ 2 ∷ 3 ∷ 4 ∷ 5 ∷ 8 ∷ 9 ∷ 11 ∷ 12 ∷ 13 ∷ [])
    ≡ Some 3 ∷ Some 3 ∷ Some 5 ∷ Some 5 ∷ Some 9 ∷ Some 9 ∷ Some 12 ∷ Some 12 ∷ None ∷ None ∷ []
pending_after = refl

pub none_pending : next_pending (before []) 0 ≡ None
none_pending = refl

-- ---- lines

-- call 1 of client `a`
abbrev pub sets : ℕ → Option ℕ → DaclChange → Line
sets handle owner dacl = RequestLine (codes "a") 1 (Ask (request.SetSecurity handle owner dacl))

-- so many entries
abbrev pub entries : ℕ → List Ace
entries count = replicate count (allow 9 0x1)

abbrev pub entries_text : ℕ → List ℕ
entries_text count = codes "a 1 setsecurity 1 keep acl" ++ flat_map (λ (entry : ℕ). codes ",+9:0x1") (replicate count 0)

-- nothing, each kind of change, the empty list, an owner who is 0 and the greatest, the order of entries
-- and the greatest numbers, and 32 entries
abbrev pub lines : List (List ℕ)
lines = codes "a 1 setsecurity 1 keep keep"
    ∷ codes "a 1 setsecurity 4294967295 0 keep"
    ∷ codes "a 1 setsecurity 0 4294967295 null"
    ∷ codes "a 1 setsecurity 1 keep acl"
    ∷ codes "a 1 setsecurity 3 7 acl,+9:0x1"
    ∷ codes "a 1 setsecurity 1 keep acl,-9:0x2,+9:0x1f01ff"
    ∷ codes "a 1 setsecurity 1 keep acl,+9:0x1f01ff,-9:0x2"
    ∷ codes "a 1 setsecurity 12 10 acl,-0:0x0,+4294967295:0xffffffff,-10:0xabcdef,-10:0xabcdef"
    ∷ entries_text 32
    ∷ []

abbrev pub said : List Line
said = sets 1 None Keep
    ∷ sets 4294967295 (Some 0) Keep
    ∷ sets 0 (Some 4294967295) Remove
    ∷ sets 1 None (Put (full []))
    ∷ sets 3 (Some 7) (Put (full (allow 9 0x1 ∷ [])))
    ∷ sets 1 None (Put (full (deny 9 0x2 ∷ allow 9 0x1F01FF ∷ [])))
    ∷ sets 1 None (Put (full (allow 9 0x1F01FF ∷ deny 9 0x2 ∷ [])))
    ∷ sets 12 (Some 10) (Put (full (deny 0 0x0 ∷ allow 4294967295 0xFFFFFFFF ∷ deny 10 0xABCDEF ∷ deny 10 0xABCDEF ∷ [])))
    ∷ sets 1 None (Put (full (entries 32)))
    ∷ []

pub sets_said : map line_of lines ≡ map {B = Result Line Kind} Ok said
unfolding line_of request_of what_of set_security_fields owner_at dacl_at dacl_of aces_of ace_of ace_with mask_of number_at field_at
sets_said = refl

-- written, with small numbers
pub sets_written :
    map line_text (
    sets 1 None Keep
    ∷ sets 12 (Some 0) Keep
    ∷ sets 0 (Some 305) Remove
    ∷ sets 1 None (Put (full []))
    ∷ sets 3 (Some 7) (Put (full (allow 9 0x1 ∷ [])))
    ∷ sets 1 None (Put (full (deny 0 0x0 ∷ allow 10 0x1F ∷ deny 16 0xABC ∷ deny 16 0xABC ∷ [])))
    ∷ sets 1 None (Put (full (entries 32)))
    ∷ [])
    ≡ codes "a 1 setsecurity 1 keep keep"
    ∷ codes "a 1 setsecurity 12 0 keep"
    ∷ codes "a 1 setsecurity 0 305 null"
    ∷ codes "a 1 setsecurity 1 keep acl"
    ∷ codes "a 1 setsecurity 3 7 acl,+9:0x1"
    ∷ codes "a 1 setsecurity 1 keep acl,-0:0x0,+10:0x1f,-16:0xabc,-16:0xabc"
    ∷ entries_text 32
    ∷ []
sets_written = refl

pub sets_are_lines : map is_line said ≡ true ∷ true ∷ true ∷ true ∷ true ∷ true ∷ true ∷ true ∷ true ∷ []
sets_are_lines = refl

-- 33 entries, a handle, an owner, a SID and a mask of 2^32, also in a later entry, and a list with more room
pub no_line_says :
    map is_line (
    sets 1 None (Put (full (entries 33)))
    ∷ sets 4294967296 None Keep
    ∷ sets 1 (Some 4294967296) Keep
    ∷ sets 1 None (Put (full (allow 4294967296 0x1 ∷ [])))
    ∷ sets 1 None (Put (full (allow 9 0x100000000 ∷ [])))
    ∷ sets 1 None (Put (full (allow 9 0x1 ∷ deny 9 0x100000000 ∷ [])))
    ∷ sets 1 None (Put (record { items = allow 9 0x1 ∷ []; room = 2 }))
    ∷ [])
    ≡ false ∷ false ∷ false ∷ false ∷ false ∷ false ∷ false ∷ []
no_line_says = refl

-- a line of this request with these fields
abbrev pub fields : List ℕ → List ℕ
fields rest = codes "a 1 setsecurity" ++ rest

-- the number of entries, their comma, sign, SID, colon and mask
pub no_entries :
    map line_of (entries_text 33
    ∷ map fields (
    codes " 1 keep acl,"
    ∷ codes " 1 keep acl,-9:0x2,"
    ∷ codes " 1 keep acl,,-9:0x2"
    ∷ codes " 1 keep acl-9:0x2"
    ∷ codes " 1 keep acl;-9:0x2"
    ∷ codes " 1 keep acl,-9:0x2;+9:0x1"
    ∷ codes " 1 keep acl,9:0x2"
    ∷ codes " 1 keep acl,=9:0x2"
    ∷ codes " 1 keep acl,++9:0x2"
    ∷ codes " 1 keep acl,+-9:0x2"
    ∷ codes " 1 keep acl,+"
    ∷ codes " 1 keep acl,+:0x2"
    ∷ codes " 1 keep acl,+09:0x2"
    ∷ codes " 1 keep acl,+a:0x2"
    ∷ codes " 1 keep acl,+4294967296:0x2"
    ∷ codes " 1 keep acl,+9:0x2,-4294967296:0x2"
    ∷ codes " 1 keep acl,+9"
    ∷ codes " 1 keep acl,+90x2"
    ∷ codes " 1 keep acl,+9::0x2"
    ∷ codes " 1 keep acl,+9:"
    ∷ codes " 1 keep acl,+9:0x2:0x2"
    ∷ codes " 1 keep acl,+9:0x"
    ∷ codes " 1 keep acl,+9:2"
    ∷ codes " 1 keep acl,+9:0x02"
    ∷ codes " 1 keep acl,+9:0xA"
    ∷ codes " 1 keep acl,+9:0X2"
    ∷ codes " 1 keep acl,+9:0x100000000"
    ∷ codes " 1 keep acl,+9:0x2,-9:0xAB"
    ∷ []))
    ≡ replicate 29 (Err BadSyntax)
unfolding line_of request_of what_of set_security_fields owner_at dacl_at dacl_of aces_of ace_of ace_with mask_of number_at field_at
no_entries = refl

-- the words of the list and of the owner, the numbers, the number of fields, and their spaces
pub no_sets :
    map line_of (map fields (
    codes " 1 keep ac"
    ∷ codes " 1 keep ACL"
    ∷ codes " 1 keep acls"
    ∷ codes " 1 keep kee"
    ∷ codes " 1 keep keepx"
    ∷ codes " 1 keep nul"
    ∷ codes " 1 keep nulls"
    ∷ codes " 1 keep null,+9:0x1"
    ∷ codes " 1 keep 7"
    ∷ codes " 1 null keep"
    ∷ codes " 1 kee keep"
    ∷ codes " 1 keepx keep"
    ∷ codes " 1 acl keep"
    ∷ codes " 1 4294967296 keep"
    ∷ codes " 1 07 keep"
    ∷ codes " 1 0x7 keep"
    ∷ codes " 4294967296 keep keep"
    ∷ codes " keep keep keep"
    ∷ codes " 01 keep keep"
    ∷ codes ""
    ∷ codes " 1"
    ∷ codes " 1 keep"
    ∷ codes " 1 keep "
    ∷ codes " 1  keep"
    ∷ codes " 1 keep keep "
    ∷ codes " 1 keep keep keep"
    ∷ codes " 1 keep acl "
    ∷ codes " 1 keep acl, -9:0x2"
    ∷ codes " 1 keep acl -9:0x2"
    ∷ codes " 1 keep acl,-9:0x2 ,+9:0x1"
    ∷ codes "  1 keep keep"
    ∷ []))
    ≡ replicate 31 (Err BadSyntax)
unfolding line_of request_of what_of set_security_fields owner_at dacl_at dacl_of aces_of ace_of ace_with mask_of number_at field_at
no_sets = refl

-- ---- whole runs

abbrev pub call : ℕ → ℕ → What → Call
call client number what = record { client = client; number = number; what = what }

abbrev pub opens : ℕ → ℕ → ℕ → Disposition → Call
opens client number wanted disposition = call client number (Ask (request.Create (codes "\\s") wanted 0x7 disposition 0x0 0x0 0))

-- the first entry that speaks of a right decides; no rights at all are refused
abbrev pub row_bytes : List ℕ
row_bytes =
    codes "fsa 1\nclient a 7\nclient b 9\na 1 create =\\s 0x10000000 0x7 create 0x0 0x0 0\na 2 setsecurity 1 keep acl,-9:0x2,+9:0x1f01ff\n"
    ++ codes "b 1 create =\\s 0x1 0x7 open 0x0 0x0 0\nb 2 create =\\s 0x2 0x7 open 0x0 0x0 0\nb 3 create =\\s 0x0 0x7 open 0x0 0x0 0\n"

abbrev pub row : Script
row = record {
  setup = record { table = ascii_pairs; clients = record { name = codes "a"; sids = 7 ∷ [] } ∷ record { name = codes "b"; sids = 9 ∷ [] } ∷ [] };
  lines = opens 0 1 0x10000000 CreateNew
      ∷ call 0 2 (Ask (request.SetSecurity 1 None (Put (full (deny 9 0x2 ∷ allow 9 0x1F01FF ∷ [])))))
      ∷ opens 1 1 0x1 OpenExisting
      ∷ opens 1 2 0x2 OpenExisting
      ∷ opens 1 3 0x0 OpenExisting
      ∷ [];
}

pub row_read : script_of row_bytes ≡ Ok row
unfolding script_of line_after line_of client_at sids_at request_of what_of create_fields text_at text_of mask_at mask_of disposition_at number_at field_at take_line take_client take_request take_call end_after set_security_fields owner_at dacl_at dacl_of aces_of ace_of ace_with
row_read = refl

pub row_run :
    text row (plain row)
    ≡ codes "> a 1 create\na 1 SUCCESS created\n> a 2 setsecurity\na 2 SUCCESS\n> b 1 create\nb 1 SUCCESS opened\n"
    ++ codes "> b 2 create\nb 2 ACCESS_DENIED\n> b 3 create\nb 3 ACCESS_DENIED\n"
    ++ codes "> a 3 leave\na 3 SUCCESS\n> b 4 leave\nb 4 SUCCESS\nend 7\n"
unfolding digits try_create create_at create_walked create_named create_by_link create_found create_there create_in_file create_stream create_on_stream open_stream open_directory open_granted overwrite_existing open_existing clashed create_missing make_file make_directory stopped try_close close_at with_closed try_leave with_client_gone try_set_security set_security_at set_security_by set_security_of
row_run = refl

-- generic read for client 1; he may not change the list nor the owner, and the owner not give the file
-- away; an owner reads and writes the list that grants him nothing; the empty list denies, and none grants
abbrev pub sets_by : ℕ → ℕ → ℕ → Option ℕ → DaclChange → Call
sets_by client number handle owner dacl = call client number (Ask (request.SetSecurity handle owner dacl))

abbrev pub owners : Script
owners = record {
  setup = record { table = ascii_pairs; clients = record { name = codes "a"; sids = 7 ∷ 8 ∷ [] } ∷ record { name = codes "b"; sids = 9 ∷ [] } ∷ [] };
  lines = opens 0 1 0xC0003 CreateNew
      ∷ call 0 2 (Ask (request.Write 1 (Some 0) (1 ∷ [])))
      ∷ sets_by 0 3 1 None (Put (full (allow 9 0x80000000 ∷ [])))
      ∷ opens 1 1 0x1 OpenExisting
      ∷ opens 1 2 0x2 OpenExisting
      ∷ sets_by 1 3 1 None Remove
      ∷ sets_by 1 4 1 (Some 9) Keep
      ∷ sets_by 0 4 1 (Some 9) Keep
      ∷ sets_by 0 5 1 (Some 8) Keep
      ∷ opens 0 6 0x60000 OpenExisting
      ∷ opens 0 7 0x1 OpenExisting
      ∷ sets_by 0 8 1 None (Put (full []))
      ∷ opens 1 5 0x1 OpenExisting
      ∷ sets_by 0 9 6 None Remove
      ∷ opens 1 6 0x1F01FF OpenExisting
      ∷ sets_by 1 7 6 (Some 9) Keep
      ∷ sets_by 0 10 2 None Keep
      ∷ [];
}

pub run_of_owners :
    text owners (plain owners)
    ≡ codes "> a 1 create\na 1 SUCCESS created\n> a 2 write\na 2 SUCCESS 1\n> a 3 setsecurity\na 3 SUCCESS\n"
    ++ codes "> b 1 create\nb 1 SUCCESS opened\n> b 2 create\nb 2 ACCESS_DENIED\n> b 3 setsecurity\nb 3 ACCESS_DENIED\n"
    ++ codes "> b 4 setsecurity\nb 4 ACCESS_DENIED\n> a 4 setsecurity\na 4 ACCESS_DENIED\n> a 5 setsecurity\na 5 SUCCESS\n"
    ++ codes "> a 6 create\na 6 SUCCESS opened\n> a 7 create\na 7 ACCESS_DENIED\n> a 8 setsecurity\na 8 SUCCESS\n"
    ++ codes "> b 5 create\nb 5 ACCESS_DENIED\n> a 9 setsecurity\na 9 SUCCESS\n> b 6 create\nb 6 SUCCESS opened\n"
    ++ codes "> b 7 setsecurity\nb 7 SUCCESS\n> a 10 setsecurity\na 10 INVALID_HANDLE\n"
    ++ codes "> a 11 leave\na 11 SUCCESS\n> b 8 leave\nb 8 SUCCESS\nend 19\n"
unfolding digits try_create create_at create_walked create_named create_by_link create_found create_there create_in_file create_stream create_on_stream open_stream open_directory open_granted overwrite_existing open_existing clashed create_missing make_file make_directory stopped try_close close_at with_closed try_leave with_client_gone try_set_security set_security_at set_security_by set_security_of try_write write_at write_by write_stream write_at_place write_range write_unlocked write_grown write_bytes
run_of_owners = refl
