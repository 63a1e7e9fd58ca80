-- Renames, links and marks for deletion, worked by hand from the rules and shown by computation: what they
-- are answered, what they wait for, what is noted, and what is left.
use Rattle.std.specs.Prelude.{◌≡◌, ◌+◌, ℕ, Bool, true, false, List, [], ◌∷◌, ◌++◌, map, Some, None, codes, refl, zero, suc}
use Rattle.fsa_types.specs.declared.request.Level.TheVariants.{R, RH}
use Rattle.fsa_types.specs.declared.request.Disposition.TheVariants.{CreateNew, OpenExisting}
use Rattle.fsa_types.specs.declared.request.Request.{Request}
use Rattle.fsa_types.specs.declared.request.Request.TheVariants as request
use Rattle.fsa_types.specs.declared.request.What.TheVariants.{Ask}
use Rattle.fsa_types.specs.declared.reply.Blocker.TheVariants as blocker
use Rattle.fsa_types.specs.declared.reply.Interim.TheVariants.{Held}
use Rattle.fsa_types.specs.declared.reply.Body.TheVariants.{Nothing, Broken, Stopped}
use Rattle.fsa_types.specs.declared.status.Status.{Status}
use Rattle.fsa_types.specs.declared.status.Status.TheVariants.{Success, InvalidParameter, AccessDenied, ObjectNameCollision, ObjectNameInvalid, ObjectPathNotFound, DeletePending, DirectoryNotEmpty, CannotDelete, FileIsADirectory, TooManyLinks, StoppedOnSymlink, Reparse}
use Rattle.fsa_model.specs.Close.{try_close, close_at, with_closed}
use Rattle.fsa_model.specs.Link.{try_link, link_at, link_by, link_file, link_walked, link_into, link_over, link_over_other, link_over_broken, link_over_closed}
use Rattle.fsa_model.specs.Open.{try_create, create_at, create_walked, create_named, create_by_link, create_found, create_there, create_in_file, create_stream, create_on_stream, open_stream, open_directory, open_granted, overwrite_existing, open_existing, clashed, create_missing, make_file, make_directory, stopped}
use Rattle.fsa_model.specs.Lookups.{is_at_or_below}
use Rattle.fsa_model.specs.Outcome.{Outcome, Done, Hold}
use Rattle.fsa_model.specs.Rename.{try_rename, rename_at, rename_by, rename_link, rename_walked, rename_into, rename_directory, rename_below_closed, rename_named, rename_over, rename_over_broken, rename_over_closed, rename_free, rename_done}
use Rattle.fsa_model.specs.SetDisposition.{try_set_disposition, set_disposition_at, set_disposition_by, delete_by, delete_marked}
use Rattle.fsa_model.specs.Turn.{try_request, turn_number, volume_after}
use Rattle.fsa_model.specs.Volume.{File, Link, Handle, Change, Volume, root}
use Rattle.fsa_model.specs.Write.{try_write, write_at, write_by, write_stream, write_at_place, write_range, write_unlocked, write_grown, write_bytes}
use Rattle.fsa_model.proofs.CloseExamples.{file, link_at as link_row, stream_at, handle_at, link_d, link_f, link_g, link_h, default_f, stream_s, links, four_links, streams, on_f, volume, whole, done, removed_g, removed_h, standing}
use Rattle.fsa_model.proofs.OpenExamples.{begun}

-- ---- scripts

-- one try of a request
abbrev pub tried : Volume → ℕ → ℕ → Request → Outcome
tried v client number (request.Rename handle path replace) = try_rename v client handle path replace
tried v client number (request.Link handle path replace) = try_link v client handle path replace
tried v client number (request.SetDisposition handle delete) = try_set_disposition v client handle delete
tried v client number asked = try_request v (turn_number v) client number asked

abbrev pub status_of : Outcome → List Status
status_of (Done v reply) = reply.status ∷ []
status_of _ = []

-- the statuses of these requests, each of a client and with a number, one after the other
abbrev pub statuses : Volume → List (ℕ × ℕ × Request) → List Status
statuses v [] = []
statuses v ((client, number, asked) ∷ more) =
    status_of (tried v client number asked) ++ statuses (volume_after (tried v client number asked)) more

abbrev pub creates : ℕ → ℕ → List ℕ → ℕ → ℕ → ℕ × ℕ × Request
creates client number path wanted options =
    (client, number, request.Create path wanted 0x7 CreateNew options 0x0 0)

-- a rename over an open file, to its own name in another case, over a directory, without leave to replace, and
-- over a closed file
pub rename_replaces_only_closed_files :
    statuses begun (
    creates 0 1 (codes "\\x") 0x10000 0x0
    ∷ creates 1 1 (codes "\\y") 0x1 0x0
    ∷ (0, 2, request.Rename 1 (codes "\\y") true)
    ∷ (0, 3, request.Rename 1 (codes "\\X") true)
    ∷ creates 0 4 (codes "\\d") 0x1 0x1
    ∷ (0, 5, request.Rename 1 (codes "\\d") true)
    ∷ (0, 6, request.Rename 1 (codes "\\y") false)
    ∷ (1, 2, request.Close 1)
    ∷ (0, 7, request.Rename 1 (codes "\\y") true)
    ∷ [])
    ≡ Success ∷ Success ∷ AccessDenied ∷ Success ∷ Success ∷ AccessDenied ∷ ObjectNameCollision ∷ Success ∷ Success ∷ []
unfolding try_create create_at create_walked create_named create_by_link create_found create_there create_in_file create_stream create_on_stream open_stream open_directory open_granted overwrite_existing open_existing clashed create_missing make_file make_directory stopped try_close close_at with_closed try_rename rename_at rename_by rename_link rename_walked rename_into rename_directory rename_below_closed rename_named rename_over rename_over_broken rename_over_closed rename_free rename_done
rename_replaces_only_closed_files = refl

-- a directory is marked only when nothing is in it, marked links counted; a marked one takes no new names
pub directory_not_empty_until_file_is_gone :
    statuses begun (
    creates 0 1 (codes "\\d") 0x10001 0x1
    ∷ creates 0 2 (codes "\\d\\f") 0x10000 0x0
    ∷ (0, 3, request.SetDisposition 1 true)
    ∷ (0, 4, request.SetDisposition 2 true)
    ∷ (0, 5, request.SetDisposition 1 true)
    ∷ (0, 6, request.Close 2)
    ∷ (0, 7, request.SetDisposition 1 true)
    ∷ creates 0 8 (codes "\\d\\g") 0x1 0x0
    ∷ (0, 9, request.SetDisposition 1 false)
    ∷ creates 0 10 (codes "\\d\\g") 0x1 0x0
    ∷ [])
    ≡ Success ∷ Success ∷ DirectoryNotEmpty ∷ Success ∷ DirectoryNotEmpty ∷ Success ∷ Success ∷ DeletePending ∷ Success ∷ Success ∷ []
unfolding try_create create_at create_walked create_named create_by_link create_found create_there create_in_file create_stream create_on_stream open_stream open_directory open_granted overwrite_existing open_existing clashed create_missing make_file make_directory stopped try_close close_at with_closed try_set_disposition set_disposition_at set_disposition_by delete_by delete_marked
directory_not_empty_until_file_is_gone = refl

-- what these requests leave
abbrev pub after : Volume → List (ℕ × ℕ × Request) → Volume
after v [] = v
after v ((client, number, asked) ∷ more) = after (volume_after (tried v client number asked)) more

-- an editor saves by writing a second file and renaming it over the first
abbrev pub saves : List (ℕ × ℕ × Request)
saves =
    (0, 1, request.Create (codes "\\doc.txt") 0x100003 0x7 CreateNew 0x60 0x0 0)
    ∷ (0, 2, request.Write 1 (Some 0) (codes "old"))
    ∷ (0, 3, request.Close 1)
    ∷ (0, 4, request.Create (codes "\\doc.tmp") 0x110003 0x7 CreateNew 0x64 0x100 0)
    ∷ (0, 5, request.Write 4 (Some 0) (codes "new"))
    ∷ (0, 6, request.Rename 4 (codes "\\doc.txt") true)
    ∷ (0, 7, request.Close 4)
    ∷ (0, 8, request.Create (codes "\\doc.txt") 0x1 0x7 OpenExisting 0x0 0x0 0)
    ∷ []

pub editor_saves_by_rename : statuses begun saves ≡ Success ∷ Success ∷ Success ∷ Success ∷ Success ∷ Success ∷ Success ∷ Success ∷ []
unfolding try_create create_at create_walked create_named create_by_link create_found create_there create_in_file create_stream create_on_stream open_stream open_directory open_granted overwrite_existing open_existing clashed create_missing make_file make_directory stopped try_close close_at with_closed try_write write_at write_by write_stream write_at_place write_range write_unlocked write_grown write_bytes try_rename rename_at rename_by rename_link rename_walked rename_into rename_directory rename_below_closed rename_named rename_over rename_over_broken rename_over_closed rename_free rename_done
editor_saves_by_rename = refl

-- what is left is one file of the old name with the new bytes
pub editor_leaves_one_link : (after begun saves).links ≡ (2, link_row 1 (codes "doc.txt") 3 false) ∷ []
unfolding try_create create_at create_walked create_named create_by_link create_found create_there create_in_file create_stream create_on_stream open_stream open_directory open_granted overwrite_existing open_existing clashed create_missing make_file make_directory stopped try_close close_at with_closed try_write write_at write_by write_stream write_at_place write_range write_unlocked write_grown write_bytes try_rename rename_at rename_by rename_link rename_walked rename_into rename_directory rename_below_closed rename_named rename_over rename_over_broken rename_over_closed rename_free rename_done
editor_leaves_one_link = refl

pub editor_leaves_one_stream : (after begun saves).streams ≡ (2, stream_at 3 [] (codes "new") false) ∷ []
unfolding try_create create_at create_walked create_named create_by_link create_found create_there create_in_file create_stream create_on_stream open_stream open_directory open_granted overwrite_existing open_existing clashed create_missing make_file make_directory stopped try_close close_at with_closed try_write write_at write_by write_stream write_at_place write_range write_unlocked write_grown write_bytes try_rename rename_at rename_by rename_link rename_walked rename_into rename_directory rename_below_closed rename_named rename_over rename_over_broken rename_over_closed rename_free rename_done
editor_leaves_one_stream = refl

-- a directory with a file that another client has open, with an oplock to read and to keep it open
abbrev pub opened_tree : Volume
opened_tree = after begun (creates 0 1 (codes "\\d") 0x10001 0x1 ∷ creates 1 1 (codes "\\d\\f") 0x1 0x0 ∷ [])

abbrev pub cached_tree : Volume
cached_tree = record opened_tree {
  oplocks = record { handle = 2; key = 0; level = RH; target = None; number = 0; call = Some 3 } ∷ [];
  pending = (3, standing 1 2 (Ask (request.Oplock 1 RH))) ∷ [];
}

-- its oplock is broken, and its call is told
abbrev pub broken_tree : Volume
broken_tree = record opened_tree {
  oplocks = record { handle = 2; key = 0; level = RH; target = Some R; number = 1; call = None } ∷ [];
  pending = [];
  ended = record { client = 1; number = 2; reply = record { status = Success; body = Broken R true } } ∷ [];
  last_break = 1;
}

abbrev pub dir_change : ℕ → List ℕ → Change
dir_change action name = record { action = action; bits = 0x2; seen_from = (1, name) ∷ [] }

-- a rename of the directory is held until that handle is closed, also where it is tried anew, and then noted
-- with both names
pub directory_rename_breaks :
    map {B = Outcome} (λ v. tried v 0 4 (request.Rename 1 (codes "\\e") false)) (cached_tree ∷ broken_tree ∷ [])
    ≡ Hold broken_tree (blocker.Break 1 ∷ []) Held ∷ Hold broken_tree (blocker.Break 1 ∷ []) Held ∷ []
unfolding try_create create_at create_walked create_named create_by_link create_found create_there create_in_file create_stream create_on_stream open_stream open_directory open_granted overwrite_existing open_existing clashed create_missing make_file make_directory stopped try_close close_at with_closed try_rename rename_at rename_by rename_link rename_walked rename_into rename_directory rename_below_closed rename_named rename_over rename_over_broken rename_over_closed rename_free rename_done
directory_rename_breaks = refl

pub directory_rename_notifies :
    (after broken_tree ((1, 3, request.Close 1) ∷ (0, 4, request.Rename 1 (codes "\\e") false) ∷ [])).changes
    ≡ broken_tree.changes ++ dir_change 4 (codes "d") ∷ dir_change 5 (codes "e") ∷ []
unfolding try_create create_at create_walked create_named create_by_link create_found create_there create_in_file create_stream create_on_stream open_stream open_directory open_granted overwrite_existing open_existing clashed create_missing make_file make_directory stopped try_close close_at with_closed try_rename rename_at rename_by rename_link rename_walked rename_into rename_directory rename_below_closed rename_named rename_over rename_over_broken rename_over_closed rename_free rename_done
directory_rename_notifies = refl

-- without an oplock the open file below it refuses the rename
pub directory_rename_over_open_file :
    tried opened_tree 0 4 (request.Rename 1 (codes "\\e") false) ≡ Done opened_tree (record { status = AccessDenied; body = Nothing })
unfolding try_create create_at create_walked create_named create_by_link create_found create_there create_in_file create_stream create_on_stream open_stream open_directory open_granted overwrite_existing open_existing clashed create_missing make_file make_directory stopped try_close close_at with_closed try_rename rename_at rename_by rename_link rename_walked rename_into rename_directory rename_below_closed rename_named rename_over rename_over_broken rename_over_closed rename_free rename_done
directory_rename_over_open_file = refl

-- ---- names of a file

-- the file 3, renamed or linked at 8
abbrev pub file_at_8 : File
file_at_8 = record file { change = 8 }

abbrev pub files_at_8 : List (ℕ × File)
files_at_8 = (1, root) ∷ (2, root) ∷ (3, file_at_8) ∷ (4, file) ∷ []

abbrev pub file_change : ℕ → List (ℕ × List ℕ) → Change
file_change action seen_from = record { action = action; bits = 0x1; seen_from = seen_from }

abbrev pub refused_with : Volume → Status → Outcome
refused_with v status = Done v (record { status = status; body = Nothing })

-- client 0 renames its handle 1
abbrev pub renames : Volume → List ℕ → Bool → Outcome
renames v path replace = try_rename v 0 1 path replace

abbrev pub by_f : List (ℕ × Handle)
by_f = on_f 1 1 false ∷ []

abbrev pub plain_tree : Volume
plain_tree = whole (links false) (streams false) by_f []

-- to its own name, unit by unit: nothing changes, with leave to replace and without
pub same_link_same_units :
    map {B = Outcome} (renames plain_tree (codes "\\d\\f")) (true ∷ false ∷ []) ≡ done plain_tree ∷ done plain_tree ∷ []
unfolding try_rename rename_at rename_by rename_link rename_walked rename_into rename_directory rename_below_closed rename_named rename_over rename_over_broken rename_over_closed rename_free rename_done
same_link_same_units = refl

-- to its own name in another case: the link keeps its number and has the new units; also where the directory
-- is named in another case
pub same_link_other_case :
    renames plain_tree (codes "\\D\\F") false
    ≡ done (volume files_at_8 (link_d false ∷ (2, link_row 2 (codes "F") 3 false) ∷ link_g false ∷ []) (streams false) by_f
    (file_change 4 ((2, codes "f") ∷ (1, codes "d\\f") ∷ []) ∷ file_change 5 ((2, codes "F") ∷ (1, codes "d\\F") ∷ []) ∷ []))
unfolding try_rename rename_at rename_by rename_link rename_walked rename_into rename_directory rename_below_closed rename_named rename_over rename_over_broken rename_over_closed rename_free rename_done
same_link_other_case = refl

-- to another name of the same file, which goes first; the file stays, and its change time is the clock
pub another_link_of_the_file :
    renames (whole (four_links false false) (streams false) by_f []) (codes "\\H") true
    ≡ done (volume files_at_8 (link_d false ∷ (2, link_row 1 (codes "H") 3 false) ∷ link_g false ∷ []) (streams false) by_f
    (removed_h ∷ file_change 2 ((2, codes "f") ∷ (1, codes "d\\f") ∷ []) ∷ file_change 1 ((1, codes "H") ∷ []) ∷ []))
unfolding try_rename rename_at rename_by rename_link rename_walked rename_into rename_directory rename_below_closed rename_named rename_over rename_over_broken rename_over_closed rename_free rename_done
another_link_of_the_file = refl

-- over another file, which goes with its stream
pub rename_over_file :
    renames plain_tree (codes "\\g") true
    ≡ done (volume ((1, root) ∷ (2, root) ∷ (3, file_at_8) ∷ []) (link_d false ∷ (2, link_row 1 (codes "g") 3 false) ∷ []) (default_f ∷ stream_s false ∷ []) by_f
    (removed_g ∷ file_change 2 ((2, codes "f") ∷ (1, codes "d\\f") ∷ []) ∷ file_change 1 ((1, codes "g") ∷ []) ∷ []))
unfolding try_rename rename_at rename_by rename_link rename_walked rename_into rename_directory rename_below_closed rename_named rename_over rename_over_broken rename_over_closed rename_free rename_done
rename_over_file = refl

-- the target is marked, whether it may be replaced or not; it is there without leave; it is READONLY; the
-- client, whose SID is 7, may not delete it; it is open by another name of its file, which is no matter
abbrev pub target_as : File → List (ℕ × Link) → Volume
target_as g links = volume ((1, root) ∷ (2, root) ∷ (3, file) ∷ (4, g) ∷ []) links (streams false) by_f []

abbrev pub readonly : File
readonly = record file { attributes = 0x21 }

abbrev pub kept_from_7 : File
kept_from_7 = record file { owner = 9; dacl = Some (record { allow = false; sid = 7; mask = 0x10000 } ∷ record { allow = true; sid = 7; mask = 0x1F01FF } ∷ []) }

abbrev pub g_marked : List (ℕ × Link)
g_marked = link_d false ∷ link_f false ∷ link_g true ∷ []

pub target_refuses :
    renames (target_as file g_marked) (codes "\\g") true ∷ renames (target_as file g_marked) (codes "\\g") false
    ∷ renames (target_as file (links false)) (codes "\\g") false
    ∷ renames (target_as readonly (links false)) (codes "\\g") true
    ∷ renames (target_as kept_from_7 (links false)) (codes "\\g") true
    ∷ renames (target_as file (links false)) (codes "\\d") true
    ∷ []
    ≡ refused_with (target_as file g_marked) DeletePending ∷ refused_with (target_as file g_marked) DeletePending
    ∷ refused_with (target_as file (links false)) ObjectNameCollision
    ∷ refused_with (target_as readonly (links false)) AccessDenied
    ∷ refused_with (target_as kept_from_7 (links false)) AccessDenied
    ∷ refused_with (target_as file (links false)) AccessDenied
    ∷ []
unfolding try_rename rename_at rename_by rename_link rename_walked rename_into rename_directory rename_below_closed rename_named rename_over rename_over_broken rename_over_closed rename_free rename_done
target_refuses = refl

-- a handle of the target with an oplock is waited for, and refuses the rename once its oplock is broken or
-- where it has none
abbrev pub on_g : ℕ × Handle
on_g = (12, handle_at 1 1 4 (Some 3) false)

abbrev pub g_cached : Volume
g_cached = record (whole (links false) (streams false) (on_f 1 1 false ∷ on_g ∷ []) []) {
  oplocks = record { handle = 12; key = 0; level = RH; target = None; number = 0; call = None } ∷ [];
}

abbrev pub g_breaking : Volume
g_breaking = record g_cached {
  oplocks = record { handle = 12; key = 0; level = RH; target = Some R; number = 1; call = None } ∷ [];
  last_break = 1;
}

abbrev pub g_read_cached : Volume
g_read_cached = record g_cached { oplocks = record { handle = 12; key = 0; level = R; target = None; number = 0; call = None } ∷ [] }

pub target_is_open :
    map {B = Outcome} (λ v. renames v (codes "\\g") true) (g_cached ∷ g_breaking ∷ g_read_cached ∷ [])
    ≡ Hold g_breaking (blocker.Break 1 ∷ []) Held ∷ Hold g_breaking (blocker.Break 1 ∷ []) Held ∷ refused_with g_read_cached AccessDenied ∷ []
unfolding try_rename rename_at rename_by rename_link rename_walked rename_into rename_directory rename_below_closed rename_named rename_over rename_over_broken rename_over_closed rename_free rename_done
target_is_open = refl

-- the oplock of another handle by the link itself is broken too, also where the name stays; an oplock of the
-- renaming handle's own key is not
abbrev pub f_cached : ℕ → Volume
f_cached key = record (whole (links false) (streams false) ((11, record (handle_at 0 1 2 (Some 1) false) { key = 5 }) ∷ (12, record (handle_at 1 1 2 (Some 2) false) { key = key }) ∷ []) []) {
  oplocks = record { handle = 12; key = key; level = RH; target = None; number = 0; call = None } ∷ [];
}

abbrev pub f_breaking : Volume
f_breaking = record (f_cached 6) {
  oplocks = record { handle = 12; key = 6; level = RH; target = Some R; number = 1; call = None } ∷ [];
  last_break = 1;
}

pub own_handles :
    map {B = Outcome} (λ key. renames (f_cached key) (codes "\\d\\f") false) (6 ∷ 5 ∷ [])
    ≡ Hold f_breaking (blocker.Break 1 ∷ []) Held ∷ done (f_cached 5) ∷ []
unfolding try_rename rename_at rename_by rename_link rename_walked rename_into rename_directory rename_below_closed rename_named rename_over rename_over_broken rename_over_closed rename_free rename_done
own_handles = refl

-- another directory has to grant WRITE_DATA; the one that the file is in need not
abbrev pub closed_root : Volume
closed_root = record plain_tree { files = (1, record root { dacl = Some [] }) ∷ (2, record root { dacl = Some [] }) ∷ (3, file) ∷ (4, file) ∷ [] }

pub other_directory :
    statuses closed_root ((0, 2, request.Rename 1 (codes "\\x") false) ∷ (0, 3, request.Rename 1 (codes "\\d\\x") false) ∷ [])
    ≡ AccessDenied ∷ Success ∷ []
unfolding try_rename rename_at rename_by rename_link rename_walked rename_into rename_directory rename_below_closed rename_named rename_over rename_over_broken rename_over_closed rename_free rename_done
other_directory = refl

-- ---- directories

-- `d` with the directory 5 `e` in it, opened by client 0 as its handle 1
abbrev pub nested : List (ℕ × Handle) → Volume
nested handles =
    volume ((1, root) ∷ (2, root) ∷ (3, file) ∷ (4, file) ∷ (5, root) ∷ [])
    (link_d false ∷ link_f false ∷ link_g false ∷ (5, link_row 2 (codes "e") 5 false) ∷ []) (streams false) handles []

abbrev pub by_d : ℕ × Handle
by_d = (11, handle_at 0 1 1 None false)

-- it goes neither into itself nor below itself; a file's name is none for what is in it; and it doesn't replace
-- a file
pub directory_below_itself :
    map {B = Outcome} (λ path. renames (nested (by_d ∷ [])) path true) (codes "\\d\\x" ∷ codes "\\d\\e\\x" ∷ codes "\\g\\x" ∷ codes "\\g" ∷ [])
    ≡ refused_with (nested (by_d ∷ [])) AccessDenied ∷ refused_with (nested (by_d ∷ [])) AccessDenied
    ∷ refused_with (nested (by_d ∷ [])) ObjectPathNotFound ∷ refused_with (nested (by_d ∷ [])) AccessDenied ∷ []
unfolding try_rename rename_at rename_by rename_link rename_walked rename_into rename_directory rename_below_closed rename_named rename_over rename_over_broken rename_over_closed rename_free rename_done
directory_below_itself = refl

-- the directory `e` of another is moved to the root: it is noted as removed and added, and is no more below `d`
abbrev pub by_e : ℕ × Handle
by_e = (11, handle_at 0 1 5 None false)

pub directory_moved :
    renames (nested (by_e ∷ [])) (codes "\\x") false
    ≡ done (record (volume ((1, root) ∷ (2, root) ∷ (3, file) ∷ (4, file) ∷ (5, record root { change = 8 }) ∷ [])
    (link_d false ∷ link_f false ∷ link_g false ∷ (5, link_row 1 (codes "x") 5 false) ∷ []) (streams false) (by_e ∷ [])
    (record { action = 2; bits = 0x2; seen_from = (2, codes "e") ∷ (1, codes "d\\e") ∷ [] } ∷ dir_change 1 (codes "x") ∷ [])) { last_file = 4 })
unfolding try_rename rename_at rename_by rename_link rename_walked rename_into rename_directory rename_below_closed rename_named rename_over rename_over_broken rename_over_closed rename_free rename_done
directory_moved = refl

pub below_or_not :
    map {B = Bool} (λ (pair : ℕ × ℕ). is_at_or_below (nested []).links pair.0 pair.1) ((2, 2) ∷ (2, 5) ∷ (1, 5) ∷ (5, 2) ∷ (5, 1) ∷ (4, 5) ∷ [])
    ≡ true ∷ true ∷ true ∷ false ∷ false ∷ false ∷ []
below_or_not = refl

-- ---- what has no name to change, and what is no name

pub no_rename :
    map {B = List Status} (λ (handle : Handle). status_of (renames (whole (links false) (streams false) ((11, handle) ∷ []) []) (codes "\\x") true))
    (handle_at 0 1 0 None false ∷ handle_at 0 1 2 (Some 2) false ∷ record (handle_at 0 1 2 (Some 1) false) { access = 0x1 } ∷ [])
    ≡ (InvalidParameter ∷ []) ∷ (InvalidParameter ∷ []) ∷ (AccessDenied ∷ []) ∷ []
unfolding try_rename rename_at rename_by rename_link rename_walked rename_into rename_directory rename_below_closed rename_named rename_over rename_over_broken rename_over_closed rename_free rename_done
no_rename = refl

pub no_rename_of_marked :
    map {B = List Status} (λ path. status_of (renames (whole (links true) (streams false) by_f []) path true)) (codes "\\x" ∷ codes "\\" ∷ [])
    ≡ (AccessDenied ∷ []) ∷ (AccessDenied ∷ []) ∷ []
unfolding try_rename rename_at rename_by rename_link rename_walked rename_into rename_directory rename_below_closed rename_named rename_over rename_over_broken rename_over_closed rename_free rename_done
no_rename_of_marked = refl

pub no_name :
    map {B = List Status} (λ path. status_of (renames plain_tree path true)) (codes "\\" ∷ codes "\\x:s" ∷ codes "\\x::$DATA" ∷ codes "\\x?" ∷ codes "\\y\\x" ∷ [])
    ≡ (ObjectNameInvalid ∷ []) ∷ (ObjectNameInvalid ∷ []) ∷ (ObjectNameInvalid ∷ []) ∷ (ObjectNameInvalid ∷ []) ∷ (ObjectPathNotFound ∷ []) ∷ []
unfolding try_rename rename_at rename_by rename_link rename_walked rename_into rename_directory rename_below_closed rename_named rename_over rename_over_broken rename_over_closed rename_free rename_done
no_name = refl

-- ---- links

-- client 0 gives the file of its handle 1 a further link
abbrev pub links_by : Volume → List ℕ → Bool → Outcome
links_by v path replace = try_link v 0 1 path replace

-- the link gets the next number, and is noted; it replaces another file
pub link_added :
    links_by plain_tree (codes "\\x") false
    ≡ done (record (volume files_at_8 (link_d false ∷ link_f false ∷ link_g false ∷ (5, link_row 1 (codes "x") 3 false) ∷ []) (streams false) by_f
    (file_change 1 ((1, codes "x") ∷ []) ∷ [])) { last_link = 5 })
unfolding try_link link_at link_by link_file link_walked link_into link_over link_over_other link_over_broken link_over_closed
link_added = refl

pub link_over_file :
    links_by plain_tree (codes "\\G") true
    ≡ done (record (volume ((1, root) ∷ (2, root) ∷ (3, file_at_8) ∷ []) (link_d false ∷ link_f false ∷ (5, link_row 1 (codes "G") 3 false) ∷ []) (default_f ∷ stream_s false ∷ []) by_f
    (removed_g ∷ file_change 1 ((1, codes "G") ∷ []) ∷ [])) { last_link = 5 })
unfolding try_link link_at link_by link_file link_walked link_into link_over link_over_other link_over_broken link_over_closed
link_over_file = refl

-- a name that the file has already is answered first, also a marked one
pub link_of_same_file :
    map {B = Outcome} (links_by (whole (four_links false true) (streams false) by_f []) (codes "\\h")) (true ∷ false ∷ [])
    ≡ done (whole (four_links false true) (streams false) by_f [])
    ∷ refused_with (whole (four_links false true) (streams false) by_f []) ObjectNameCollision ∷ []
unfolding try_link link_at link_by link_file link_walked link_into link_over link_over_other link_over_broken link_over_closed
link_of_same_file = refl

-- a marked target, an open one, and one without leave
pub link_target_refuses :
    links_by (target_as file g_marked) (codes "\\g") true ∷ links_by plain_tree (codes "\\g") false
    ∷ links_by g_cached (codes "\\g") true ∷ links_by g_read_cached (codes "\\g") true ∷ []
    ≡ refused_with (target_as file g_marked) DeletePending ∷ refused_with plain_tree ObjectNameCollision
    ∷ Hold g_breaking (blocker.Break 1 ∷ []) Held ∷ refused_with g_read_cached AccessDenied ∷ []
unfolding try_link link_at link_by link_file link_walked link_into link_over link_over_other link_over_broken link_over_closed
link_target_refuses = refl

-- a directory has one link, the root none; a named stream has none; the directory has to grant WRITE_DATA, the
-- file's own too
pub no_link :
    map {B = List Status} (λ (handle : Handle). status_of (links_by (nested ((11, handle) ∷ [])) (codes "\\x") true))
    (handle_at 0 1 0 None false ∷ handle_at 0 1 1 None false ∷ handle_at 0 1 2 (Some 2) false ∷ [])
    ≡ (FileIsADirectory ∷ []) ∷ (FileIsADirectory ∷ []) ∷ (InvalidParameter ∷ []) ∷ []
unfolding try_link link_at link_by link_file link_walked link_into link_over link_over_other link_over_broken link_over_closed
no_link = refl

pub link_in_closed_directory :
    map {B = List Status} (λ path. status_of (links_by closed_root path true)) (codes "\\x" ∷ codes "\\d\\x" ∷ codes "\\d\\f" ∷ [])
    ≡ (AccessDenied ∷ []) ∷ (AccessDenied ∷ []) ∷ (AccessDenied ∷ []) ∷ []
unfolding try_link link_at link_by link_file link_walked link_into link_over link_over_other link_over_broken link_over_closed
link_in_closed_directory = refl

-- a file has 1,024 links at most, marked ones counted, of which nothing else is asked then
abbrev pub more_links : ℕ → List (ℕ × Link)
more_links zero = []
more_links (suc n) = (5 + n, link_row 2 (n ∷ []) 3 true) ∷ more_links n

abbrev pub linked : ℕ → Volume
linked n = whole (link_d false ∷ link_f false ∷ link_g false ∷ more_links n) (streams false) by_f []

pub most_links :
    map {B = List Status} (λ n. status_of (links_by (linked n) (codes "\\g") false)) (1022 ∷ 1023 ∷ [])
    ≡ (ObjectNameCollision ∷ []) ∷ (TooManyLinks ∷ []) ∷ []
unfolding try_link link_at link_by link_file link_walked link_into link_over link_over_other link_over_broken link_over_closed
most_links = refl

-- ---- reparse points and marks on the way

-- the directory `d` is a symbolic link; a file on the way stops too; at the last name a point is no matter
abbrev pub pointed : Volume
pointed = record plain_tree { files = (1, root) ∷ (2, record root { point = Some (0xA000000C, 9 ∷ []) }) ∷ (3, file) ∷ (4, record file { point = Some (0x80000005, 8 ∷ []) }) ∷ [] }

pub points_on_the_way :
    renames pointed (codes "\\d\\x\\y") true ∷ links_by pointed (codes "\\g\\z") true ∷ []
    ≡ Done pointed (record { status = StoppedOnSymlink; body = Stopped 0xA000000C (9 ∷ []) (codes "x\\y") })
    ∷ Done pointed (record { status = Reparse; body = Stopped 0x80000005 (8 ∷ []) (codes "z") })
    ∷ []
unfolding try_rename rename_at rename_by rename_link rename_walked rename_into rename_directory rename_below_closed rename_named rename_over rename_over_broken rename_over_closed rename_free rename_done try_link link_at link_by link_file link_walked link_into link_over link_over_other link_over_broken link_over_closed stopped
points_on_the_way = refl

pub points_at_the_end :
    statuses pointed ((0, 2, request.Rename 1 (codes "\\d") true) ∷ (0, 3, request.Link 1 (codes "\\g") false) ∷ (0, 4, request.Rename 1 (codes "\\g") true) ∷ [])
    ≡ AccessDenied ∷ ObjectNameCollision ∷ Success ∷ []
unfolding try_rename rename_at rename_by rename_link rename_walked rename_into rename_directory rename_below_closed rename_named rename_over rename_over_broken rename_over_closed rename_free rename_done try_link link_at link_by link_file link_walked link_into link_over link_over_other link_over_broken link_over_closed
points_at_the_end = refl

-- a marked directory bars the way
pub mark_on_the_way :
    map {B = List Status} (λ path. status_of (renames (whole (link_d true ∷ link_h false ∷ link_g false ∷ []) (streams false) ((11, handle_at 0 1 3 (Some 1) false) ∷ []) []) path true))
    (codes "\\d\\x" ∷ codes "\\d" ∷ [])
    ≡ (DeletePending ∷ []) ∷ (DeletePending ∷ []) ∷ []
unfolding try_rename rename_at rename_by rename_link rename_walked rename_into rename_directory rename_below_closed rename_named rename_over rename_over_broken rename_over_closed rename_free rename_done
mark_on_the_way = refl

-- ---- marks

-- client 0 marks what its handle 1 has open, or clears the mark
abbrev pub marks : Volume → Bool → Outcome
marks v delete = try_set_disposition v 0 1 delete

-- a link; a named stream, of which `no` clears the mark alone, and not that of the link
pub mark_link : marks plain_tree true ≡ done (whole (links true) (streams false) by_f [])
unfolding try_set_disposition set_disposition_at set_disposition_by delete_by delete_marked
mark_link = refl

pub mark_stream :
    marks (whole (links true) (streams false) (on_f 1 2 false ∷ []) []) true ∷ marks (whole (links true) (streams true) (on_f 1 2 false ∷ []) []) false ∷ []
    ≡ done (whole (links true) (streams true) (on_f 1 2 false ∷ []) []) ∷ done (whole (links true) (streams false) (on_f 1 2 false ∷ []) []) ∷ []
unfolding try_set_disposition set_disposition_at set_disposition_by delete_by delete_marked
mark_stream = refl

-- the root is never marked; READONLY, and without DELETE; clearing asks for DELETE alone
pub no_mark :
    map {B = List Status} (λ (delete : Bool). status_of (marks (whole (links false) (streams false) ((11, handle_at 0 1 0 None false) ∷ []) []) delete)) (true ∷ false ∷ [])
    ++ map {B = List Status} (λ (delete : Bool). status_of (marks (volume ((1, root) ∷ (2, root) ∷ (3, readonly) ∷ (4, file) ∷ []) (links false) (streams false) by_f []) delete)) (true ∷ false ∷ [])
    ++ map {B = List Status} (λ (delete : Bool). status_of (marks (whole (links false) (streams false) ((11, record (handle_at 0 1 2 (Some 1) false) { access = 0x1 }) ∷ []) []) delete)) (true ∷ false ∷ [])
    ≡ (CannotDelete ∷ []) ∷ (Success ∷ []) ∷ (CannotDelete ∷ []) ∷ (Success ∷ []) ∷ (AccessDenied ∷ []) ∷ (AccessDenied ∷ []) ∷ []
unfolding try_set_disposition set_disposition_at set_disposition_by delete_by delete_marked
no_mark = refl

-- an oplock of another handle by the same link is waited for
pub mark_breaks : marks (f_cached 6) true ≡ Hold f_breaking (blocker.Break 1 ∷ []) Held
unfolding try_set_disposition set_disposition_at set_disposition_by delete_by delete_marked
mark_breaks = refl
