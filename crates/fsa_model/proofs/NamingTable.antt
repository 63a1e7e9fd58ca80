-- A table of renames, links and marks for deletion, worked by hand from the rules and shown by computation: each
-- state of the new name, without leave to replace and with it; and each thing that is marked, and its mark cleared.
use Rattle.std.specs.Prelude.{◌≡◌, ℕ, true, false, List, [], ◌∷◌, ◌++◌, map, Some, None, codes, refl}
use Rattle.fsa_types.specs.declared.request.Level.TheVariants.{RH}
use Rattle.fsa_types.specs.declared.reply.Answer.{Answer}
use Rattle.fsa_types.specs.declared.reply.Answer.TheVariants.{Ended, Pending}
use Rattle.fsa_types.specs.declared.reply.Body.TheVariants.{Nothing}
use Rattle.fsa_types.specs.declared.reply.Interim.TheVariants.{Held}
use Rattle.fsa_types.specs.declared.status.Status.{Status}
use Rattle.fsa_types.specs.declared.status.Status.TheVariants.{Success, InvalidHandle, InvalidParameter, AccessDenied, ObjectNameCollision, ObjectNameInvalid, ObjectPathNotFound, DeletePending, DirectoryNotEmpty, CannotDelete, FileIsADirectory}
use Rattle.fsa_model.specs.Link.{try_link, link_at, link_by, link_file, link_walked, link_into, link_over, link_over_other, link_over_broken, link_over_closed}
use Rattle.fsa_model.specs.Rename.{try_rename, rename_at, rename_by, rename_link, rename_walked, rename_into, rename_directory, rename_below_closed, rename_named, rename_over, rename_over_broken, rename_over_closed, rename_free, rename_done}
use Rattle.fsa_model.specs.SetDisposition.{try_set_disposition, set_disposition_at, set_disposition_by, delete_by, delete_marked}
use Rattle.fsa_model.specs.Turn.{answer_of}
use Rattle.fsa_model.specs.Volume.{File, Handle, Link, Oplock, Stream, Volume, root}
use Rattle.fsa_model.proofs.CloseExamples.{file, link_at as link_row, stream_at, handle_at, volume}

-- ---- what is there

-- READONLY; and of owner 9, with a list that denies SID 7 to delete it
abbrev pub readonly : File
readonly = record file { attributes = 0x21 }

abbrev pub readonly_directory : File
readonly_directory = record root { attributes = 0x1 }

abbrev pub kept_from_7 : File
kept_from_7 = record file { owner = 9; dacl = Some (record { allow = false; sid = 7; mask = 0x10000 } ∷ record { allow = true; sid = 7; mask = 0x1F01FF } ∷ []) }

-- in the root are the directory `d` 2, with `f` in it, which is the file 3; `h` and `i`, which are 3 too, `i` marked;
-- the files `g` 4, `k` 6, which is marked, `r` 7, `n` 8, `o` 9, `p` 10, `u` 15 and `w` 16; and the directories `e` 5,
-- `a` 11, `b` 12, in which is the marked file `m` 13, and `c` 14
abbrev pub all_files : List (ℕ × File)
all_files =
    (1, root) ∷ (2, root) ∷ (3, file) ∷ (4, file) ∷ (5, root) ∷ (6, file) ∷ (7, readonly) ∷ (8, kept_from_7) ∷ (9, file) ∷ (10, file)
    ∷ (11, root) ∷ (12, root) ∷ (13, file) ∷ (14, readonly_directory) ∷ (15, file) ∷ (16, file) ∷ []

abbrev pub all_links : List (ℕ × Link)
all_links =
    (1, link_row 1 (codes "d") 2 false) ∷ (2, link_row 2 (codes "f") 3 false) ∷ (3, link_row 1 (codes "h") 3 false)
    ∷ (4, link_row 1 (codes "g") 4 false) ∷ (5, link_row 1 (codes "e") 5 false) ∷ (6, link_row 1 (codes "k") 6 true)
    ∷ (7, link_row 1 (codes "r") 7 false) ∷ (8, link_row 1 (codes "n") 8 false) ∷ (9, link_row 1 (codes "o") 9 false)
    ∷ (10, link_row 1 (codes "p") 10 false) ∷ (11, link_row 1 (codes "a") 11 false) ∷ (12, link_row 1 (codes "b") 12 false)
    ∷ (13, link_row 12 (codes "m") 13 true) ∷ (14, link_row 1 (codes "c") 14 false) ∷ (15, link_row 1 (codes "u") 15 false)
    ∷ (16, link_row 1 (codes "w") 16 false) ∷ (17, link_row 1 (codes "i") 3 true) ∷ []

abbrev pub all_streams : List (ℕ × Stream)
all_streams =
    (1, stream_at 3 [] [] false) ∷ (2, stream_at 3 (codes "s") [] false) ∷ (3, stream_at 4 [] [] false) ∷ (4, stream_at 6 [] [] false)
    ∷ (5, stream_at 7 [] [] false) ∷ (6, stream_at 7 (codes "s") [] false) ∷ (7, stream_at 8 [] [] false) ∷ (8, stream_at 9 [] [] false)
    ∷ (9, stream_at 10 [] [] false) ∷ (10, stream_at 13 [] [] false) ∷ (11, stream_at 15 [] [] false) ∷ (12, stream_at 15 (codes "s") [] false)
    ∷ (13, stream_at 16 [] [] false) ∷ (14, stream_at 16 (codes "s") [] false) ∷ []

-- client 0, with the SID 7, has open `f` (1), `a` (2), the root (3), `f:s` (4), `r` (5), `r:s` (6), `d` (7), `b` (8),
-- `c` (9), `f` without DELETE (10), `i` (11), `u` (12), `u:s` (13), `w` (14), `w:s` (15) and `k` (16)
abbrev pub own_handles : List (ℕ × Handle)
own_handles =
    (1, handle_at 0 1 2 (Some 1) false) ∷ (2, handle_at 0 2 11 None false) ∷ (3, handle_at 0 3 0 None false) ∷ (4, handle_at 0 4 2 (Some 2) false)
    ∷ (5, handle_at 0 5 7 (Some 5) false) ∷ (6, handle_at 0 6 7 (Some 6) false) ∷ (7, handle_at 0 7 1 None false) ∷ (8, handle_at 0 8 12 None false)
    ∷ (9, handle_at 0 9 14 None false) ∷ (10, record (handle_at 0 10 2 (Some 1) false) { access = 0x1 }) ∷ (11, handle_at 0 11 17 (Some 1) false)
    ∷ (12, handle_at 0 12 15 (Some 11) false) ∷ (13, handle_at 0 13 15 (Some 12) false) ∷ (14, handle_at 0 14 16 (Some 13) false)
    ∷ (15, handle_at 0 15 16 (Some 14) false) ∷ (16, handle_at 0 16 6 (Some 4) false) ∷ []

-- client 1 has open `o`, `p`, `u` and `w:s`
abbrev pub other_handles : List (ℕ × Handle)
other_handles =
    (21, handle_at 1 1 9 (Some 8) false) ∷ (22, handle_at 1 2 10 (Some 9) false) ∷ (23, handle_at 1 3 15 (Some 11) false)
    ∷ (24, handle_at 1 4 16 (Some 14) false) ∷ []

-- all of them, with oplocks for reading and for keeping the handle on `o`, `u` and `w:s`
abbrev pub cached : ℕ → Oplock
cached handle = record { handle = handle; key = 0; level = RH; target = None; number = 0; call = None }

abbrev pub tree : Volume
tree = record (volume all_files all_links all_streams (own_handles ++ other_handles) []) {
  oplocks = cached 21 ∷ cached 23 ∷ cached 24 ∷ [];
}

-- ---- how it is answered

abbrev pub ends : Status → Answer
ends status = Ended (record { status = status; body = Nothing })

abbrev pub held : Answer
held = Pending Held

-- client 0's handle of this number, without leave to replace and with it
abbrev pub renames : ℕ → List ℕ → Answer × Answer
renames handle path = (answer_of (try_rename tree 0 handle path false), answer_of (try_rename tree 0 handle path true))

abbrev pub links : ℕ → List ℕ → Answer × Answer
links handle path = (answer_of (try_link tree 0 handle path false), answer_of (try_link tree 0 handle path true))

-- marked, and its mark cleared
abbrev pub marks : ℕ → Answer × Answer
marks handle = (answer_of (try_set_disposition tree 0 handle true), answer_of (try_set_disposition tree 0 handle false))

-- ---- renames

-- of the file by `f`
pub file_renamed :
    map {B = Answer × Answer} (λ path. renames 1 path) (
    codes "\\x"  -- missing
    ∷ codes "\\d\\f"  -- the same link, the same units
    ∷ codes "\\D\\F"  -- the same link, another case
    ∷ codes "\\h"  -- another link of the file
    ∷ codes "\\i"  -- another link of the file, marked
    ∷ codes "\\g"  -- another file
    ∷ codes "\\e"  -- a directory
    ∷ codes "\\k"  -- marked
    ∷ codes "\\r"  -- READONLY
    ∷ codes "\\n"  -- its list denies DELETE
    ∷ codes "\\o"  -- open, with an oplock
    ∷ codes "\\p"  -- open
    ∷ [])
    ≡ (ends Success, ends Success)
    ∷ (ends Success, ends Success)
    ∷ (ends Success, ends Success)
    ∷ (ends ObjectNameCollision, ends Success)
    ∷ (ends DeletePending, ends DeletePending)
    ∷ (ends ObjectNameCollision, ends Success)
    ∷ (ends ObjectNameCollision, ends AccessDenied)
    ∷ (ends DeletePending, ends DeletePending)
    ∷ (ends ObjectNameCollision, ends AccessDenied)
    ∷ (ends ObjectNameCollision, ends AccessDenied)
    ∷ (ends ObjectNameCollision, held)
    ∷ (ends ObjectNameCollision, ends AccessDenied)
    ∷ []
unfolding try_rename rename_at rename_by rename_link rename_walked rename_into rename_directory rename_below_closed rename_named rename_over rename_over_broken rename_over_closed rename_free rename_done
file_renamed = refl

-- of the directory by `a`; a directory has no other link
pub directory_renamed :
    map {B = Answer × Answer} (λ path. renames 2 path) (
    codes "\\x"  -- missing
    ∷ codes "\\a"  -- the same link, the same units
    ∷ codes "\\A"  -- the same link, another case
    ∷ codes "\\g"  -- a file
    ∷ codes "\\e"  -- another directory
    ∷ codes "\\k"  -- marked
    ∷ codes "\\r"  -- READONLY
    ∷ codes "\\n"  -- its list denies DELETE
    ∷ codes "\\o"  -- open, with an oplock, which isn't broken
    ∷ codes "\\p"  -- open
    ∷ codes "\\a\\x"  -- into itself
    ∷ codes "\\d\\x"  -- into another
    ∷ [])
    ≡ (ends Success, ends Success)
    ∷ (ends Success, ends Success)
    ∷ (ends Success, ends Success)
    ∷ (ends ObjectNameCollision, ends AccessDenied)
    ∷ (ends ObjectNameCollision, ends AccessDenied)
    ∷ (ends DeletePending, ends DeletePending)
    ∷ (ends ObjectNameCollision, ends AccessDenied)
    ∷ (ends ObjectNameCollision, ends AccessDenied)
    ∷ (ends ObjectNameCollision, ends AccessDenied)
    ∷ (ends ObjectNameCollision, ends AccessDenied)
    ∷ (ends AccessDenied, ends AccessDenied)
    ∷ (ends Success, ends Success)
    ∷ []
unfolding try_rename rename_at rename_by rename_link rename_walked rename_into rename_directory rename_below_closed rename_named rename_over rename_over_broken rename_over_closed rename_free rename_done
directory_renamed = refl

-- by each handle, to a name that is missing
pub renamed_by :
    map {B = Answer × Answer} (λ handle. renames handle (codes "\\x")) (
    3  -- the root's
    ∷ 4  -- a named stream's
    ∷ 7  -- a directory's, in which a file is open
    ∷ 8  -- a directory's, in which none is
    ∷ 9  -- a READONLY directory's
    ∷ 5  -- a READONLY file's
    ∷ 10  -- without DELETE
    ∷ 11  -- of a marked link
    ∷ 12  -- the link's other handle has an oplock
    ∷ 17  -- none
    ∷ [])
    ≡ (ends InvalidParameter, ends InvalidParameter)
    ∷ (ends InvalidParameter, ends InvalidParameter)
    ∷ (ends AccessDenied, ends AccessDenied)
    ∷ (ends Success, ends Success)
    ∷ (ends Success, ends Success)
    ∷ (ends Success, ends Success)
    ∷ (ends AccessDenied, ends AccessDenied)
    ∷ (ends AccessDenied, ends AccessDenied)
    ∷ (held, held)
    ∷ (ends InvalidHandle, ends InvalidHandle)
    ∷ []
unfolding try_rename rename_at rename_by rename_link rename_walked rename_into rename_directory rename_below_closed rename_named rename_over rename_over_broken rename_over_closed rename_free rename_done
renamed_by = refl

-- paths that name nothing, and ways that lead nowhere
abbrev pub paths : List (List ℕ)
paths =
    codes "\\"  -- the root
    ∷ []
    ∷ codes "x"
    ∷ codes "\\x:s"
    ∷ codes "\\x::$DATA"
    ∷ codes "\\x?"
    ∷ codes "\\x\\"
    ∷ codes "\\q\\x"  -- no such directory
    ∷ codes "\\g\\x"  -- a file
    ∷ codes "\\k\\x"  -- marked
    ∷ []

abbrev pub faults : List (Answer × Answer)
faults =
    (ends ObjectNameInvalid, ends ObjectNameInvalid)
    ∷ (ends ObjectNameInvalid, ends ObjectNameInvalid)
    ∷ (ends ObjectNameInvalid, ends ObjectNameInvalid)
    ∷ (ends ObjectNameInvalid, ends ObjectNameInvalid)
    ∷ (ends ObjectNameInvalid, ends ObjectNameInvalid)
    ∷ (ends ObjectNameInvalid, ends ObjectNameInvalid)
    ∷ (ends ObjectNameInvalid, ends ObjectNameInvalid)
    ∷ (ends ObjectPathNotFound, ends ObjectPathNotFound)
    ∷ (ends ObjectPathNotFound, ends ObjectPathNotFound)
    ∷ (ends DeletePending, ends DeletePending)
    ∷ []

pub no_way_to_rename : map {B = Answer × Answer} (λ path. renames 1 path) paths ≡ faults
unfolding try_rename rename_at rename_by rename_link rename_walked rename_into rename_directory rename_below_closed rename_named rename_over rename_over_broken rename_over_closed rename_free rename_done
no_way_to_rename = refl

-- ---- links

-- of the file by `f`
pub file_linked :
    map {B = Answer × Answer} (λ path. links 1 path) (
    codes "\\x"  -- missing
    ∷ codes "\\d\\f"  -- the same link, the same units
    ∷ codes "\\D\\F"  -- the same link, another case
    ∷ codes "\\h"  -- another link of the file
    ∷ codes "\\i"  -- another link of the file, marked
    ∷ codes "\\g"  -- another file
    ∷ codes "\\e"  -- a directory
    ∷ codes "\\k"  -- marked
    ∷ codes "\\r"  -- READONLY
    ∷ codes "\\n"  -- its list denies DELETE
    ∷ codes "\\o"  -- open, with an oplock
    ∷ codes "\\p"  -- open
    ∷ [])
    ≡ (ends Success, ends Success)
    ∷ (ends ObjectNameCollision, ends Success)
    ∷ (ends ObjectNameCollision, ends Success)
    ∷ (ends ObjectNameCollision, ends Success)
    ∷ (ends ObjectNameCollision, ends Success)
    ∷ (ends ObjectNameCollision, ends Success)
    ∷ (ends ObjectNameCollision, ends AccessDenied)
    ∷ (ends DeletePending, ends DeletePending)
    ∷ (ends ObjectNameCollision, ends AccessDenied)
    ∷ (ends ObjectNameCollision, ends AccessDenied)
    ∷ (ends ObjectNameCollision, held)
    ∷ (ends ObjectNameCollision, ends AccessDenied)
    ∷ []
unfolding try_link link_at link_by link_file link_walked link_into link_over link_over_other link_over_broken link_over_closed
file_linked = refl

-- by each handle, to a name that is missing
pub linked_by :
    map {B = Answer × Answer} (λ handle. links handle (codes "\\x")) (
    3  -- the root's
    ∷ 2  -- a directory's
    ∷ 4  -- a named stream's
    ∷ 5  -- a READONLY file's
    ∷ 10  -- without DELETE
    ∷ 11  -- of a marked link
    ∷ 12  -- the link's other handle has an oplock, which isn't broken
    ∷ 17  -- none
    ∷ [])
    ≡ (ends FileIsADirectory, ends FileIsADirectory)
    ∷ (ends FileIsADirectory, ends FileIsADirectory)
    ∷ (ends InvalidParameter, ends InvalidParameter)
    ∷ (ends Success, ends Success)
    ∷ (ends Success, ends Success)
    ∷ (ends AccessDenied, ends AccessDenied)
    ∷ (ends Success, ends Success)
    ∷ (ends InvalidHandle, ends InvalidHandle)
    ∷ []
unfolding try_link link_at link_by link_file link_walked link_into link_over link_over_other link_over_broken link_over_closed
linked_by = refl

pub no_way_to_link : map {B = Answer × Answer} (λ path. links 1 path) paths ≡ faults
unfolding try_link link_at link_by link_file link_walked link_into link_over link_over_other link_over_broken link_over_closed
no_way_to_link = refl

-- ---- marks

pub marked :
    map {B = Answer × Answer} (λ handle. marks handle) (
    1  -- a file
    ∷ 2  -- an empty directory
    ∷ 3  -- the root
    ∷ 4  -- a named stream
    ∷ 5  -- a READONLY file
    ∷ 6  -- a named stream of it
    ∷ 7  -- a directory with a file in it
    ∷ 8  -- a directory with a marked file in it
    ∷ 9  -- a READONLY directory
    ∷ 10  -- without DELETE
    ∷ 11  -- a link that is marked
    ∷ 12  -- an oplock on the same stream, by the same link
    ∷ 13  -- an oplock on another stream
    ∷ 14  -- an oplock on another stream, by the same link
    ∷ 15  -- an oplock on the same named stream
    ∷ 17  -- no handle
    ∷ [])
    ≡ (ends Success, ends Success)
    ∷ (ends Success, ends Success)
    ∷ (ends CannotDelete, ends Success)
    ∷ (ends Success, ends Success)
    ∷ (ends CannotDelete, ends Success)
    ∷ (ends CannotDelete, ends Success)
    ∷ (ends DirectoryNotEmpty, ends Success)
    ∷ (ends DirectoryNotEmpty, ends Success)
    ∷ (ends CannotDelete, ends Success)
    ∷ (ends AccessDenied, ends AccessDenied)
    ∷ (ends Success, ends Success)
    ∷ (held, ends Success)
    ∷ (ends Success, ends Success)
    ∷ (held, ends Success)
    ∷ (held, ends Success)
    ∷ (ends InvalidHandle, ends InvalidHandle)
    ∷ []
unfolding try_set_disposition set_disposition_at set_disposition_by delete_by delete_marked
marked = refl
