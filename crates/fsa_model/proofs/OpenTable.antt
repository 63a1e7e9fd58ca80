-- A table of opens, worked by hand from the rules and shown by computation: each disposition against
-- each state of the last name. In each list the dispositions stand in this order: supersede, open,
-- create, open_if, overwrite, overwrite_if.
use Rattle.std.specs.Prelude.{◌≡◌, ℕ, Bool, true, false, List, [], ◌∷◌, map, Some, None, codes, refl}
use Rattle.fsa_types.specs.CaseTable.{ascii_pairs}
use Rattle.fsa_types.specs.declared.request.Disposition.{Disposition}
use Rattle.fsa_types.specs.declared.request.Disposition.TheVariants.{Supersede, OpenExisting, CreateNew, OpenIf, Overwrite, OverwriteIf}
use Rattle.fsa_types.specs.declared.reply.Action.{Action}
use Rattle.fsa_types.specs.declared.reply.Action.TheVariants.{Superseded, Opened, Created, Overwritten}
use Rattle.fsa_types.specs.declared.reply.Body.TheVariants as body
use Rattle.fsa_types.specs.declared.reply.Reply.{Reply}
use Rattle.fsa_types.specs.declared.status.Status.{Status}
use Rattle.fsa_types.specs.declared.status.Status.TheVariants.{Success, Reparse, StoppedOnSymlink, InvalidParameter, AccessDenied, CannotDelete, ObjectPathNotFound, ObjectNameInvalid, ObjectNameNotFound, ObjectNameCollision, NotADirectory, FileIsADirectory, DeletePending}
use Rattle.fsa_model.specs.Edits.{with_file, with_link, with_link_marked, with_stream, with_stream_marked, with_point, with_dacl}
use Rattle.fsa_model.specs.Open.{Asked, try_create, create_at, create_walked, create_named, create_by_link, create_found, create_there, create_in_file, create_stream, create_on_stream, open_stream, open_directory, open_granted, overwrite_existing, open_existing, clashed, create_missing, make_file, make_directory, stopped}
use Rattle.fsa_model.specs.Outcome.{Outcome, Done}
use Rattle.fsa_model.specs.Volume.{File, Volume, fresh}

-- ---- what is asked

-- the reply of an open that isn't held
abbrev pub replied : Outcome → List Reply
replied (Done v reply) = reply ∷ []
replied _ = []

-- an open of this path by client 0, sharing all
abbrev pub asks : List ℕ → ℕ → ℕ → ℕ → Disposition → Asked
asks path wanted options attributes disposition = record {
  client = 0;
  number = 1;
  path = path;
  wanted = wanted;
  share = 0x7;
  disposition = disposition;
  options = options;
  attributes = attributes;
  key = 0;
}

-- what the six dispositions are answered, each on the same volume
abbrev pub six : Volume → List ℕ → ℕ → ℕ → ℕ → List (List Reply)
six v path wanted options attributes =
    map (λ disposition. replied (try_create v (asks path wanted options attributes disposition)))
    (Supersede ∷ OpenExisting ∷ CreateNew ∷ OpenIf ∷ Overwrite ∷ OverwriteIf ∷ [])

-- a plain open: READ_DATA and WRITE_DATA, no options and no attributes
abbrev pub plain : Volume → List ℕ → List (List Reply)
plain v path = six v path 0x3 0x0 0x0

-- how each may end
abbrev pub does : Action → List Reply
does action = record { status = Success; body = body.Opened action } ∷ []

abbrev pub fails : Status → List Reply
fails status = record { status = status; body = body.Nothing } ∷ []

abbrev pub stops : Status → ℕ → List ℕ → List ℕ → List Reply
stops status tag bytes rest = record { status = status; body = body.Stopped tag bytes rest } ∷ []

-- ---- what is there

abbrev pub empty : Volume
empty = fresh (record { table = ascii_pairs; clients = record { name = codes "a"; sids = 7 ∷ [] } ∷ [] })

abbrev pub row : Bool → ℕ → File
row directory attributes = record {
  directory = directory;
  attributes = attributes;
  creation = 0;
  access = 0;
  write = 0;
  change = 0;
  owner = 9;
  dacl = None;
  point = None;
}

-- file 2 `\f` by link 1, with these attributes, and its default stream 1; a directory has none
abbrev pub file : ℕ → Volume
file attributes = with_stream (with_link (with_file empty (row false attributes)) 1 (codes "f") 2) 2 []

abbrev pub directory : ℕ → Volume
directory attributes = with_link (with_file empty (row true attributes)) 1 (codes "f") 2

-- with a reparse point of this tag and the bytes 0x41 0x00
abbrev pub pointed : Volume → ℕ → Volume
pointed v tag = with_point v 2 (Some (tag, 65 ∷ 0 ∷ []))

-- a file with the named stream `s`, stream 2
abbrev pub streamed : ℕ → Volume
streamed attributes = with_stream (file attributes) 2 (codes "s")

-- with an access list that grants SID 7 these rights and no other
abbrev pub listed : Volume → ℕ → ℕ → Volume
listed v number rights = with_dacl v number (Some (record { allow = true; sid = 7; mask = rights } ∷ []))

-- ---- a plain open, by what the last name is

pub missing :
    plain empty (codes "\\f")
    ≡ does Created  -- makes what is missing
    ∷ fails ObjectNameNotFound  -- only opens
    ∷ does Created  -- makes
    ∷ does Created  -- makes
    ∷ fails ObjectNameNotFound  -- only overwrites
    ∷ does Created  -- makes
    ∷ []
unfolding try_create create_at create_walked create_named create_by_link create_found create_there create_in_file create_stream create_on_stream open_stream open_directory open_granted overwrite_existing open_existing clashed create_missing make_file make_directory stopped
missing = refl

-- a file, named in the other case
pub file_there :
    plain (file 0x20) (codes "\\F")
    ≡ does Superseded  -- what is there is superseded
    ∷ does Opened
    ∷ fails ObjectNameCollision  -- the name is taken
    ∷ does Opened
    ∷ does Overwritten
    ∷ does Overwritten
    ∷ []
unfolding try_create create_at create_walked create_named create_by_link create_found create_there create_in_file create_stream create_on_stream open_stream open_directory open_granted overwrite_existing open_existing clashed create_missing make_file make_directory stopped
file_there = refl

pub directory_there :
    plain (directory 0x0) (codes "\\f")
    ≡ fails FileIsADirectory  -- a directory has no bytes to supersede
    ∷ does Opened
    ∷ fails ObjectNameCollision  -- the name is taken, whatever has it
    ∷ does Opened
    ∷ fails FileIsADirectory  -- none to overwrite
    ∷ fails FileIsADirectory
    ∷ []
unfolding try_create create_at create_walked create_named create_by_link create_found create_there create_in_file create_stream create_on_stream open_stream open_directory open_granted overwrite_existing open_existing clashed create_missing make_file make_directory stopped
directory_there = refl

-- a file whose link is marked deleted
pub link_marked :
    plain (with_link_marked (file 0x20) 1 true) (codes "\\f")
    ≡ fails DeletePending  -- the mark is seen before the disposition is asked
    ∷ fails DeletePending
    ∷ fails DeletePending
    ∷ fails DeletePending
    ∷ fails DeletePending
    ∷ fails DeletePending
    ∷ []
unfolding try_create create_at create_walked create_named create_by_link create_found create_there create_in_file create_stream create_on_stream open_stream open_directory open_granted overwrite_existing open_existing clashed create_missing make_file make_directory stopped
link_marked = refl

pub directory_marked :
    plain (with_link_marked (directory 0x0) 1 true) (codes "\\f")
    ≡ fails DeletePending  -- before its kind
    ∷ fails DeletePending
    ∷ fails DeletePending
    ∷ fails DeletePending
    ∷ fails DeletePending
    ∷ fails DeletePending
    ∷ []
unfolding try_create create_at create_walked create_named create_by_link create_found create_there create_in_file create_stream create_on_stream open_stream open_directory open_granted overwrite_existing open_existing clashed create_missing make_file make_directory stopped
directory_marked = refl

pub readonly_file :
    plain (file 0x21) (codes "\\f")
    ≡ fails AccessDenied  -- WRITE_DATA is wanted, and READONLY forbids it
    ∷ fails AccessDenied
    ∷ fails ObjectNameCollision  -- the name is taken, before READONLY
    ∷ fails AccessDenied
    ∷ fails AccessDenied
    ∷ fails AccessDenied
    ∷ []
unfolding try_create create_at create_walked create_named create_by_link create_found create_there create_in_file create_stream create_on_stream open_stream open_directory open_granted overwrite_existing open_existing clashed create_missing make_file make_directory stopped
readonly_file = refl

-- READONLY forbids writing to files alone
pub readonly_directory :
    plain (directory 0x1) (codes "\\f")
    ≡ fails FileIsADirectory
    ∷ does Opened
    ∷ fails ObjectNameCollision
    ∷ does Opened
    ∷ fails FileIsADirectory
    ∷ fails FileIsADirectory
    ∷ []
unfolding try_create create_at create_walked create_named create_by_link create_found create_there create_in_file create_stream create_on_stream open_stream open_directory open_granted overwrite_existing open_existing clashed create_missing make_file make_directory stopped
readonly_directory = refl

pub hidden_file :
    plain (file 0x22) (codes "\\f")
    ≡ fails AccessDenied  -- overwritten without HIDDEN
    ∷ does Opened  -- an open that keeps the bytes asks no attribute
    ∷ fails ObjectNameCollision
    ∷ does Opened
    ∷ fails AccessDenied  -- overwritten without HIDDEN
    ∷ fails AccessDenied
    ∷ []
unfolding try_create create_at create_walked create_named create_by_link create_found create_there create_in_file create_stream create_on_stream open_stream open_directory open_granted overwrite_existing open_existing clashed create_missing make_file make_directory stopped
hidden_file = refl

pub system_file :
    plain (file 0x24) (codes "\\f")
    ≡ fails AccessDenied  -- overwritten without SYSTEM
    ∷ does Opened
    ∷ fails ObjectNameCollision
    ∷ does Opened
    ∷ fails AccessDenied  -- overwritten without SYSTEM
    ∷ fails AccessDenied
    ∷ []
unfolding try_create create_at create_walked create_named create_by_link create_found create_there create_in_file create_stream create_on_stream open_stream open_directory open_granted overwrite_existing open_existing clashed create_missing make_file make_directory stopped
system_file = refl

pub symbolic_link :
    plain (pointed (file 0x20) 0xA000000C) (codes "\\f")
    ≡ stops StoppedOnSymlink 0xA000000C (65 ∷ 0 ∷ []) []  -- before the collision; nothing is left of the path
    ∷ stops StoppedOnSymlink 0xA000000C (65 ∷ 0 ∷ []) []
    ∷ stops StoppedOnSymlink 0xA000000C (65 ∷ 0 ∷ []) []
    ∷ stops StoppedOnSymlink 0xA000000C (65 ∷ 0 ∷ []) []
    ∷ stops StoppedOnSymlink 0xA000000C (65 ∷ 0 ∷ []) []
    ∷ stops StoppedOnSymlink 0xA000000C (65 ∷ 0 ∷ []) []
    ∷ []
unfolding try_create create_at create_walked create_named create_by_link create_found create_there create_in_file create_stream create_on_stream open_stream open_directory open_granted overwrite_existing open_existing clashed create_missing make_file make_directory stopped
symbolic_link = refl

-- a directory with a point of another tag
pub other_point :
    plain (pointed (directory 0x0) 0xA0000003) (codes "\\f")
    ≡ stops Reparse 0xA0000003 (65 ∷ 0 ∷ []) []  -- before the kind and the collision
    ∷ stops Reparse 0xA0000003 (65 ∷ 0 ∷ []) []
    ∷ stops Reparse 0xA0000003 (65 ∷ 0 ∷ []) []
    ∷ stops Reparse 0xA0000003 (65 ∷ 0 ∷ []) []
    ∷ stops Reparse 0xA0000003 (65 ∷ 0 ∷ []) []
    ∷ stops Reparse 0xA0000003 (65 ∷ 0 ∷ []) []
    ∷ []
unfolding try_create create_at create_walked create_named create_by_link create_found create_there create_in_file create_stream create_on_stream open_stream open_directory open_granted overwrite_existing open_existing clashed create_missing make_file make_directory stopped
other_point = refl

-- a marked link of a file with a reparse point
pub marked_point :
    plain (with_link_marked (pointed (file 0x20) 0xA000000C) 1 true) (codes "\\f")
    ≡ fails DeletePending  -- the mark is seen before the point
    ∷ fails DeletePending
    ∷ fails DeletePending
    ∷ fails DeletePending
    ∷ fails DeletePending
    ∷ fails DeletePending
    ∷ []
unfolding try_create create_at create_walked create_named create_by_link create_found create_there create_in_file create_stream create_on_stream open_stream open_directory open_granted overwrite_existing open_existing clashed create_missing make_file make_directory stopped
marked_point = refl

-- the root, which always is
pub root_there :
    plain empty (codes "\\")
    ≡ fails FileIsADirectory
    ∷ does Opened
    ∷ fails ObjectNameCollision
    ∷ does Opened
    ∷ fails FileIsADirectory
    ∷ fails FileIsADirectory
    ∷ []
unfolding try_create create_at create_walked create_named create_by_link create_found create_there create_in_file create_stream create_on_stream open_stream open_directory open_granted overwrite_existing open_existing clashed create_missing make_file make_directory stopped
root_there = refl

-- ---- a plain open of a stream

pub stream_there :
    plain (streamed 0x20) (codes "\\f:S")
    ≡ does Superseded
    ∷ does Opened
    ∷ fails ObjectNameCollision  -- the stream is there, as the name of the file is not asked
    ∷ does Opened
    ∷ does Overwritten
    ∷ does Overwritten
    ∷ []
unfolding try_create create_at create_walked create_named create_by_link create_found create_there create_in_file create_stream create_on_stream open_stream open_directory open_granted overwrite_existing open_existing clashed create_missing make_file make_directory stopped
stream_there = refl

pub stream_missing :
    plain (file 0x20) (codes "\\f:s")
    ≡ does Created  -- a new stream, whatever the disposition
    ∷ fails ObjectNameNotFound  -- only opens
    ∷ does Created  -- the file may be there
    ∷ does Created
    ∷ fails ObjectNameNotFound  -- only overwrites
    ∷ does Created
    ∷ []
unfolding try_create create_at create_walked create_named create_by_link create_found create_there create_in_file create_stream create_on_stream open_stream open_directory open_granted overwrite_existing open_existing clashed create_missing make_file make_directory stopped
stream_missing = refl

pub stream_marked :
    plain (with_stream_marked (streamed 0x20) 2 true) (codes "\\f:s")
    ≡ fails DeletePending  -- before the collision
    ∷ fails DeletePending
    ∷ fails DeletePending
    ∷ fails DeletePending
    ∷ fails DeletePending
    ∷ fails DeletePending
    ∷ []
unfolding try_create create_at create_walked create_named create_by_link create_found create_there create_in_file create_stream create_on_stream open_stream open_directory open_granted overwrite_existing open_existing clashed create_missing make_file make_directory stopped
stream_marked = refl

pub stream_of_marked_file :
    plain (with_link_marked (streamed 0x20) 1 true) (codes "\\f:s")
    ≡ fails DeletePending  -- of the link
    ∷ fails DeletePending
    ∷ fails DeletePending
    ∷ fails DeletePending
    ∷ fails DeletePending
    ∷ fails DeletePending
    ∷ []
unfolding try_create create_at create_walked create_named create_by_link create_found create_there create_in_file create_stream create_on_stream open_stream open_directory open_granted overwrite_existing open_existing clashed create_missing make_file make_directory stopped
stream_of_marked_file = refl

-- the file is made with its stream
pub stream_of_missing_file :
    plain empty (codes "\\f:s")
    ≡ does Created
    ∷ fails ObjectNameNotFound
    ∷ does Created
    ∷ does Created
    ∷ fails ObjectNameNotFound
    ∷ does Created
    ∷ []
unfolding try_create create_at create_walked create_named create_by_link create_found create_there create_in_file create_stream create_on_stream open_stream open_directory open_granted overwrite_existing open_existing clashed create_missing make_file make_directory stopped
stream_of_missing_file = refl

pub stream_of_directory :
    plain (directory 0x0) (codes "\\f:s")
    ≡ fails FileIsADirectory  -- a stream part
    ∷ fails FileIsADirectory
    ∷ fails FileIsADirectory  -- no collision where a stream is named
    ∷ fails FileIsADirectory
    ∷ fails FileIsADirectory
    ∷ fails FileIsADirectory
    ∷ []
unfolding try_create create_at create_walked create_named create_by_link create_found create_there create_in_file create_stream create_on_stream open_stream open_directory open_granted overwrite_existing open_existing clashed create_missing make_file make_directory stopped
stream_of_directory = refl

pub stream_of_symbolic_link :
    plain (pointed (file 0x20) 0xA000000C) (codes "\\f:s")
    ≡ stops StoppedOnSymlink 0xA000000C (65 ∷ 0 ∷ []) []  -- the stream part is not given back
    ∷ stops StoppedOnSymlink 0xA000000C (65 ∷ 0 ∷ []) []
    ∷ stops StoppedOnSymlink 0xA000000C (65 ∷ 0 ∷ []) []
    ∷ stops StoppedOnSymlink 0xA000000C (65 ∷ 0 ∷ []) []
    ∷ stops StoppedOnSymlink 0xA000000C (65 ∷ 0 ∷ []) []
    ∷ stops StoppedOnSymlink 0xA000000C (65 ∷ 0 ∷ []) []
    ∷ []
unfolding try_create create_at create_walked create_named create_by_link create_found create_there create_in_file create_stream create_on_stream open_stream open_directory open_granted overwrite_existing open_existing clashed create_missing make_file make_directory stopped
stream_of_symbolic_link = refl

-- the default stream by its own name is the file
pub default_stream_there :
    plain (streamed 0x20) (codes "\\f::$DATA")
    ≡ does Superseded
    ∷ does Opened
    ∷ fails ObjectNameCollision  -- no stream is named
    ∷ does Opened
    ∷ does Overwritten
    ∷ does Overwritten
    ∷ []
unfolding try_create create_at create_walked create_named create_by_link create_found create_there create_in_file create_stream create_on_stream open_stream open_directory open_granted overwrite_existing open_existing clashed create_missing make_file make_directory stopped
default_stream_there = refl

pub default_stream_of_directory :
    plain (directory 0x0) (codes "\\f::$data")
    ≡ fails FileIsADirectory  -- a stream part
    ∷ fails FileIsADirectory
    ∷ fails ObjectNameCollision  -- no stream is named, so the collision comes first
    ∷ fails FileIsADirectory
    ∷ fails FileIsADirectory
    ∷ fails FileIsADirectory
    ∷ []
unfolding try_create create_at create_walked create_named create_by_link create_found create_there create_in_file create_stream create_on_stream open_stream open_directory open_granted overwrite_existing open_existing clashed create_missing make_file make_directory stopped
default_stream_of_directory = refl

pub stream_of_readonly_there :
    plain (streamed 0x21) (codes "\\f:s")
    ≡ fails AccessDenied  -- WRITE_DATA is wanted
    ∷ fails AccessDenied
    ∷ fails ObjectNameCollision  -- before READONLY
    ∷ fails AccessDenied
    ∷ fails AccessDenied
    ∷ fails AccessDenied
    ∷ []
unfolding try_create create_at create_walked create_named create_by_link create_found create_there create_in_file create_stream create_on_stream open_stream open_directory open_granted overwrite_existing open_existing clashed create_missing make_file make_directory stopped
stream_of_readonly_there = refl

-- also where only READ_DATA is wanted
pub stream_of_readonly_missing :
    six (file 0x21) (codes "\\f:s") 0x1 0x0 0x0
    ≡ fails AccessDenied  -- a new stream of a READONLY file
    ∷ fails ObjectNameNotFound  -- before READONLY
    ∷ fails AccessDenied
    ∷ fails AccessDenied
    ∷ fails ObjectNameNotFound
    ∷ fails AccessDenied
    ∷ []
unfolding try_create create_at create_walked create_named create_by_link create_found create_there create_in_file create_stream create_on_stream open_stream open_directory open_granted overwrite_existing open_existing clashed create_missing make_file make_directory stopped
stream_of_readonly_missing = refl

pub stream_of_hidden_there :
    plain (streamed 0x22) (codes "\\f:s")
    ≡ fails AccessDenied  -- a named stream counts as well
    ∷ does Opened
    ∷ fails ObjectNameCollision
    ∷ does Opened
    ∷ fails AccessDenied
    ∷ fails AccessDenied
    ∷ []
unfolding try_create create_at create_walked create_named create_by_link create_found create_there create_in_file create_stream create_on_stream open_stream open_directory open_granted overwrite_existing open_existing clashed create_missing make_file make_directory stopped
stream_of_hidden_there = refl

pub stream_of_hidden_missing :
    plain (file 0x22) (codes "\\f:s")
    ≡ does Created  -- a new stream overwrites nothing
    ∷ fails ObjectNameNotFound
    ∷ does Created
    ∷ does Created
    ∷ fails ObjectNameNotFound
    ∷ does Created
    ∷ []
unfolding try_create create_at create_walked create_named create_by_link create_found create_there create_in_file create_stream create_on_stream open_stream open_directory open_granted overwrite_existing open_existing clashed create_missing make_file make_directory stopped
stream_of_hidden_missing = refl

-- ---- attributes and rights

-- a READONLY file opened to be read
pub readonly_read :
    six (file 0x21) (codes "\\f") 0x1 0x0 0x0
    ≡ fails AccessDenied  -- overwritten
    ∷ does Opened
    ∷ fails ObjectNameCollision
    ∷ does Opened
    ∷ fails AccessDenied  -- overwritten
    ∷ fails AccessDenied
    ∷ []
unfolding try_create create_at create_walked create_named create_by_link create_found create_there create_in_file create_stream create_on_stream open_stream open_directory open_granted overwrite_existing open_existing clashed create_missing make_file make_directory stopped
readonly_read = refl

-- APPEND_DATA is writing too
pub readonly_append :
    six (file 0x21) (codes "\\f") 0x4 0x0 0x0
    ≡ fails AccessDenied
    ∷ fails AccessDenied
    ∷ fails ObjectNameCollision
    ∷ fails AccessDenied
    ∷ fails AccessDenied
    ∷ fails AccessDenied
    ∷ []
unfolding try_create create_at create_walked create_named create_by_link create_found create_there create_in_file create_stream create_on_stream open_stream open_directory open_granted overwrite_existing open_existing clashed create_missing make_file make_directory stopped
readonly_append = refl

-- HIDDEN is in the request
pub hidden_kept :
    six (file 0x22) (codes "\\f") 0x3 0x0 0x2
    ≡ does Superseded
    ∷ does Opened
    ∷ fails ObjectNameCollision
    ∷ does Opened
    ∷ does Overwritten
    ∷ does Overwritten
    ∷ []
unfolding try_create create_at create_walked create_named create_by_link create_found create_there create_in_file create_stream create_on_stream open_stream open_directory open_granted overwrite_existing open_existing clashed create_missing make_file make_directory stopped
hidden_kept = refl

-- HIDDEN alone of the two is in the request
pub hidden_and_system :
    six (file 0x26) (codes "\\f") 0x3 0x0 0x2
    ≡ fails AccessDenied  -- SYSTEM lacks
    ∷ does Opened
    ∷ fails ObjectNameCollision
    ∷ does Opened
    ∷ fails AccessDenied
    ∷ fails AccessDenied
    ∷ []
unfolding try_create create_at create_walked create_named create_by_link create_found create_there create_in_file create_stream create_on_stream open_stream open_directory open_granted overwrite_existing open_existing clashed create_missing make_file make_directory stopped
hidden_and_system = refl

-- READ_DATA alone is granted, and wanted
pub may_read :
    six (listed (file 0x20) 2 0x1) (codes "\\f") 0x1 0x0 0x0
    ≡ fails AccessDenied  -- DELETE lacks
    ∷ does Opened
    ∷ fails ObjectNameCollision  -- before the check
    ∷ does Opened
    ∷ fails AccessDenied  -- WRITE_DATA lacks
    ∷ fails AccessDenied
    ∷ []
unfolding try_create create_at create_walked create_named create_by_link create_found create_there create_in_file create_stream create_on_stream open_stream open_directory open_granted overwrite_existing open_existing clashed create_missing make_file make_directory stopped
may_read = refl

-- WRITE_DATA as well
pub may_write :
    six (listed (file 0x20) 2 0x3) (codes "\\f") 0x1 0x0 0x0
    ≡ fails AccessDenied  -- DELETE lacks
    ∷ does Opened
    ∷ fails ObjectNameCollision
    ∷ does Opened
    ∷ does Overwritten
    ∷ does Overwritten
    ∷ []
unfolding try_create create_at create_walked create_named create_by_link create_found create_there create_in_file create_stream create_on_stream open_stream open_directory open_granted overwrite_existing open_existing clashed create_missing make_file make_directory stopped
may_write = refl

-- DELETE instead
pub may_delete :
    six (listed (file 0x20) 2 0x10001) (codes "\\f") 0x1 0x0 0x0
    ≡ does Superseded
    ∷ does Opened
    ∷ fails ObjectNameCollision
    ∷ does Opened
    ∷ fails AccessDenied  -- WRITE_DATA lacks
    ∷ fails AccessDenied
    ∷ []
unfolding try_create create_at create_walked create_named create_by_link create_found create_there create_in_file create_stream create_on_stream open_stream open_directory open_granted overwrite_existing open_existing clashed create_missing make_file make_directory stopped
may_delete = refl

pub new_stream_needs_write_data :
    six (listed (file 0x20) 2 0x1) (codes "\\f:s") 0x1 0x0 0x0
    ≡ fails AccessDenied  -- WRITE_DATA lacks
    ∷ fails ObjectNameNotFound  -- before the check
    ∷ fails AccessDenied
    ∷ fails AccessDenied
    ∷ fails ObjectNameNotFound
    ∷ fails AccessDenied
    ∷ []
unfolding try_create create_at create_walked create_named create_by_link create_found create_there create_in_file create_stream create_on_stream open_stream open_directory open_granted overwrite_existing open_existing clashed create_missing make_file make_directory stopped
new_stream_needs_write_data = refl

-- a parent that grants APPEND_DATA alone
pub file_in_parent :
    plain (listed empty 1 0x4) (codes "\\f")
    ≡ fails AccessDenied  -- a file needs WRITE_DATA
    ∷ fails ObjectNameNotFound  -- before the check
    ∷ fails AccessDenied
    ∷ fails AccessDenied
    ∷ fails ObjectNameNotFound
    ∷ fails AccessDenied
    ∷ []
unfolding try_create create_at create_walked create_named create_by_link create_found create_there create_in_file create_stream create_on_stream open_stream open_directory open_granted overwrite_existing open_existing clashed create_missing make_file make_directory stopped
file_in_parent = refl

pub directory_in_parent :
    six (listed empty 1 0x4) (codes "\\f") 0x1 0x1 0x0
    ≡ fails InvalidParameter  -- a directory is not superseded
    ∷ fails ObjectNameNotFound
    ∷ does Created  -- a directory needs APPEND_DATA
    ∷ does Created
    ∷ fails InvalidParameter  -- nor overwritten
    ∷ fails InvalidParameter
    ∷ []
unfolding try_create create_at create_walked create_named create_by_link create_found create_there create_in_file create_stream create_on_stream open_stream open_directory open_granted overwrite_existing open_existing clashed create_missing make_file make_directory stopped
directory_in_parent = refl

-- ---- options

-- DIRECTORY_FILE
pub directory_file_missing :
    six empty (codes "\\f") 0x1 0x1 0x0
    ≡ fails InvalidParameter
    ∷ fails ObjectNameNotFound
    ∷ does Created
    ∷ does Created
    ∷ fails InvalidParameter
    ∷ fails InvalidParameter
    ∷ []
unfolding try_create create_at create_walked create_named create_by_link create_found create_there create_in_file create_stream create_on_stream open_stream open_directory open_granted overwrite_existing open_existing clashed create_missing make_file make_directory stopped
directory_file_missing = refl

pub directory_file_on_file :
    six (file 0x20) (codes "\\f") 0x1 0x1 0x0
    ≡ fails InvalidParameter
    ∷ fails NotADirectory
    ∷ fails ObjectNameCollision  -- before the kind
    ∷ fails NotADirectory
    ∷ fails InvalidParameter
    ∷ fails InvalidParameter
    ∷ []
unfolding try_create create_at create_walked create_named create_by_link create_found create_there create_in_file create_stream create_on_stream open_stream open_directory open_granted overwrite_existing open_existing clashed create_missing make_file make_directory stopped
directory_file_on_file = refl

pub directory_file_on_directory :
    six (directory 0x0) (codes "\\f") 0x1 0x1 0x0
    ≡ fails InvalidParameter
    ∷ does Opened
    ∷ fails ObjectNameCollision
    ∷ does Opened
    ∷ fails InvalidParameter
    ∷ fails InvalidParameter
    ∷ []
unfolding try_create create_at create_walked create_named create_by_link create_found create_there create_in_file create_stream create_on_stream open_stream open_directory open_granted overwrite_existing open_existing clashed create_missing make_file make_directory stopped
directory_file_on_directory = refl

pub directory_file_and_stream :
    six empty (codes "\\f::$DATA") 0x1 0x1 0x0
    ≡ fails InvalidParameter
    ∷ fails NotADirectory  -- a stream part, before the path is walked
    ∷ fails NotADirectory
    ∷ fails NotADirectory
    ∷ fails InvalidParameter
    ∷ fails InvalidParameter
    ∷ []
unfolding try_create create_at create_walked create_named create_by_link create_found create_there create_in_file create_stream create_on_stream open_stream open_directory open_granted overwrite_existing open_existing clashed create_missing make_file make_directory stopped
directory_file_and_stream = refl

-- NON_DIRECTORY_FILE
pub file_on_directory :
    six (directory 0x0) (codes "\\f") 0x1 0x40 0x0
    ≡ fails FileIsADirectory
    ∷ fails FileIsADirectory
    ∷ fails ObjectNameCollision  -- before the kind
    ∷ fails FileIsADirectory
    ∷ fails FileIsADirectory
    ∷ fails FileIsADirectory
    ∷ []
unfolding try_create create_at create_walked create_named create_by_link create_found create_there create_in_file create_stream create_on_stream open_stream open_directory open_granted overwrite_existing open_existing clashed create_missing make_file make_directory stopped
file_on_directory = refl

-- DIRECTORY_FILE and NON_DIRECTORY_FILE
pub both_kinds :
    six empty (codes "\\f") 0x1 0x41 0x0
    ≡ fails InvalidParameter  -- whatever is there
    ∷ fails InvalidParameter
    ∷ fails InvalidParameter
    ∷ fails InvalidParameter
    ∷ fails InvalidParameter
    ∷ fails InvalidParameter
    ∷ []
unfolding try_create create_at create_walked create_named create_by_link create_found create_there create_in_file create_stream create_on_stream open_stream open_directory open_granted overwrite_existing open_existing clashed create_missing make_file make_directory stopped
both_kinds = refl

-- DELETE_ON_CLOSE, and DELETE is not wanted
pub deleted_without_delete :
    six empty (codes "f") 0x3 0x1000 0x0
    ≡ fails InvalidParameter  -- before the path
    ∷ fails InvalidParameter
    ∷ fails InvalidParameter
    ∷ fails InvalidParameter
    ∷ fails InvalidParameter
    ∷ fails InvalidParameter
    ∷ []
unfolding try_create create_at create_walked create_named create_by_link create_found create_there create_in_file create_stream create_on_stream open_stream open_directory open_granted overwrite_existing open_existing clashed create_missing make_file make_directory stopped
deleted_without_delete = refl

-- GENERIC_ALL has DELETE in it
pub deleted_with_all :
    six (file 0x20) (codes "\\f") 0x10000000 0x1000 0x0
    ≡ does Superseded
    ∷ does Opened
    ∷ fails ObjectNameCollision
    ∷ does Opened
    ∷ does Overwritten
    ∷ does Overwritten
    ∷ []
unfolding try_create create_at create_walked create_named create_by_link create_found create_there create_in_file create_stream create_on_stream open_stream open_directory open_granted overwrite_existing open_existing clashed create_missing make_file make_directory stopped
deleted_with_all = refl

pub deleted_readonly_file :
    six (file 0x21) (codes "\\f") 0x10000 0x1000 0x0
    ≡ fails AccessDenied  -- overwritten, before the deletion
    ∷ fails CannotDelete
    ∷ fails ObjectNameCollision
    ∷ fails CannotDelete
    ∷ fails AccessDenied
    ∷ fails AccessDenied
    ∷ []
unfolding try_create create_at create_walked create_named create_by_link create_found create_there create_in_file create_stream create_on_stream open_stream open_directory open_granted overwrite_existing open_existing clashed create_missing make_file make_directory stopped
deleted_readonly_file = refl

pub deleted_readonly_directory :
    six (directory 0x1) (codes "\\f") 0x10000 0x1000 0x0
    ≡ fails FileIsADirectory
    ∷ fails CannotDelete
    ∷ fails ObjectNameCollision
    ∷ fails CannotDelete
    ∷ fails FileIsADirectory
    ∷ fails FileIsADirectory
    ∷ []
unfolding try_create create_at create_walked create_named create_by_link create_found create_there create_in_file create_stream create_on_stream open_stream open_directory open_granted overwrite_existing open_existing clashed create_missing make_file make_directory stopped
deleted_readonly_directory = refl

pub deleted_root :
    six empty (codes "\\") 0x10000 0x1000 0x0
    ≡ fails FileIsADirectory
    ∷ fails CannotDelete
    ∷ fails ObjectNameCollision
    ∷ fails CannotDelete
    ∷ fails FileIsADirectory
    ∷ fails FileIsADirectory
    ∷ []
unfolding try_create create_at create_walked create_named create_by_link create_found create_there create_in_file create_stream create_on_stream open_stream open_directory open_granted overwrite_existing open_existing clashed create_missing make_file make_directory stopped
deleted_root = refl

-- READONLY is asked for with DELETE_ON_CLOSE
pub deleted_missing :
    six (listed empty 1 0x0) (codes "\\f") 0x10000 0x1000 0x1
    ≡ fails CannotDelete  -- before the rights to the parent
    ∷ fails ObjectNameNotFound
    ∷ fails CannotDelete
    ∷ fails CannotDelete
    ∷ fails ObjectNameNotFound
    ∷ fails CannotDelete
    ∷ []
unfolding try_create create_at create_walked create_named create_by_link create_found create_there create_in_file create_stream create_on_stream open_stream open_directory open_granted overwrite_existing open_existing clashed create_missing make_file make_directory stopped
deleted_missing = refl

-- OPEN_REPARSE_POINT
pub point_opened :
    six (pointed (file 0x20) 0xA000000C) (codes "\\f") 0x3 0x200000 0x0
    ≡ does Superseded
    ∷ does Opened
    ∷ fails ObjectNameCollision
    ∷ does Opened
    ∷ does Overwritten
    ∷ does Overwritten
    ∷ []
unfolding try_create create_at create_walked create_named create_by_link create_found create_there create_in_file create_stream create_on_stream open_stream open_directory open_granted overwrite_existing open_existing clashed create_missing make_file make_directory stopped
point_opened = refl

-- an attribute that cannot be asked for
pub outside_masks :
    six empty (codes "\\f") 0x3 0x0 0x400
    ≡ fails InvalidParameter  -- REPARSE_POINT is not set by an open
    ∷ fails InvalidParameter
    ∷ fails InvalidParameter
    ∷ fails InvalidParameter
    ∷ fails InvalidParameter
    ∷ fails InvalidParameter
    ∷ []
unfolding try_create create_at create_walked create_named create_by_link create_found create_there create_in_file create_stream create_on_stream open_stream open_directory open_granted overwrite_existing open_existing clashed create_missing make_file make_directory stopped
outside_masks = refl

pub no_right :
    six empty (codes "f") 0x0 0x1000 0x0
    ≡ fails AccessDenied  -- before DELETE_ON_CLOSE and the path
    ∷ fails AccessDenied
    ∷ fails AccessDenied
    ∷ fails AccessDenied
    ∷ fails AccessDenied
    ∷ fails AccessDenied
    ∷ []
unfolding try_create create_at create_walked create_named create_by_link create_found create_there create_in_file create_stream create_on_stream open_stream open_directory open_granted overwrite_existing open_existing clashed create_missing make_file make_directory stopped
no_right = refl

pub no_path :
    plain empty (codes "f")
    ≡ fails ObjectNameInvalid  -- no separator first
    ∷ fails ObjectNameInvalid
    ∷ fails ObjectNameInvalid
    ∷ fails ObjectNameInvalid
    ∷ fails ObjectNameInvalid
    ∷ fails ObjectNameInvalid
    ∷ []
unfolding try_create create_at create_walked create_named create_by_link create_found create_there create_in_file create_stream create_on_stream open_stream open_directory open_granted overwrite_existing open_existing clashed create_missing make_file make_directory stopped
no_path = refl

-- ---- the way to the last name

pub way_missing :
    plain empty (codes "\\f\\x")
    ≡ fails ObjectPathNotFound  -- before the disposition is asked
    ∷ fails ObjectPathNotFound
    ∷ fails ObjectPathNotFound
    ∷ fails ObjectPathNotFound
    ∷ fails ObjectPathNotFound
    ∷ fails ObjectPathNotFound
    ∷ []
unfolding try_create create_at create_walked create_named create_by_link create_found create_there create_in_file create_stream create_on_stream open_stream open_directory open_granted overwrite_existing open_existing clashed create_missing make_file make_directory stopped
way_missing = refl

pub way_is_file :
    plain (file 0x20) (codes "\\f\\x")
    ≡ fails ObjectPathNotFound  -- a file has no names in it
    ∷ fails ObjectPathNotFound
    ∷ fails ObjectPathNotFound
    ∷ fails ObjectPathNotFound
    ∷ fails ObjectPathNotFound
    ∷ fails ObjectPathNotFound
    ∷ []
unfolding try_create create_at create_walked create_named create_by_link create_found create_there create_in_file create_stream create_on_stream open_stream open_directory open_granted overwrite_existing open_existing clashed create_missing make_file make_directory stopped
way_is_file = refl

-- the last name is missing in it
pub way_is_directory :
    plain (directory 0x0) (codes "\\f\\x")
    ≡ does Created
    ∷ fails ObjectNameNotFound
    ∷ does Created
    ∷ does Created
    ∷ fails ObjectNameNotFound
    ∷ does Created
    ∷ []
unfolding try_create create_at create_walked create_named create_by_link create_found create_there create_in_file create_stream create_on_stream open_stream open_directory open_granted overwrite_existing open_existing clashed create_missing make_file make_directory stopped
way_is_directory = refl

pub way_is_marked :
    plain (with_link_marked (pointed (file 0x20) 0xA000000C) 1 true) (codes "\\f\\x")
    ≡ fails DeletePending  -- before the point and the kind
    ∷ fails DeletePending
    ∷ fails DeletePending
    ∷ fails DeletePending
    ∷ fails DeletePending
    ∷ fails DeletePending
    ∷ []
unfolding try_create create_at create_walked create_named create_by_link create_found create_there create_in_file create_stream create_on_stream open_stream open_directory open_granted overwrite_existing open_existing clashed create_missing make_file make_directory stopped
way_is_marked = refl

-- OPEN_REPARSE_POINT speaks of the last name alone
pub way_is_symbolic_link :
    six (pointed (directory 0x0) 0xA000000C) (codes "\\f\\x\\y:s") 0x3 0x200000 0x0
    ≡ stops StoppedOnSymlink 0xA000000C (65 ∷ 0 ∷ []) (codes "x\\y:s")  -- the rest of the path with its stream part
    ∷ stops StoppedOnSymlink 0xA000000C (65 ∷ 0 ∷ []) (codes "x\\y:s")
    ∷ stops StoppedOnSymlink 0xA000000C (65 ∷ 0 ∷ []) (codes "x\\y:s")
    ∷ stops StoppedOnSymlink 0xA000000C (65 ∷ 0 ∷ []) (codes "x\\y:s")
    ∷ stops StoppedOnSymlink 0xA000000C (65 ∷ 0 ∷ []) (codes "x\\y:s")
    ∷ stops StoppedOnSymlink 0xA000000C (65 ∷ 0 ∷ []) (codes "x\\y:s")
    ∷ []
unfolding try_create create_at create_walked create_named create_by_link create_found create_there create_in_file create_stream create_on_stream open_stream open_directory open_granted overwrite_existing open_existing clashed create_missing make_file make_directory stopped
way_is_symbolic_link = refl

-- a file with a point
pub way_is_other_point :
    plain (pointed (file 0x20) 0xA0000003) (codes "\\f\\x")
    ≡ stops Reparse 0xA0000003 (65 ∷ 0 ∷ []) (codes "x")  -- before its kind
    ∷ stops Reparse 0xA0000003 (65 ∷ 0 ∷ []) (codes "x")
    ∷ stops Reparse 0xA0000003 (65 ∷ 0 ∷ []) (codes "x")
    ∷ stops Reparse 0xA0000003 (65 ∷ 0 ∷ []) (codes "x")
    ∷ stops Reparse 0xA0000003 (65 ∷ 0 ∷ []) (codes "x")
    ∷ stops Reparse 0xA0000003 (65 ∷ 0 ∷ []) (codes "x")
    ∷ []
unfolding try_create create_at create_walked create_named create_by_link create_found create_there create_in_file create_stream create_on_stream open_stream open_directory open_granted overwrite_existing open_existing clashed create_missing make_file make_directory stopped
way_is_other_point = refl
