-- The volume: a record of plain lists, after the abstract data model of [MS-FSA], 'Per Volume' to
-- 'Per Oplock'.
use Rattle.std.specs.Prelude.{ℕ, Bool, true, List, [], ◌∷◌, Option, None, false, map}
pub use Rattle.fsa_types.specs.Oplocks.{Oplock}
pub use Rattle.fsa_types.specs.Pending.{Pending}
pub use Rattle.fsa_types.specs.Ranges.{Lock}
pub use Rattle.fsa_types.specs.Rows.{row_of, lives, without_row, with_row_changed}
pub use Rattle.fsa_types.specs.Watches.{Watch, Change}
use Rattle.fsa_types.specs.declared.request.Ace.{Ace}
use Rattle.fsa_types.specs.declared.reply.EndOf.{EndOf}
use Rattle.fsa_model.specs.Setup.{Client, Setup}

-- a file or a directory ('Per File'); times are ticks of the clock; without an
-- access list all is granted; a reparse point is its tag and its bytes
pub record File : Type 0 where
  pub directory : Bool
  pub attributes : ℕ
  pub creation : ℕ
  pub access : ℕ
  pub write : ℕ
  pub change : ℕ
  pub owner : ℕ
  pub dacl : Option (List Ace)
  pub point : Option (ℕ × List ℕ)

-- a name of a file in its parent directory ('Per Link'), marked deleted or not
pub record Link : Type 0 where
  pub parent : ℕ
  pub name : List ℕ
  pub file : ℕ
  pub deleted : Bool

-- a stream of a file ('Per Stream'); the default stream's name is empty
pub record Stream : Type 0 where
  pub file : ℕ
  pub name : List ℕ
  pub bytes : List ℕ
  pub deleted : Bool

-- where a directory's enumeration stands
pub data Cursor : Type 0 where
  Start : Cursor
  Dot : Cursor
  DotDot : Cursor
  After : List ℕ → Cursor

-- an open ('Per Open'): the client and the number of the call that opened it; link 0 is the root's;
-- no stream for a directory; the expression and the cursor of its enumeration, once there is one
pub record Handle : Type 0 where
  pub client : ℕ
  pub number : ℕ
  pub link : ℕ
  pub stream : Option ℕ
  pub access : ℕ
  pub share : ℕ
  pub key : ℕ
  pub delete_on_close : Bool
  pub enumeration : Option (List ℕ × Cursor)

-- files, links, streams, handles and locks stand under their numbers, pending calls under their
-- turns; for each client, in order, whether it has left
pub record Volume : Type 0 where
  pub table : List (ℕ × ℕ)
  pub clients : List Client
  pub files : List (ℕ × File)
  pub links : List (ℕ × Link)
  pub streams : List (ℕ × Stream)
  pub handles : List (ℕ × Handle)
  pub locks : List (ℕ × Lock)
  pub oplocks : List Oplock
  pub pending : List (ℕ × Pending)
  pub ended : List EndOf
  pub watches : List Watch
  pub changes : List Change
  pub limits : List (ℕ × ℕ)
  pub clock : ℕ
  pub left : List Bool
  pub last_file : ℕ
  pub last_link : ℕ
  pub last_stream : ℕ
  pub last_handle : ℕ
  pub last_lock : ℕ
  pub last_break : ℕ

-- the root directory: owner 0, no access list
abbrev pub root : File
root = record { directory = true; attributes = 0; creation = 0; access = 0; write = 0; change = 0; owner = 0; dacl = None; point = None }

-- a volume with the root alone
abbrev pub fresh : Setup → Volume
fresh setup = record {
  table = setup.table;
  clients = setup.clients;
  files = (1, root) ∷ [];
  links = [];
  streams = [];
  handles = [];
  locks = [];
  oplocks = [];
  pending = [];
  ended = [];
  watches = [];
  changes = [];
  limits = [];
  clock = 0;
  left = map (λ _. false) setup.clients;
  last_file = 1;
  last_link = 0;
  last_stream = 0;
  last_handle = 0;
  last_lock = 0;
  last_break = 0;
}
