-- What a volume begins with: the case table and the clients with their SIDs.
use Rattle.std.specs.Prelude.{ℕ, List, map}
use Rattle.fsa_types.specs.declared.setup.Setup.{Setup as GivenSetup}
use Rattle.fsa_types.specs.declared.setup.Client.{Client as GivenClient}
use Rattle.fsa_types.specs.declared.request.Call.{Call}

-- a client: its name, and its SIDs in order; the first owns what it makes
pub record Client : Type 0 where
  pub name : List ℕ
  pub sids : List ℕ

-- the case table, as pairs of a unit and what it is upcased to, and the clients in order
pub record Setup : Type 0 where
  pub table : List (ℕ × ℕ)
  pub clients : List Client

abbrev pub client_of : GivenClient → Client
client_of client = record { name = client.name; sids = client.sids.items }

-- the setup that is given to a volume, without the room of its lists
abbrev pub setup_of : GivenSetup → Setup
setup_of setup = record { table = setup.table; clients = map client_of setup.clients.items }

-- what a script says: the setup, and the calls of its lines in order
pub record Script : Type 0 where
  pub setup : Setup
  pub lines : List Call
