-- A break of oplocks, as its parts see it.
use Rattle.std.specs.Prelude.{ℕ, List, []}
use Rattle.fsa_types.specs.declared.reply.EndOf.{EndOf}
use Rattle.fsa_types.specs.declared.status.Status.TheVariants.{OplockSwitchedToNewHandle}
use Rattle.fsa_model.specs.Breaks.{with_told}
use Rattle.fsa_model.specs.Grant.{with_call_ended}
use Rattle.fsa_model.specs.Volume.{Link, Stream, Handle, Oplock, Pending, Volume}
use Rattle.volume_breaks.specs.declared.telling.Told.{Told}

-- a volume of these tables alone: they say which oplocks are chosen, and in what order they are broken
abbrev pub tree_of : List (ℕ × ℕ) → List (ℕ × Link) → List (ℕ × Stream) → List (ℕ × Handle) → Volume
tree_of table links streams handles = record {
  table = table;
  clients = [];
  files = [];
  links = links;
  streams = streams;
  handles = handles;
  locks = [];
  oplocks = [];
  pending = [];
  ended = [];
  watches = [];
  changes = [];
  limits = [];
  clock = 0;
  left = [];
  last_file = 0;
  last_link = 0;
  last_stream = 0;
  last_handle = 0;
  last_lock = 0;
  last_break = 0;
}

-- a volume with these pending calls, and these that have ended
abbrev pub with_calls : Volume → List (ℕ × Pending) → List EndOf → Volume
with_calls v pending ended = record v { pending = pending; ended = ended }

-- the same with these oplocks, and the last number of a break
abbrev pub with_held : Volume → List Oplock → ℕ → List (ℕ × Pending) → List EndOf → Volume
with_held v oplocks last pending ended = record v { oplocks = oplocks; last_break = last; pending = pending; ended = ended }

-- the call that was pending as granted to a holder who is told has ended so
abbrev pub with_holder_told : Volume → Told → Volume
with_holder_told v told = with_told v told.call told.level told.ack

-- the call of an oplock that a grant switches has ended so
abbrev pub with_switch_told : Volume → Oplock → Volume
with_switch_told v oplock = with_call_ended v oplock.call OplockSwitchedToNewHandle
