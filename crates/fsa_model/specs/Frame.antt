-- The frame of a try: what one try of a call may change of clients, clock, handles, locks and pending calls, how
-- many numbers it may give, how much its reply may hold, and what it leaves where it fails, is held or stays.
-- Of files, links, streams, oplocks and watches it says nothing where the try succeeds.
use Rattle.std.specs.Prelude.{◌≡◌, ◌≤◌, ◌+◌, ℕ, ◌⊎◌, Bool, true, false, nat_le, List, ◌++◌, map, fold, length, slice_set, Option, None, All, IsTrue}
use Rattle.fsa_types.specs.Reply.{bytes_of_body, units_of_body}
use Rattle.fsa_types.specs.Request.{what_fits}
use Rattle.fsa_types.specs.Status.{status_code}
use Rattle.fsa_types.specs.declared.oplock.Class.{Class}
use Rattle.fsa_types.specs.declared.oplock.HandleSet.{HandleSet}
use Rattle.fsa_types.specs.declared.reply.Body.{Body}
use Rattle.fsa_types.specs.declared.reply.EndOf.{EndOf}
use Rattle.fsa_types.specs.declared.reply.Reply.{Reply}
use Rattle.fsa_types.specs.declared.request.Call.{Call}
use Rattle.fsa_types.specs.declared.request.Request.TheVariants as request
use Rattle.fsa_types.specs.declared.request.What.{What}
use Rattle.fsa_types.specs.declared.request.What.TheVariants.{Ask, Tick, WaitFor, Leave}
use Rattle.fsa_types.specs.declared.status.Status.{Status}
use Rattle.fsa_model.specs.Bounds.{most_point_bytes}
use Rattle.fsa_model.specs.Breaks.{with_breaks}
use Rattle.fsa_model.specs.Outcome.{Outcome, Done, Stay, Hold}
use Rattle.fsa_model.specs.Sound.{PointFits}
use Rattle.fsa_model.specs.Volume.{Handle, Lock, Volume}
use Rattle.fsa_model.specs.Waiting.{is_pending}

-- ---- what is asked

-- a client leaves
abbrev pub is_leave : What → Bool
is_leave Leave = true
is_leave _ = false

-- so many ticks pass
abbrev pub ticks_of : What → ℕ
ticks_of (Tick ticks) = ticks
ticks_of _ = 0

-- a handle may be opened
abbrev pub asks_create : What → Bool
asks_create (Ask (request.Create path wanted share disposition options attributes key)) = true
asks_create _ = false

-- a range may be locked
abbrev pub is_lock : What → Bool
is_lock (Ask (request.Lock handle at count exclusive wait)) = true
is_lock _ = false

-- a directory is enumerated
abbrev pub is_query_dir : What → Bool
is_query_dir (Ask (request.QueryDir handle kind expression restart room)) = true
is_query_dir _ = false

-- ---- what is replied

-- the most bytes that a reply holds: a path may stop at a reparse point
abbrev pub most_reply_bytes : What → ℕ
most_reply_bytes (Ask (request.Create path wanted share disposition options attributes key)) = most_point_bytes
most_reply_bytes (Ask (request.Rename handle path replace)) = most_point_bytes
most_reply_bytes (Ask (request.Link handle path replace)) = most_point_bytes
most_reply_bytes (Ask (request.Read handle at count)) = count
most_reply_bytes (Ask (request.QueryDir handle kind expression restart room)) = room
most_reply_bytes (Ask (request.Notify handle filter tree room)) = room
most_reply_bytes (Ask (request.QueryInfo handle kind room)) = room
most_reply_bytes (Ask (request.GetReparse handle room)) = room
most_reply_bytes _ = 0

-- the most units: what is left of such a path
abbrev pub most_reply_units : What → ℕ
most_reply_units (Ask (request.Create path wanted share disposition options attributes key)) = length path
most_reply_units (Ask (request.Rename handle path replace)) = length path
most_reply_units (Ask (request.Link handle path replace)) = length path
most_reply_units _ = 0

-- the reply holds no more
pub record FitsReply (what : What) (reply : Reply) : Type 0 where
  pub bytes : bytes_of_body reply.body ≤ most_reply_bytes what
  pub units : units_of_body reply.body ≤ most_reply_units what

-- it holds neither
pub record IsBare (body : Body) : Type 0 where
  pub bytes : bytes_of_body body ≡ 0
  pub units : units_of_body body ≡ 0

-- a status of a warning or of an error
abbrev pub is_failure : Status → Bool
is_failure status = nat_le 0x80000000 (status_code status)

-- each reparse point has at most most_point_bytes
abbrev pub PointsFit : Volume → Type 0
PointsFit v = All (λ entry. PointFits entry.1) v.files

-- ---- what changes in any case

-- a handle but for how far its directory is enumerated
abbrev pub unenumerated : Handle → Handle
unenumerated handle = record handle { enumeration = None }

-- what of each handle this call leaves as it was: all of it, where no directory is enumerated
abbrev pub lasting : What → Handle → Handle
lasting (Ask (request.QueryDir handle kind expression restart room)) held = unenumerated held
lasting _ held = held

abbrev pub all_unenumerated : List (ℕ × Handle) → List (ℕ × Handle)
all_unenumerated handles = map {B = ℕ × Handle} (λ entry. (entry.0, unenumerated entry.1)) handles

-- further calls ended, each of which was pending, with neither bytes nor units
pub record EndsPending (v w : Volume) : Type 0 where
  pub more : List EndOf
  pub is : w.ended ≡ v.ended ++ more
  pub bare : All (λ end. IsBare end.reply.body) more
  pub were_pending : All (λ end. IsTrue (is_pending v end.client end.number)) more

-- few numbers were given, those of handles only to an open and those of locks only to a lock
pub record GivesFew (what : What) (v w : Volume) : Type 0 where
  pub files : w.last_file ≤ v.last_file + 1
  pub links : w.last_link ≤ v.last_link + 1
  pub streams : w.last_stream ≤ v.last_stream + 2
  pub handles : w.last_handle ≤ v.last_handle + 1
  pub locks : w.last_lock ≤ v.last_lock + 1
  pub handles_of_creates : asks_create what ≡ false → w.last_handle ≡ v.last_handle
  pub locks_of_locks : is_lock what ≡ false → w.last_lock ≡ v.last_lock

-- what a try of this call may change, however it comes out
pub record KeepsFrame (call : Call) (v w : Volume) : Type 0 where
  pub table : w.table ≡ v.table
  pub clients : w.clients ≡ v.clients
  -- who has left is as before, but for the call's own client where it leaves; and the clock, but for a tick
  pub left : (w.left ≡ v.left) ⊎ ((is_leave call.what ≡ true) × (w.left ≡ slice_set v.left call.client true))
  pub clock : (w.clock ≡ v.clock) ⊎ (w.clock ≡ v.clock + ticks_of call.what)
  -- what is true of each handle that was there, and of each that the call may have opened, is true of each
  -- that is there then
  pub handles : (test : ℕ × Handle → Bool) → All (λ entry. IsTrue (test (entry.0, lasting call.what entry.1))) v.handles
      → ((handle : Handle) → asks_create call.what ≡ true → handle.client ≡ call.client → handle.number ≡ call.number → IsTrue (test (v.last_handle + 1, handle)))
      → All (λ entry. IsTrue (test (entry.0, lasting call.what entry.1))) w.handles
  -- and so for locks
  pub locks : (test : ℕ × Lock → Bool) → All (λ entry. IsTrue (test entry)) v.locks
      → ((lock : Lock) → is_lock call.what ≡ true → IsTrue (test (v.last_lock + 1, lock))) → All (λ entry. IsTrue (test entry)) w.locks
  pub numbers : GivesFew call.what v w
  -- no call becomes pending, and which calls end
  pub pending : (client number : ℕ) → IsTrue (is_pending w client number) → IsTrue (is_pending v client number)
  pub ended : EndsPending v w
  -- reparse points have as few bytes as before
  pub points : IsTrue (what_fits call.what) → PointsFit v → PointsFit w

-- ---- what a call leaves that fails, is held or stays

-- a break of oplocks: of these handles, by this class, by this handle, where it has one, and with this key
pub record Breaking : Type 0 where
  pub on : HandleSet
  pub class : Class
  pub acting : Option ℕ
  pub key : ℕ

-- all these breaks, one after the other
abbrev pub with_all_breaks : List Breaking → Volume → Volume
with_all_breaks breaks v = fold (λ w broken. with_breaks w broken.on broken.class broken.acting broken.key) v breaks

-- nothing changed but what breaks change
pub record OnlyBreaks (v w : Volume) : Type 0 where
  pub breaks : List Breaking
  pub is : w ≡ with_all_breaks breaks v

-- nothing changed but how far directories are enumerated, and that only by an enumeration
pub record OnlyEnumerates (what : What) (v w : Volume) : Type 0 where
  pub rest : w ≡ record v { handles = w.handles }
  pub handles : all_unenumerated w.handles ≡ all_unenumerated v.handles
  pub query_dir : is_query_dir what ≡ false → w.handles ≡ v.handles

-- a call that fails changed nothing but breaks, and enumerations after them
pub record FailsTo (what : What) (v w : Volume) : Type 0 where
  pub broken : Volume
  pub breaks : OnlyBreaks v broken
  pub enumerates : OnlyEnumerates what broken w

-- one volume, with the oplocks of another, and with the calls that are pending and have ended there
abbrev pub with_oplocks_of : Volume → Volume → Volume
with_oplocks_of v w = record v { oplocks = w.oplocks; pending = w.pending; ended = w.ended }

-- nothing changed but oplocks, and the calls that were pending for them
pub record OnlyOplocks (v w : Volume) : Type 0 where
  pub is : w ≡ with_oplocks_of v w

-- nothing changed but watches
pub record OnlyWatches (v w : Volume) : Type 0 where
  pub is : w ≡ record v { watches = w.watches }

-- which calls may stay pending without a blocker, and what they leave: a wait for a call that is pending,
-- which changes nothing; an oplock that is granted, or kept by an acknowledgement; and a watch
abbrev pub StaysTo : Volume → ℕ → What → Volume → Type 0
StaysTo v client (WaitFor number) w = IsTrue (is_pending v client number) × (w ≡ v)
StaysTo v client (Ask (request.Oplock handle level)) w = OnlyOplocks v w
StaysTo v client (Ask (request.Ack handle level)) w = OnlyOplocks v w
StaysTo v client (Ask (request.Notify handle filter tree room)) w = OnlyWatches v w
StaysTo v client _ w = ⊥

-- ---- any try

-- by how it comes out: it ends with a reply within bounds, and where it failed it changed no more than that; or
-- it stays pending; or it is held
abbrev pub FramedTo : Call → Volume → Outcome → Type 0
FramedTo call v (Done w reply) = KeepsFrame call v w × (FitsReply call.what reply × (is_failure reply.status ≡ true → FailsTo call.what v w))
FramedTo call v (Stay w interim) = KeepsFrame call v w × StaysTo v call.client call.what w
FramedTo call v (Hold w blockers interim) = KeepsFrame call v w × OnlyBreaks v w

-- a try of this call comes to this outcome within its frame
pub record InFrame (call : Call) (v : Volume) (outcome : Outcome) : Type 0 where
  pub so : FramedTo call v outcome
