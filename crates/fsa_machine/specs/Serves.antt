-- What one try of a call asks of the volume, and what the volume is between tries.
use Rattle.std.specs.Prelude.{◌≡◌, ℕ, ◌+◌, ◌*◌, ◌<◌, ◌≤◌, ◌==◌, Bool, true, false, ◌&&◌, ◌||◌, nat_lt, List, None, All, IsTrue, length}
use Rattle.std.specs.Option.{ForSome}
use Rattle.fsa_types.specs.Rows.{lives, row_of}
use Rattle.fsa_types.specs.Request.{what_fits}
use Rattle.fsa_types.specs.declared.reply.Blocker.{Blocker}
use Rattle.fsa_types.specs.declared.request.Call.{Call}
use Rattle.fsa_types.specs.declared.request.What.{What}
use Rattle.fsa_types.specs.declared.request.What.TheVariants.{WaitFor}
use Rattle.fsa_model.specs.Bounds.{most_entries}
use Rattle.fsa_model.specs.Frame.{PointsFit}
use Rattle.fsa_model.specs.LineCalls.{IsLineCall, ticks_fit}
use Rattle.fsa_model.specs.Lookups.{handle_of}
use Rattle.fsa_model.specs.Once.{IsOnce, how_many, made, times}
use Rattle.fsa_model.specs.Settling.{is_held_wrongly, unbroken}
use Rattle.fsa_model.specs.Volume.{Volume}
use Rattle.fsa_model.specs.Waiting.{blocker_lives, has_ended, is_held, is_pending}

-- ---- numbers

-- numbers are left for one turn more than a history may have entries
abbrev pub most_turns : ℕ
most_turns = most_entries + 1

-- how many numbers of each kind were given at most in so many turns, and how far the clock went on
pub record GivesUpTo (v : Volume) (turns : ℕ) : Type 0 where
  pub files : v.last_file ≤ turns
  pub links : v.last_link ≤ turns
  pub streams : v.last_stream ≤ turns * 2
  pub handles : v.last_handle ≤ turns
  pub locks : v.last_lock ≤ turns
  pub clock : v.clock ≤ turns * 4294967296

-- how many breaks were begun at most in so many turns, and how many oplocks there are
pub record BreaksUpTo (v : Volume) (turns : ℕ) : Type 0 where
  pub breaks : v.last_break ≤ turns
  pub oplocks : length v.oplocks ≤ turns

-- ---- a try

-- of the client's calls those of lesser numbers than this one were made, from 1 on, each once, and no others
pub record KnowsEarlier (v : Volume) (client number earlier : ℕ) : Type 0 where
  pub made : (has_ended v client earlier || is_pending v client earlier) ≡ (nat_lt 0 earlier && nat_lt earlier number)
  pub apart : (has_ended v client earlier && is_pending v client earlier) ≡ false

-- a wait for a call asks whether that was made
abbrev pub KnowsWaited : Volume → ℕ → ℕ → What → Type 0
KnowsWaited v client number (WaitFor earlier) = KnowsEarlier v client number earlier
KnowsWaited v client number _ = Unit {0}

-- a try of this call may be made: it is one that a line can ask, of a client of the volume, no handle has its
-- client and number, reparse points fit a reply, handles were opened by calls, numbers are left, and where it is
-- a wait it is known which calls were made
pub record MayTry (v : Volume) (call : Call) : Type 0 where
  pub points : PointsFit v
  pub asked : IsLineCall (length v.clients) call
  pub new : handle_of v call.client call.number ≡ None
  pub opened : All (λ entry. 0 < entry.1.number) v.handles
  pub gives : GivesUpTo v most_turns
  pub breaks : BreaksUpTo v most_turns
  pub waited : KnowsWaited v call.client call.number call.what

-- ---- a call that is pending

-- this call may become pending under this turn: it is of a client of the volume, neither it nor another call
-- under that turn is pending, and what it waits for lives
pub record MayPend (v : Volume) (turn : ℕ) (call : Call) (blockers : List Blocker) : Type 0 where
  pub client : call.client < length v.clients
  pub new : is_pending v call.client call.number ≡ false
  pub free : lives v.pending turn ≡ false
  pub living : All (λ b. blocker_lives v b ≡ true) blockers

-- the call that is pending under this turn is held, and may be held anew by these: there are some, and they live
pub record MayHoldAnew (v : Volume) (turn : ℕ) (blockers : List Blocker) : Type 0 where
  pub there : lives v.pending turn ≡ true
  pub held : ForSome (row_of v.pending turn) (λ row. is_held row ≡ true)
  pub some : (length blockers == 0) ≡ false
  pub living : All (λ b. blocker_lives v b ≡ true) blockers

-- ---- between tries

-- the call is one that a line can ask, of one of so many clients
abbrev pub is_line_call : ℕ → Call → Bool
is_line_call clients call = what_fits call.what && (ticks_fit call.what && nat_lt call.client clients)

-- what a wait waits for was made
abbrev pub awaits_made : Volume → ℕ → What → Bool
awaits_made v client (WaitFor earlier) = nat_lt 0 (times client earlier v)
awaits_made v client _ = true

-- between tries a volume is so: reparse points fit a reply; no call is there twice; each pending call is one that
-- a line can ask, with a number, and waits for no call that wasn't made; each handle was opened by a call that has
-- ended; few numbers were given; and the breaks that were begun and those that the oplocks without one can still
-- come to are so many at most
pub record ServesWithin (v : Volume) (most : ℕ) : Type 0 where
  pub points : PointsFit v
  pub once : IsOnce v
  pub asked : All (λ entry. IsTrue (is_line_call (length v.clients) entry.1.call)) v.pending
  pub numbered : All (λ entry. IsTrue (nat_lt 0 entry.1.call.number)) v.pending
  pub waited : All (λ entry. IsTrue (awaits_made v entry.1.call.client entry.1.call.what)) v.pending
  pub handles : All (λ entry. IsTrue (has_ended v entry.1.client entry.1.number)) v.handles
  pub opened : All (λ entry. IsTrue (nat_lt 0 entry.1.number)) v.handles
  pub gives : GivesUpTo v (length v.ended + 1)
  pub breaks : v.last_break + unbroken v ≤ most

-- no more breaks than calls were made: each call is granted one oplock at most
abbrev pub Serves : Volume → Type 0
Serves v = ServesWithin v (made v)

-- only what breaks and locks can hold is held
abbrev pub HoldsRightly : Volume → Type 0
HoldsRightly v = how_many is_held_wrongly v.pending ≡ 0

-- the table and the clients are as they were
pub record SameBase (v w : Volume) : Type 0 where
  pub table : w.table ≡ v.table
  pub clients : w.clients ≡ v.clients

-- what has become of a volume is so too, with the same table and clients
pub record ServesOn (v w : Volume) : Type 0 where
  pub serves : Serves w
  pub base : SameBase v w
